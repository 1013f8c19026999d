-- What a declaration binds is read exactly, with a value or without.
use Rattle.std.specs.Prelude.{◌≡◌, ℕ, Bool, true, false, ◌||◌}
use Rattle.esb_token.specs.declared.token.Token.{Token}
use Rattle.esb_tree.specs.declared.expressions.Expression.{Expression}
use Rattle.esb_grammar.specs.declared.context.Context.{Context}
use Rattle.esb_grammar.specs.Grammar.{IsAssignment}
use Rattle.esb_grammar.specs.Kinds.{is_comma}
use Rattle.esb_grammar.specs.Semicolons.{expression_goes_on}
use Rattle.esb_reader.specs.declared.node.Node.{Node}
use Rattle.esb_reader.specs.Places.{Text}
use Rattle.esb_reader.specs.Reader.{Reader}
use Rattle.esb_reader.specs.Stands.{Rule}
use Rattle.esb_expression_laws.specs.Leaves.{expressions}
use Rattle.esb_literal_laws.specs.Laws.{ReadsWithin}
use Rattle.esb_statement_laws.specs.Marks.{ends_expression}
use Rattle.esb_statement_laws.specs.Declarations.{ReadsBindings}
use Rattle.esb_binding_laws.specs.Loose.{loose, loose_stops}

-- What ends the values: the tokens that end all expressions, a comma, and a token of the next line that does not go on with the value.
pub record EndsValues (text : Text) (c : Context) (stops : Expression → Token → Bool) : Type 0 where
  pub ends : (x : Expression) (t : Token) → IsAssignment text c x → ends_expression t.kind || is_comma t.kind ≡ true → stops x t ≡ true
  pub next_line : (x : Expression) (t : Token) → IsAssignment text c x → t.after_line ≡ true → expression_goes_on x t ≡ false → stops x t ≡ true

-- how bindings are read, and what ends them
pub record ReadsLoose (text : Text) (values : Context → ℕ → Reader (Node Expression)) (c : Context) (n : ℕ) (stops : Expression → Token → Bool) : Type 0 where
  pub reads : ReadsBindings text c n (loose text values c n)
  pub stop : (x : Expression) (t : Token) → reads.stops x t ≡ loose_stops stops x t

-- Where values are read exactly, as far as these tokens end them, so are bindings.
abbrev pub LooseRule : Type 0
LooseRule =
    (text : Text) (values : Context → ℕ → Reader (Node Expression)) (c : Context) (n : ℕ) (stops : Expression → Token → Bool) → ReadsWithin text n values
    → Rule text (expressions (IsAssignment text c)) n n stops (values c n) → EndsValues text c stops
    → ReadsLoose text values c n stops
