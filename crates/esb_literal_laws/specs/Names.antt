-- Names of properties (ECMA-262, 12.2.6).
use Rattle.std.specs.Prelude.{ℕ}
use Rattle.esb_token.specs.declared.kind.Kind.TheVariants as k
use Rattle.esb_token.specs.declared.token.Token.{Token}
use Rattle.esb_token.specs.declared.goal.Goal.TheVariants as goal
use Rattle.esb_tree.specs.declared.expressions.Expression.{Expression}
use Rattle.esb_tree.specs.declared.patterns.PropertyName.{PropertyName}
use Rattle.esb_tree.specs.declared.patterns.PropertyName.TheVariants as pn
use Rattle.esb_grammar.specs.declared.context.Context.{Context}
use Rattle.esb_grammar.specs.Contexts.{inside}
use Rattle.esb_grammar.specs.Kinds.{is_property_word, is_left_bracket}
use Rattle.esb_reader.specs.declared.node.Node.{Node}
use Rattle.esb_reader.specs.Places.{Text}
use Rattle.esb_reader.specs.Reader.{Reader}
use Rattle.esb_reader.specs.Parts.{token, token_in, both, made, choice}

abbrev pub make_computed : Token × (Expression × Token) → PropertyName
make_computed p = pn.Computed p.0 p.1.0 p.1.1

unfoldable pub literal_name : Text → Reader (Node PropertyName)
literal_name text = made pn.Named 0 (token_in text goal.Div (λ t. is_property_word t.kind))

-- `values` reads an AssignmentExpression in a context within the levels below a number
module _ (text : Text) (values : Context → ℕ → Reader (Node Expression)) where
  unfoldable pub computed_name : Context → ℕ → Reader (Node PropertyName)
  computed_name c n = made make_computed 0 (both (token text k.LeftBracket) (both (values (inside c) n) (token text k.RightBracket)))

  unfoldable pub property_name : Context → ℕ → Reader (Node PropertyName)
  property_name c n = choice text (λ t. is_left_bracket t.kind) (computed_name c n) (literal_name text)
