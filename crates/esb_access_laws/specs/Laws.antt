-- Members, calls, `new` and optional chains are read exactly.
use Rattle.std.specs.Prelude.{ℕ, suc, Bool, true, false, not, ◌&&◌}
use Rattle.esb_token.specs.declared.kind.Kind.{Kind}
use Rattle.esb_token.specs.declared.kind.Kind.TheVariants as k
use Rattle.esb_token.specs.declared.token.Token.{Token}
use Rattle.esb_tree.specs.declared.expressions.Expression.{Expression}
use Rattle.esb_tree.specs.declared.expressions.Substitutions.{Substitutions}
use Rattle.esb_tree.specs.declared.patterns.Bracketed.{Bracketed}
use Rattle.esb_tree.specs.Levels.{depth_of_substitutions}
use Rattle.esb_tree.specs.Trees.{written}
use Rattle.esb_tree.specs.Yields.{tokens_of_substitutions}
use Rattle.esb_grammar.specs.declared.context.Context.{Context}
use Rattle.esb_grammar.specs.declared.form.Form.TheVariants as f
use Rattle.esb_grammar.specs.Contexts.{inside}
use Rattle.esb_grammar.specs.Grammar.{IsPrimary, IsTemplate, IsAssignment, IsExpression, IsNew, IsLeftHandSide}
use Rattle.esb_grammar.specs.Kinds.{is_function}
use Rattle.esb_reader.specs.declared.node.Node.{Node}
use Rattle.esb_reader.specs.Places.{Text}
use Rattle.esb_reader.specs.Reader.{Reader}
use Rattle.esb_reader.specs.Stands.{Syntax, Rule}
use Rattle.esb_expression_laws.specs.Laws.{lists}
use Rattle.esb_expression_laws.specs.Leaves.{expressions}
use Rattle.esb_access_laws.specs.Access.{ends_access, left}

abbrev pub templates : Text → Context → Syntax Substitutions
templates text c = record { yields = tokens_of_substitutions written; levels_of = depth_of_substitutions; Good = IsTemplate text c }

abbrev pub is_right_bracket : Kind → Bool
is_right_bracket k.RightBracket = true
is_right_bracket _ = false

abbrev pub is_right_parenthesis : Kind → Bool
is_right_parenthesis k.RightParenthesis = true
is_right_parenthesis _ = false

-- `function` on the line of what may be the word `async`
abbrev pub ends_primary : Token → Bool
ends_primary t = not (is_function t.kind && not t.after_line)

-- What is handed in, within n levels: it reads what stands in members and calls exactly, each before the token that closes it.
pub record ReadsParts (text : Text) (c : Context) (n : ℕ) (primary : Reader (Node Expression)) (arguments : Reader (Node Bracketed)) (template : Reader (Node Substitutions)) (values value : Reader (Node Expression)) : Type 0 where
  pub primaries : Rule text (expressions (IsPrimary text c)) n (suc n) (λ _. ends_primary) primary
  pub lists_of : Rule text (lists text f.Arguments c) n n (λ _ _. true) arguments
  pub templates_of : Rule text (templates text c) n n (λ _ _. true) template
  pub inner : Rule text (expressions (IsExpression text (inside c))) n n (λ _ t. is_right_bracket t.kind) values
  pub imported : Rule text (expressions (IsAssignment text (inside c))) n n (λ _ t. is_right_parenthesis t.kind) value

-- Where what stands in them is read exactly, so are LeftHandSideExpressions, and callees of `new`.
abbrev pub AccessRule : Type 0
AccessRule =
    (text : Text) (c : Context) (primary : ℕ → Reader (Node Expression)) (arguments : ℕ → Reader (Node Bracketed)) (template : ℕ → Reader (Node Substitutions)) (values value : ℕ → Reader (Node Expression))
    → ((n : ℕ) → ReadsParts text c n (primary n) (arguments n) (template n) (values n) (value n))
    → (n : ℕ) → Rule text (expressions (IsLeftHandSide text c)) n (suc n) (ends_access true) (left text primary arguments template values value true n) × Rule text (expressions (IsNew text c)) n (suc n) (ends_access false) (left text primary arguments template values value false n)
