-- Unary operators and updates (ECMA-262, 12.4, 12.5 and 14.7), over a reader of LeftHandSideExpressions within a number of levels.
use Rattle.std.specs.Prelude.{ℕ, zero, suc, Bool, true, ◌||◌, if◌then◌else◌}
use Rattle.esb_token.specs.declared.kind.Kind.{Kind}
use Rattle.esb_token.specs.declared.token.Token.{Token}
use Rattle.esb_token.specs.declared.goal.Goal.TheVariants as goal
use Rattle.esb_tree.specs.declared.expressions.Expression.{Expression}
use Rattle.esb_tree.specs.declared.expressions.Expression.TheVariants as e
use Rattle.esb_tree.specs.Operators.{is_unary}
use Rattle.esb_grammar.specs.declared.context.Context.{Context}
use Rattle.esb_grammar.specs.Grammar.{is_await_in}
use Rattle.esb_grammar.specs.Kinds.{is_update}
use Rattle.esb_reader.specs.declared.node.Node.{Node}
use Rattle.esb_reader.specs.Places.{Text}
use Rattle.esb_reader.specs.Reader.{Reader, fail}
use Rattle.esb_reader.specs.Parts.{both, token_in, above, choice}
use Rattle.esb_operator_laws.specs.Suffixes.{extended}
use Rattle.esb_operator_laws.specs.Ends.{begins_postfix}

-- the operators before their operand
abbrev pub is_prefix : Context → Kind → Bool
is_prefix c kind = is_update kind || (is_unary kind || is_await_in c kind)

abbrev pub begins_prefix : Context → Token → Bool
begins_prefix c t = is_prefix c t.kind

abbrev pub make_prefix : Token × Expression → Expression
make_prefix p = if is_update p.0.kind then e.PrefixUpdate p.0 p.1 else (if is_unary p.0.kind then e.Unary p.0 p.1 else e.Await p.0 p.1)

-- an operator and its operand, within n levels
unfoldable pub prefixed : Text → Context → ℕ → Reader (Node Expression) → Reader (Node Expression)
prefixed text c n operand = above n make_prefix (both (token_in text goal.Div (begins_prefix c)) operand)

-- what `left` reads, and maybe `++` or `--` behind it
unfoldable pub postfixed : Text → ℕ → Reader (Node Expression) → Reader (Node Expression)
postfixed text n left = extended text n e.PostfixUpdate begins_postfix (λ _. true) left (λ _. token_in text goal.Div begins_postfix)

-- a UnaryExpression within n levels
unfoldable pub unary : Text → Context → (ℕ → Reader (Node Expression)) → ℕ → Reader (Node Expression)
unary text c left zero = choice text (begins_prefix c) (prefixed text c zero fail) (postfixed text zero (left zero))
unary text c left (suc n) = choice text (begins_prefix c) (prefixed text c (suc n) (unary text c left n)) (postfixed text (suc n) (left (suc n)))
