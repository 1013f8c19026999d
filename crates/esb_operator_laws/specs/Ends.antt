-- Which tokens end operands and chains of operators.
use Rattle.std.specs.Prelude.{ℕ, Bool, not, ◌&&◌, ◌||◌, nat_lt, nat_le}
use Rattle.esb_token.specs.declared.token.Token.{Token}
use Rattle.esb_tree.specs.declared.expressions.Expression.{Expression}
use Rattle.esb_tree.specs.Operators.{level_of}
use Rattle.esb_grammar.specs.declared.context.Context.{Context}
use Rattle.esb_grammar.specs.Kinds.{begins_link, is_update, is_function}
use Rattle.esb_operator_laws.specs.Postfix.{ends_postfix}

-- What goes on with a LeftHandSideExpression: a link, and `function` on the line of `async`.
abbrev pub left_goes_on : Token → Bool
left_goes_on t = begins_link t.kind || (is_function t.kind && not t.after_line)

abbrev pub ends_left : Token → Bool
ends_left t = not (left_goes_on t)

-- `++` or `--` on the line of what it changes (12.4)
abbrev pub begins_postfix : Token → Bool
begins_postfix t = is_update t.kind && not t.after_line

-- What ends a UnaryExpression. Behind `++` and `--` that change what stands before them nothing goes on.
abbrev pub ends_unary : Expression → Token → Bool
ends_unary x t = ends_postfix x || not (left_goes_on t || begins_postfix t)

abbrev pub is_within : ℕ → ℕ → Bool
is_within level l = nat_lt 0 l && nat_le l level

-- What ends operators up to a level: it ends the last operand and is none of them.
abbrev pub ends_binary : Context → ℕ → Expression → Token → Bool
ends_binary c level x t = ends_unary x t && not (is_within level (level_of c.has_in t.kind))
