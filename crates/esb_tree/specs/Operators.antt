-- Operators by their kinds of token.
use Rattle.std.specs.Prelude.{ℕ, Bool, true, false}
use Rattle.esb_token.specs.declared.kind.Kind.{Kind}
use Rattle.esb_token.specs.declared.kind.Kind.TheVariants as k

-- How loosely a binary operator binds (12.6 to 12.13), and 0 for what is none. The grammar's parameter In says whether `in` is one.
abbrev pub level_of : Bool → Kind → ℕ
level_of has_in k.StarStar = 1
level_of has_in k.Star = 2
level_of has_in k.Slash = 2
level_of has_in k.Percent = 2
level_of has_in k.Plus = 3
level_of has_in k.Minus = 3
level_of has_in k.ShiftLeft = 4
level_of has_in k.ShiftRight = 4
level_of has_in k.ShiftRightUnsigned = 4
level_of has_in k.Less = 5
level_of has_in k.Greater = 5
level_of has_in k.LessEqual = 5
level_of has_in k.GreaterEqual = 5
level_of has_in k.Instanceof = 5
level_of true k.In = 5
level_of has_in k.Equal = 6
level_of has_in k.NotEqual = 6
level_of has_in k.StrictEqual = 6
level_of has_in k.StrictNotEqual = 6
level_of has_in k.Ampersand = 7
level_of has_in k.Caret = 8
level_of has_in k.Bar = 9
level_of has_in k.AndAnd = 10
level_of has_in k.BarBar = 11
level_of has_in k.QuestionQuestion = 12
level_of has_in _ = 0

-- the operators of a UnaryExpression (12.5)
abbrev pub is_unary : Kind → Bool
is_unary k.Delete = true
is_unary k.Void = true
is_unary k.Typeof = true
is_unary k.Plus = true
is_unary k.Minus = true
is_unary k.Tilde = true
is_unary k.Exclamation = true
is_unary _ = false

-- `=` and AssignmentOperator (12.15)
abbrev pub is_assignment : Kind → Bool
is_assignment k.Assign = true
is_assignment k.PlusAssign = true
is_assignment k.MinusAssign = true
is_assignment k.StarAssign = true
is_assignment k.SlashAssign = true
is_assignment k.PercentAssign = true
is_assignment k.StarStarAssign = true
is_assignment k.ShiftLeftAssign = true
is_assignment k.ShiftRightAssign = true
is_assignment k.ShiftRightUnsignedAssign = true
is_assignment k.AmpersandAssign = true
is_assignment k.BarAssign = true
is_assignment k.CaretAssign = true
is_assignment _ = false
