-- Binary operators of all levels (ECMA-262, 12.6 to 12.13), from the tightest to the loosest.
use Rattle.std.specs.Prelude.{ℕ, zero, suc, Bool, true, false, not, ◌&&◌, ◌==◌, nat_le, if◌then◌else◌, List, [], ◌∷◌, length, Option, Some, None}
use Rattle.esb_tree.specs.declared.classes.ClassElement.TheOpen.{Expression-F}
use Rattle.esb_tree.specs.declared.classes.Class.{Class}
use Rattle.esb_tree.specs.declared.classes.ClassElement.{ClassElement}
use Rattle.esb_tree.specs.declared.classes.Heritage.{Heritage}
use Rattle.esb_tree.specs.declared.expressions.Expression.{Expression, out-Expression}
use Rattle.esb_tree.specs.declared.expressions.Expression.TheVariants as e
use Rattle.esb_tree.specs.declared.expressions.Link.{Link}
use Rattle.esb_tree.specs.declared.expressions.Operand.{Operand, out-Operand}
use Rattle.esb_tree.specs.declared.expressions.Substitution.{Substitution}
use Rattle.esb_tree.specs.declared.expressions.Substitutions.{Substitutions}
use Rattle.esb_tree.specs.declared.functions.ConciseBody.{ConciseBody}
use Rattle.esb_tree.specs.declared.functions.Function.{Function}
use Rattle.esb_tree.specs.declared.functions.Method.{Method}
use Rattle.esb_tree.specs.declared.patterns.Bracketed.{Bracketed}
use Rattle.esb_tree.specs.declared.patterns.Element.{Element}
use Rattle.esb_tree.specs.declared.patterns.Elements.{Elements}
use Rattle.esb_tree.specs.declared.patterns.NextElement.{NextElement}
use Rattle.esb_tree.specs.declared.patterns.PropertyName.{PropertyName}
use Rattle.esb_tree.specs.declared.statements.Block.{Block}
use Rattle.esb_tree.specs.declared.statements.CaseClause.{CaseClause}
use Rattle.esb_tree.specs.declared.statements.Declaration.{Declaration}
use Rattle.esb_tree.specs.declared.statements.Else.{Else}
use Rattle.esb_tree.specs.declared.statements.ElseIf.{ElseIf}
use Rattle.esb_tree.specs.declared.statements.Finalizer.{Finalizer}
use Rattle.esb_tree.specs.declared.statements.ForStart.{ForStart}
use Rattle.esb_tree.specs.declared.statements.Handler.{Handler}
use Rattle.esb_tree.specs.declared.statements.IfClause.{IfClause}
use Rattle.esb_tree.specs.declared.statements.MaybeExpression.{MaybeExpression}
use Rattle.esb_tree.specs.declared.statements.Statement.{Statement}
use Rattle.esb_tree.specs.Operators.{level_of}
use Rattle.esb_grammar.specs.declared.context.Context.{Context}
use Rattle.esb_grammar.specs.Grammar.{loosest}
use Rattle.esb_reader.specs.declared.node.Node.{Node}
use Rattle.esb_reader.specs.Places.{Text}
use Rattle.esb_reader.specs.Reader.{Reader, repeated, none}
use Rattle.esb_reader.specs.Parts.{behind, such, over, chain}
use Rattle.esb_expression_laws.specs.Operators.{is_operator, operand}

-- ---- what the operands of `**` and of `??` are

abbrev pub prefix_layer : Expression-F ClassElement Heritage Expression Link ConciseBody Element PropertyName CaseClause Else Finalizer ForStart Handler MaybeExpression Statement Class Operand Substitution Substitutions Function Method Bracketed Elements NextElement Block Declaration ElseIf IfClause → Bool
prefix_layer (Expression-F.Unary operator x) = true
prefix_layer (Expression-F.Await word x) = true
prefix_layer _ = false

-- a unary expression that is no UpdateExpression
unfoldable pub is_prefixed : Expression → Bool
is_prefixed x = prefix_layer (out-Expression x)

abbrev pub operands_layer : Expression-F ClassElement Heritage Expression Link ConciseBody Element PropertyName CaseClause Else Finalizer ForStart Handler MaybeExpression Statement Class Operand Substitution Substitutions Function Method Bracketed Elements NextElement Block Declaration ElseIf IfClause → Option (Expression × List Operand)
operands_layer (Expression-F.Binary first rest) = Some (first, rest)
operands_layer _ = None

-- all operands of `**` but the last are UpdateExpressions (12.6)
abbrev pub powers_fit : Expression → List Operand → Bool
powers_fit first [] = true
powers_fit first (o ∷ os) = not (is_prefixed first) && powers_fit (out-Operand o).value os

-- how loosely the first of some operators binds
abbrev pub operands_level : List Operand → ℕ
operands_level [] = 0
operands_level (o ∷ os) = level_of true (out-Operand o).operator.kind

abbrev pub chain_level : Option (Expression × List Operand) → ℕ
chain_level None = 0
chain_level (Some p) = operands_level p.1

-- how loosely the operators of a chain bind, and 0 for what is none
unfoldable pub level_of_chain : Expression → ℕ
level_of_chain x = chain_level (operands_layer (out-Expression x))

-- the operands of `??` are as tight as those of `&&` (12.13)
abbrev pub is_tight : Expression → Bool
is_tight x = nat_le (level_of_chain x) 9

abbrev pub are_tight : List Operand → Bool
are_tight [] = true
are_tight (o ∷ os) = is_tight (out-Operand o).value && are_tight os

-- what the operands of a chain have to be where it is read as one of a level
abbrev pub operands_fit : ℕ → Option (Expression × List Operand) → Bool
operands_fit level None = true
operands_fit level (Some p) = if level == 1 then powers_fit p.0 p.1 else if level == loosest && operands_level p.1 == loosest then is_tight p.0 && are_tight p.1 else true

-- whether a chain has the operands that its level takes
unfoldable pub fits_level : ℕ → Expression → Bool
fits_level level x = operands_fit level (operands_layer (out-Expression x))

-- ---- the readers

-- whether an operator of a level stands at a place
unfoldable pub at_operator : Text → Context → ℕ → ℕ → Bool
at_operator text c own i = is_operator c own (behind text i)

-- operators of a level, each with an operand that `tighter` reads
unfoldable pub items : Text → Context → ℕ → Reader (Node Expression) → Reader (Node (List Operand))
items text c own tighter = repeated (at_operator text c own) (operand text c own tighter) (length text) none

-- an operand and those behind it, which have to be what their level takes
abbrev pub joined : ℕ → ℕ → Node Expression → Node (List Operand) → Reader (Node Expression)
joined n own first rest = such (over n e.Binary first rest) (fits_level own)

-- an operand, or a chain of it and others, which has the operands that its level takes
abbrev pub step : Text → ℕ → Context → ℕ → Reader (Node Expression) → Reader (Node Expression) → Reader (Node Expression)
step text n c own first tighter = such (chain n e.Binary first (items text c own tighter)) (fits_level own)

-- Operators up to a level, within n levels. What `first` reads is the first operand of all, `unary` reads the others.
unfoldable pub ladder : Text → ℕ → Context → Reader (Node Expression) → Reader (Node Expression) → ℕ → Reader (Node Expression)
ladder text n c unary first zero = first
ladder text n c unary first (suc level) = step text n c (suc level) (ladder text n c unary first level) (ladder text n c unary unary level)

abbrev pub binary : Text → ℕ → Context → Reader (Node Expression) → ℕ → Reader (Node Expression)
binary text n c unary level = ladder text n c unary unary level
