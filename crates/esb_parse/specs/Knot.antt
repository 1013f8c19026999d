-- What each parser gives: what the readers that are tied together read.
use Rattle.std.specs.Prelude.{ℕ, Bool, true, false, List}
use Rattle.esb_tree.specs.declared.expressions.Expression.{Expression}
use Rattle.esb_tree.specs.declared.expressions.Substitutions.{Substitutions}
use Rattle.esb_tree.specs.declared.patterns.Bracketed.{Bracketed}
use Rattle.esb_tree.specs.declared.statements.Block.{Block}
use Rattle.esb_tree.specs.declared.statements.Statement.{Statement}
use Rattle.esb_grammar.specs.declared.context.Context.{Context}
use Rattle.esb_reader.specs.declared.node.Node.{Node}
use Rattle.esb_reader.specs.Places.{Text}
use Rattle.esb_reader.specs.Reader.{Reader}
use Rattle.esb_value_laws.specs.Handed as handed
use Rattle.esb_statement_laws.specs.Within.{items_within}
use Rattle.esb_parse_laws.specs.Readers.{value_below, values_below, head_below, items_below, parts}

-- an AssignmentExpression, or where the flag says so an Expression
abbrev pub expression : Bool → Context → Text → ℕ → Reader (Node Expression)
expression false c text n = handed.assignment_of text (value_below text) (values_below text) (head_below text) (items_below text) c n
expression true c text n = handed.expression_of text (value_below text) (values_below text) (head_below text) (items_below text) c n

-- a LeftHandSideExpression
abbrev pub left : Context → Text → ℕ → Reader (Node Expression)
left c text n = handed.left_of text (value_below text) (values_below text) (head_below text) (items_below text) c n

abbrev pub primary : Context → Text → ℕ → Reader (Node Expression)
primary c text n = handed.primary_of text (value_below text) (values_below text) (head_below text) (items_below text) c n

abbrev pub arguments : Context → Text → ℕ → Reader (Node Bracketed)
arguments c text n = handed.arguments_of text (value_below text) (values_below text) (head_below text) (items_below text) c n

-- a template with substitutions
abbrev pub template : Context → Text → ℕ → Reader (Node Substitutions)
template c text n = handed.template_of text (value_below text) (values_below text) (head_below text) (items_below text) c n

-- a block of a function
abbrev pub block : Context → Text → ℕ → Reader (Node Block)
block c text n = handed.block_of text (value_below text) (values_below text) (head_below text) (items_below text) c c n

-- a StatementList
abbrev pub items : Context → Text → ℕ → Reader (Node (List Statement))
items c text n = items_within text (parts text) n c
