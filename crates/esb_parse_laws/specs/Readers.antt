-- The readers of all productions, tied together: each reads what stands in its nodes within the levels below.
use Rattle.std.specs.Prelude.{ℕ, zero, suc, Bool, true, false, List}
use Rattle.esb_tree.specs.declared.expressions.Expression.{Expression}
use Rattle.esb_tree.specs.declared.statements.Statement.{Statement}
use Rattle.esb_grammar.specs.declared.context.Context.{Context}
use Rattle.esb_grammar.specs.Contexts.{of_module}
use Rattle.esb_reader.specs.declared.node.Node.{Node}
use Rattle.esb_reader.specs.Places.{Text}
use Rattle.esb_reader.specs.Reader.{Reader, fail}
use Rattle.esb_literal_laws.specs.Bindings.{target_below}
use Rattle.esb_literal_laws.specs.Functions.{function}
use Rattle.esb_literal_laws.specs.Classes.{class}
use Rattle.esb_binding_laws.specs.Loose.{loose}
use Rattle.esb_value_laws.specs.Handed.{left_of, assignment_of, expression_of}
use Rattle.esb_statement_laws.specs.Handed.{Handed}
use Rattle.esb_statement_laws.specs.Within.{items_within}
use Rattle.esb_module_laws.specs.Module.{Nameless}

-- Readers, each within the levels below a number, of AssignmentExpressions, of Expressions, of LeftHandSideExpressions and of StatementLists.
pub record Readers : Type 0 where
  pub one : Context → ℕ → Reader (Node Expression)
  pub many : Context → ℕ → Reader (Node Expression)
  pub heads : Context → ℕ → Reader (Node Expression)
  pub items : Context → ℕ → Reader (Node (List Statement))

-- ---- what is made of them

-- an AssignmentExpression, or where the flag says so an Expression
abbrev pub value_of : Readers → ℕ → Bool → Context → Reader (Node Expression)
value_of r n false c = r.one c n
value_of r n true c = r.many c n

-- What stands in statements. Statements and lists of them are put in level by level.
abbrev pub parts_of : Text → Readers → ℕ → Handed
parts_of text r n = record {
  expression = value_of r n;
  target = λ c. target_below text r.one c n;
  binding = λ c. loose text r.one c n;
  function = function text r.one r.items true n;
  class = λ c. class text r.one r.heads r.items true c n;
  items = λ c. fail;
  statement = λ c. fail;
}

-- functions and classes whose names may be absent
abbrev pub nameless_of : Text → Readers → ℕ → Nameless
nameless_of text r n = record { function = function text r.one r.items false n; class = class text r.one r.heads r.items false of_module n }

-- ---- the knot

-- what a reader within each number of levels reads within the levels below
abbrev pub lowered : {A : Type 0} → (ℕ → Reader (Node A)) → ℕ → Reader (Node A)
lowered read zero = fail
lowered read (suc n) = read n

-- Where these read what stands in their nodes, the next ones read within one level more.
abbrev pub next : Text → Readers → Readers
next text r = record {
  one = λ c. lowered (assignment_of text r.one r.many r.heads r.items c);
  many = λ c. lowered (expression_of text r.one r.many r.heads r.items c);
  heads = λ c. lowered (left_of text r.one r.many r.heads r.items c);
  items = λ c. lowered (λ n. items_within text (parts_of text r) n c);
}

abbrev pub nothing : Readers
nothing = record { one = λ c n. fail; many = λ c n. fail; heads = λ c n. fail; items = λ c n. fail }

unfoldable pub turns : Text → ℕ → Readers
turns text zero = nothing
turns text (suc n) = next text (turns text n)

-- After as many turns as there may be levels nothing is left out.
unfoldable pub value_below : Text → Context → ℕ → Reader (Node Expression)
value_below text c n = (turns text n).one c n

unfoldable pub values_below : Text → Context → ℕ → Reader (Node Expression)
values_below text c n = (turns text n).many c n

unfoldable pub head_below : Text → Context → ℕ → Reader (Node Expression)
head_below text c n = (turns text n).heads c n

unfoldable pub items_below : Text → Context → ℕ → Reader (Node (List Statement))
items_below text c n = (turns text n).items c n

abbrev pub readers : Text → Readers
readers text = record { one = value_below text; many = values_below text; heads = head_below text; items = items_below text }

-- what stands in statements of a text, and in items of a module
abbrev pub parts : Text → ℕ → Handed
parts text = parts_of text (readers text)

abbrev pub nameless : Text → ℕ → Nameless
nameless text = nameless_of text (readers text)
