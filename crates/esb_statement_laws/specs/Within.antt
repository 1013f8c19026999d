-- Statements within a number of levels.
use Rattle.std.specs.Prelude.{ℕ, zero, suc, false, List}
use Rattle.esb_tree.specs.declared.statements.Statement.{Statement}
use Rattle.esb_grammar.specs.declared.context.Context.{Context}
use Rattle.esb_grammar.specs.Grammar.{IsItem}
use Rattle.esb_reader.specs.declared.node.Node.{Node}
use Rattle.esb_reader.specs.Places.{Text}
use Rattle.esb_reader.specs.Reader.{Reader, fail}
use Rattle.esb_reader.specs.Stands.{Rule, row}
use Rattle.esb_statement_laws.specs.Marks.{ends_items}
use Rattle.esb_statement_laws.specs.Handed.{Handed, statements}
use Rattle.esb_statement_laws.specs.Items as all

-- What is handed in within n levels, where `parts` has the readers of what stands in statements: statements and lists of them are
-- read within the levels below.
unfoldable pub handed : Text → (ℕ → Handed) → ℕ → Handed
handed text parts zero = record (parts zero) { items = λ c. fail; statement = λ c. fail }
handed text parts (suc n) = record (parts (suc n)) { items = λ c. all.items text c n (handed text parts n); statement = λ c. all.statement text c n (handed text parts n) false }

-- a StatementList within n levels (13.2)
abbrev pub items_within : Text → (ℕ → Handed) → ℕ → Context → Reader (Node (List Statement))
items_within text parts n c = all.items text c n (handed text parts n)

-- and what it owes
abbrev pub ItemsExact : Text → (ℕ → Handed) → ℕ → Type 0
ItemsExact text parts n = (c : Context) → Rule text (row (statements (IsItem text c))) n (suc n) (λ _ t. ends_items t.kind) (items_within text parts n c)
