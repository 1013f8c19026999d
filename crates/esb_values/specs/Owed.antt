-- What the functions that are handed in owe.
use Rattle.std.specs.Prelude.{◌≡◌, ℕ, ◌≤◌, Bool, List, Result}
use Rattle.std.specs.Fn.{Shared}
use Rattle.std.specs.declared.alloc.Global.{Global}
use Rattle.std.specs.Borrow.{Bor}
use Rattle.esb_tree.specs.declared.expressions.Expression.{Expression}
use Rattle.esb_tree.specs.declared.expressions.Substitutions.{Substitutions}
use Rattle.esb_tree.specs.declared.patterns.Bracketed.{Bracketed}
use Rattle.esb_tree.specs.declared.statements.Block.{Block}
use Rattle.esb_grammar.specs.declared.context.Context.{Context}
use Rattle.esb_reader.specs.declared.fault.Fault.{Fault}
use Rattle.esb_reader.specs.declared.node.Node.{Node}
use Rattle.esb_reader.specs.Places.{Text}
use Rattle.esb_reader.specs.Reader.{Reader}
use Rattle.esb_inner.specs.Inner.{ReadsExpressions, ReadsWithin}
use Rattle.esb_access.specs.Handed.{ReadsParts}
use Rattle.esb_values.specs.declared.values.Assignments.{Assignments}
use Rattle.esb_values.specs.Handed.{ReadsBlocks}
use Rattle.esb_values.specs.ListsFirst.{ListsFirst}
use Rattle.esb_values.specs.Together as spec

-- a function that reads a kind of node in a context, within a number of levels and from a place on
abbrev pub Reads : Type 0 → Type 0 → Type 1
Reads F A = Shared F (Global × (Bor (List ℕ) × (Context × (ℕ × (ℕ × Unit {0}))))) (Result (Node A × ℕ) Fault)

-- a function that reads an AssignmentExpression, or where its flag says so an Expression
abbrev pub ReadsEither : Type 0 → Type 1
ReadsEither F = Shared F (Global × (Bor (List ℕ) × (Bool × (Context × (ℕ × (ℕ × Unit {0})))))) (Result (Node Expression × ℕ) Fault)

-- Each gives what its reader gives, within as many levels as the parser has. LeftHandSideExpressions are read as those over the other readers are, and lists in parentheses may be read first.
pub record Owed {R L F S P A T B : Type 0} (expression : Bool → Context → Text → ℕ → Reader (Node Expression)) (left primary : Context → Text → ℕ → Reader (Node Expression)) (arguments : Context → Text → ℕ → Reader (Node Bracketed)) (template : Context → Text → ℕ → Reader (Node Substitutions)) (block : Context → Text → ℕ → Reader (Node Block)) (l : Reads L Expression) (f : ReadsEither F) (a : Reads A Bracketed) (t : Reads T Substitutions) (b : Reads B Block) (x : Assignments R L F S P A T B) : Type 0 where
  pub inner : ReadsExpressions expression x.accesses.now.parser.now.levels (λ alloc text commas c m at. f.pre x.accesses.now.parser.now.expression (alloc, (text, (commas, (c, (m, (at, tt))))))) (λ alloc text commas c m at. f.post x.accesses.now.parser.now.expression (alloc, (text, (commas, (c, (m, (at, tt)))))))
  pub lists : ReadsParts arguments x.accesses.now.parser.now.levels (λ alloc text c m at. a.pre x.accesses.now.arguments (alloc, (text, (c, (m, (at, tt)))))) (λ alloc text c m at. a.post x.accesses.now.arguments (alloc, (text, (c, (m, (at, tt))))))
  pub templates : ReadsParts template x.accesses.now.parser.now.levels (λ alloc text c m at. t.pre x.accesses.now.template (alloc, (text, (c, (m, (at, tt)))))) (λ alloc text c m at. t.post x.accesses.now.template (alloc, (text, (c, (m, (at, tt))))))
  pub lefts : ReadsWithin left x.operators.now.levels (λ alloc text c m at. l.pre x.operators.now.left (alloc, (text, (c, (m, (at, tt)))))) (λ alloc text c m at. l.post x.operators.now.left (alloc, (text, (c, (m, (at, tt))))))
  pub blocks : ReadsBlocks block x.accesses.now.parser.now.levels (λ alloc text c m at. b.pre x.block (alloc, (text, (c, (m, (at, tt)))))) (λ alloc text c m at. b.post x.block (alloc, (text, (c, (m, (at, tt))))))
  pub same_text : x.operators.now.text.now ≡ x.accesses.now.parser.now.text.now
  pub room : x.accesses.now.parser.now.levels ≤ x.operators.now.levels
  pub chains : (c : Context) → left c x.accesses.now.parser.now.text.now ≡ spec.left expression primary arguments template block c x.accesses.now.parser.now.text.now
  pub lists_first : (c : Context) (m : ℕ) → ListsFirst x.accesses.now.parser.now.text.now (primary c x.accesses.now.parser.now.text.now) (arguments c x.accesses.now.parser.now.text.now) m
