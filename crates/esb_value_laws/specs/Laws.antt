-- Expressions as a whole are read exactly.
use Rattle.std.specs.Prelude.{◌≡◌, ℕ, suc, ◌≤◌, ◌⊎◌, Bool, true, false, ◌&&◌, Some, List}
use Rattle.esb_tree.specs.declared.expressions.Expression.{Expression}
use Rattle.esb_tree.specs.declared.expressions.Substitutions.{Substitutions}
use Rattle.esb_tree.specs.declared.classes.Class.{Class}
use Rattle.esb_tree.specs.declared.functions.Function.{Function}
use Rattle.esb_tree.specs.declared.functions.ConciseBody.{ConciseBody}
use Rattle.esb_tree.specs.declared.patterns.Bracketed.{Bracketed}
use Rattle.esb_tree.specs.declared.statements.Block.{Block}
use Rattle.esb_tree.specs.declared.statements.Statement.{Statement}
use Rattle.esb_tree.specs.Levels.{depth_of_bracketed}
use Rattle.esb_grammar.specs.declared.context.Context.{Context}
use Rattle.esb_grammar.specs.declared.form.Form.TheVariants as f
use Rattle.esb_grammar.specs.Contexts.{inside, of_arrow}
use Rattle.esb_grammar.specs.Kinds.{is_binding, is_right_brace}
use Rattle.esb_grammar.specs.Words.{is_async}
use Rattle.esb_grammar.specs.Grammar.{loosest, IsPrimary, IsLeftHandSide, IsBinary, IsConditional, IsAssignment, IsBracketed, IsExpression}
use Rattle.esb_reader.specs.declared.node.Node.{Node}
use Rattle.esb_reader.specs.Places.{Text}
use Rattle.esb_reader.specs.Reader.{Reader, and_then, pure}
use Rattle.esb_reader.specs.Parts.{behind, such}
use Rattle.esb_reader.specs.Stands.{Stands, Rule}
use Rattle.esb_expression_laws.specs.Laws.{lists}
use Rattle.esb_expression_laws.specs.Lists.{bracketed}
use Rattle.esb_expression_laws.specs.Leaves.{expressions}
use Rattle.esb_operator_laws.specs.Ends.{ends_binary}
use Rattle.esb_operator_laws.specs.Ladder.{ladder}
use Rattle.esb_operator_laws.specs.Unary.{begins_prefix, postfixed, unary}
use Rattle.esb_access_laws.specs.Laws.{ends_primary, templates}
use Rattle.esb_access_laws.specs.Access.{is_new, is_import, is_super, accessed, left, ends_access}
use Rattle.esb_value_laws.specs.Covers.{covers_parameters}
use Rattle.esb_value_laws.specs.Ends.{ends_body}
use Rattle.esb_assignment_laws.specs.Values.{is_arrow, is_colon, ends_value, ends_choice}
use Rattle.esb_assignment_laws.specs.Laws.{IsAssigned}
use Rattle.esb_assignment_laws.specs.Assignments.{chosen, assigned}
use Rattle.esb_literal_laws.specs.Laws.{blocks, functions, classes, statement_lists}
use Rattle.esb_value_laws.specs.Bodies.{bodies, concise}
use Rattle.esb_value_laws.specs.Commas.{ends_expression, expression}
use Rattle.esb_value_laws.specs.Lets.{ends_with_let}
use Rattle.esb_value_laws.specs.Primaries.{primary}
use Rattle.esb_value_laws.specs.Once.{is_plain_list}
use Rattle.esb_value_laws.specs.Handed.{ExactBelow, Tied, left_of, assignment_of, expression_of}
use Rattle.esb_value_laws.specs.Levels.{ReadsAll, assignment}
use Rattle.esb_value_laws.specs.Whole.{value}
use Rattle.esb_value_laws.specs.Yields.{IsYield, yielded}

-- Where values one level down are read exactly, so are YieldExpressions.
abbrev pub YieldRule : Type 0
YieldRule =
    (text : Text) (c : Context) (n : ℕ) (value : Reader (Node Expression))
    → Rule text (expressions (IsAssignment text c)) n n (ends_value c) value
    → Rule text (expressions (IsYield text c)) n (suc n) (ends_value c) (yielded text c n value)

-- Where blocks are too, so are bodies of arrow functions.
abbrev pub BodyRule : Type 0
BodyRule =
    (text : Text) (c : Context) (n : ℕ) (block : Reader (Node Block)) (value : Reader (Node Expression))
    → Rule text (blocks text (inside c)) n n (λ _ _. true) block
    → Rule text (expressions (IsAssignment text c)) n n (ends_value c) value
    → Rule text (bodies text c) n n (ends_body c) (concise text block value)

-- A test of lists of Arguments within n levels that says which of them are FormalParameters too.
pub record Covers (text : Text) (c : Context) (n : ℕ) (covers : Bracketed → Bool) : Type 0 where
  pub there : (list : Bracketed) → IsBracketed text f.Arguments c list → covers list ≡ true → IsBracketed text f.Parameters c list
  pub back : (list : Bracketed) → IsBracketed text f.Parameters c list → depth_of_bracketed list ≤ n → covers list ≡ true

-- There is one.
abbrev pub CoverRule : Type 0
CoverRule = (text : Text) (c : Context) (n : ℕ) → Covers text c n (covers_parameters n)

-- AssignmentExpressions as a whole are read exactly where their parts are.
abbrev pub ValueRule : Type 0
ValueRule =
    (text : Text) (c : Context) (n : ℕ) (target below : Reader (Node Expression)) (arguments : Reader (Node Bracketed)) (body : Bool → Reader (Node ConciseBody)) (covers : Bracketed → Bool)
    → Rule text (expressions (IsConditional text c)) n (suc n) (ends_choice c) target
    → Rule text (expressions (IsAssignment text c)) n n (ends_value c) below
    → Rule text (lists text f.Arguments c) n n (λ _ _. true) arguments
    → ((is_async_body : Bool) → Rule text (bodies text (of_arrow c is_async_body)) n n (ends_body (of_arrow c is_async_body)) (body is_async_body))
    → Covers text c n covers
    → Rule text (expressions (IsAssignment text c)) n (suc n) (ends_value c) (value text c n target below arguments body covers)

-- So are Expressions where AssignmentExpressions are.
abbrev pub ExpressionRule : Type 0
ExpressionRule =
    (text : Text) (c : Context) (n : ℕ) (value : Reader (Node Expression))
    → Rule text (expressions (IsAssignment text c)) n (suc n) (ends_value c) value
    → Rule text (expressions (IsExpression text c)) n (suc n) (ends_expression c) (expression text n value)

-- What an assignment, its branches and its operators are read as is what goes on with the first operand: so that one may be read first.
abbrev pub GoingOnRule : Type 0
GoingOnRule =
    (text : Text) (c : Context) (n level : ℕ) (first other inner below : Reader (Node Expression)) (i : ℕ)
    → assigned text n (chosen text n (ladder text n c other first level) inner below) below i
    ≡ and_then (first i) (λ x. assigned text n (chosen text n (ladder text n c other (pure x) level) inner below) below)

-- And where no operator, `new`, `import` or `super` is seen an operand is what goes on with the PrimaryExpression.
abbrev pub OperandRule : Type 0
OperandRule =
    (text : Text) (c : Context) (n : ℕ) (primary : ℕ → Reader (Node Expression)) (arguments : ℕ → Reader (Node Bracketed)) (template : ℕ → Reader (Node Substitutions)) (values value : ℕ → Reader (Node Expression)) (i : ℕ)
    → begins_prefix c (behind text i) ≡ false → is_new (behind text i).kind ≡ false → is_import (behind text i).kind ≡ false → is_super (behind text i).kind ≡ false
    → unary text c (left text primary arguments template values value true) n i
    ≡ and_then (primary n i) (λ x. postfixed text n (accessed text n (primary n) (arguments n) (template n) (values n) (value n) true (pure x)))

-- Where what stands in them is read exactly within n levels and those below, AssignmentExpressions are read exactly within n levels.
abbrev pub WholeRule : Type 0
WholeRule =
    (text : Text) (c : Context) (primary : ℕ → Reader (Node Expression)) (arguments : ℕ → Reader (Node Bracketed)) (template : ℕ → Reader (Node Substitutions)) (many : ℕ → Reader (Node Expression)) (one : Context → ℕ → Reader (Node Expression)) (block : Context → ℕ → Reader (Node Block)) (n : ℕ)
    → ReadsAll text c primary arguments template many one block n
    → Rule text (expressions (IsAssignment text c)) n (suc n) (ends_value c) (assignment text c primary arguments template many one block n)

-- Where the parts are, an operand before a name is read too, unless it is `async` and `=>` stands behind the name.
abbrev pub BareRule : Type 0
BareRule =
    (text : Text) (c : Context) (n : ℕ) (target below : Reader (Node Expression)) (arguments : Reader (Node Bracketed)) (body : Bool → Reader (Node ConciseBody)) (covers : Bracketed → Bool)
    → Rule text (expressions (IsConditional text c)) n (suc n) (ends_choice c) target
    → Rule text (expressions (IsAssignment text c)) n n (ends_value c) below
    → Rule text (lists text f.Arguments c) n n (λ _ _. true) arguments
    → ((is_async_body : Bool) → Rule text (bodies text (of_arrow c is_async_body)) n n (ends_body (of_arrow c is_async_body)) (body is_async_body))
    → (i : ℕ) (x : Node Expression) (m : ℕ) → Stands text (expressions (IsBinary text loosest c)) n x i m → is_binding (behind text m).kind ≡ true
    → (is_async text (behind text i) && is_arrow (behind text (behind text m).end).kind) ≡ false
    → (value text c n target below arguments body covers i ≡ Some (x, m)) × (expression text n (value text c n target below arguments body covers) i ≡ Some (x, m))

-- So Expressions are read exactly also where `let` alone stands before a name.
abbrev pub LetRule : Type 0
LetRule =
    (text : Text) (c : Context) (n : ℕ) (target below : Reader (Node Expression)) (arguments : Reader (Node Bracketed)) (body : Bool → Reader (Node ConciseBody)) (covers : Bracketed → Bool)
    → Rule text (expressions (IsConditional text c)) n (suc n) (ends_choice c) target
    → Rule text (expressions (IsAssignment text c)) n n (ends_value c) below
    → Rule text (lists text f.Arguments c) n n (λ _ _. true) arguments
    → ((is_async_body : Bool) → Rule text (bodies text (of_arrow c is_async_body)) n n (ends_body (of_arrow c is_async_body)) (body is_async_body))
    → Covers text c n covers
    → Rule text (expressions (IsExpression text c)) n (suc n) (ends_with_let c) (expression text n (value text c n target below arguments body covers))

-- What is read as a ParenthesizedExpression is what is read as Arguments and has values alone: so a list may be read before it is known which it is.
abbrev pub OnceRule : Type 0
OnceRule = (text : Text) (inner : Reader (Node Expression)) (i : ℕ) → bracketed text f.Values inner i ≡ such (bracketed text f.Arguments inner) is_plain_list i

-- And so are Expressions, also where `let` alone stands before a name,
abbrev pub WholeExpressionRule : Type 0
WholeExpressionRule =
    (text : Text) (c : Context) (primary : ℕ → Reader (Node Expression)) (arguments : ℕ → Reader (Node Bracketed)) (template : ℕ → Reader (Node Substitutions)) (many : ℕ → Reader (Node Expression)) (one : Context → ℕ → Reader (Node Expression)) (block : Context → ℕ → Reader (Node Block)) (n : ℕ)
    → ReadsAll text c primary arguments template many one block n
    → Rule text (expressions (IsExpression text c)) n (suc n) (ends_with_let c) (expression text n (assignment text c primary arguments template many one block n))

-- and operands before a name.
abbrev pub WholeBareRule : Type 0
WholeBareRule =
    (text : Text) (c : Context) (primary : ℕ → Reader (Node Expression)) (arguments : ℕ → Reader (Node Bracketed)) (template : ℕ → Reader (Node Substitutions)) (many : ℕ → Reader (Node Expression)) (one : Context → ℕ → Reader (Node Expression)) (block : Context → ℕ → Reader (Node Block)) (n : ℕ)
    → ReadsAll text c primary arguments template many one block n
    → (i : ℕ) (x : Node Expression) (m : ℕ) → Stands text (expressions (IsBinary text loosest c)) n x i m → is_binding (behind text m).kind ≡ true
    → (is_async text (behind text i) && is_arrow (behind text (behind text m).end).kind) ≡ false
    → (assignment text c primary arguments template many one block n i ≡ Some (x, m)) × (expression text n (assignment text c primary arguments template many one block n) i ≡ Some (x, m))

-- PrimaryExpressions are read exactly where what stands in them is; none but the word `async` goes on with a `function` on its line.
abbrev pub PrimaryRule : Type 0
PrimaryRule =
    (text : Text) (c : Context) (n : ℕ) (values array object : Reader (Node Bracketed)) (template : Reader (Node Substitutions)) (function : Reader (Node Function)) (class : Reader (Node Class))
    → Rule text (lists text f.Values c) n n (λ _ _. true) values → Rule text (lists text f.Array c) n n (λ _ _. true) array → Rule text (lists text f.Object c) n n (λ _ _. true) object
    → Rule text (templates text c) n n (λ _ _. true) template → Rule text (functions text false) n n (λ _ _. true) function → Rule text (classes text false c) n n (λ _ _. true) class
    → Rule text (expressions (IsPrimary text c)) n (suc n) (λ _. ends_primary) (primary text c n values array object template function class)

-- Where what is handed in is read exactly within n levels and those below, so are LeftHandSideExpressions, AssignmentExpressions and Expressions within n levels.
abbrev pub HandedRule : Type 0
HandedRule =
    (text : Text) (one many heads : Context → ℕ → Reader (Node Expression)) (items : Context → ℕ → Reader (Node (List Statement))) (n : ℕ) → ExactBelow text one many heads items n → (c : Context)
    → Rule text (expressions (IsLeftHandSide text c)) n (suc n) (ends_access true) (left_of text one many heads items c n)
    × Rule text (expressions (IsAssignment text c)) n (suc n) (ends_value c) (assignment_of text one many heads items c n)
    × Rule text (expressions (IsExpression text c)) n (suc n) (ends_with_let c) (expression_of text one many heads items c n)

-- Level by level: where StatementLists within n + 1 levels are read exactly because all that is handed in within n levels is, all is read exactly within each level.
abbrev pub TiedRule : Type 0
TiedRule =
    (text : Text) (one many heads : Context → ℕ → Reader (Node Expression)) (items : Context → ℕ → Reader (Node (List Statement))) → Tied text one many heads items
    → ((n : ℕ) → ExactBelow text one many heads items n → (c : Context) → Rule text (statement_lists text c) (suc n) (suc n) (λ _ t. is_right_brace t.kind) (items c (suc n)))
    → (n : ℕ) → ExactBelow text one many heads items n
