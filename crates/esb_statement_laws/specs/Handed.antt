-- What the readers of statements are over: readers one level down.
use Rattle.std.specs.Prelude.{◌≡◌, ℕ, Bool, true, false, ◌||◌, List, [], ◌∷◌}
use Rattle.esb_token.specs.declared.kind.Kind.{Kind}
use Rattle.esb_token.specs.declared.kind.Kind.TheVariants as k
use Rattle.esb_token.specs.declared.token.Token.{Token}
use Rattle.esb_tree.specs.declared.classes.Class.{Class}
use Rattle.esb_tree.specs.declared.expressions.Expression.{Expression}
use Rattle.esb_tree.specs.declared.expressions.Expression.TheVariants as e
use Rattle.esb_tree.specs.declared.functions.Function.{Function}
use Rattle.esb_tree.specs.declared.statements.Statement.{Statement}
use Rattle.esb_tree.specs.Levels.{depth_of_expression, depth_of_function, depth_of_class, depth_of_statement}
use Rattle.esb_tree.specs.Trees.{written}
use Rattle.esb_tree.specs.Yields.{tokens_of_expression, tokens_of_function, tokens_of_class, tokens_of_statement}
use Rattle.esb_grammar.specs.declared.context.Context.{Context}
use Rattle.esb_grammar.specs.Edges.{takes_else}
use Rattle.esb_grammar.specs.Kinds.{is_binding, is_left_brace}
use Rattle.esb_grammar.specs.Semicolons.{expression_goes_on}
use Rattle.esb_reader.specs.declared.node.Node.{Node}
use Rattle.esb_reader.specs.Places.{Text}
use Rattle.esb_reader.specs.Reader.{Reader}
use Rattle.esb_reader.specs.Stands.{Syntax, Rule}
use Rattle.esb_statement_laws.specs.Marks.{begins_expression, ends_expression, statement_stops, nearest}
use Rattle.esb_statement_laws.specs.Sequels.{Keeps}

pub record Handed : Type 0 where
  -- an AssignmentExpression, or where the flag says so an Expression, in a context
  pub expression : Bool → Context → Reader (Node Expression)
  -- what is bound: a BindingIdentifier or a BindingPattern
  pub target : Context → Reader (Node Expression)
  -- the same with a value, which may be absent
  pub binding : Context → Reader (Node Expression)
  -- a declaration of a function, and of a class
  pub function : Reader (Node Function)
  pub class : Context → Reader (Node Class)
  -- a StatementList, up to what ends one
  pub items : Context → Reader (Node (List Statement))
  pub statement : Context → Reader (Node Statement)

abbrev pub expressions : (Expression → Type 0) → Syntax Expression
expressions Good = record { yields = tokens_of_expression written; levels_of = depth_of_expression; Good = Good }

abbrev pub statements : (Statement → Type 0) → Syntax Statement
statements Good = record { yields = tokens_of_statement written; levels_of = depth_of_statement; Good = Good }

abbrev pub functions : (Function → Type 0) → Syntax Function
functions Good = record { yields = tokens_of_function written; levels_of = depth_of_function; Good = Good }

abbrev pub classes : (Class → Type 0) → Syntax Class
classes Good = record { yields = tokens_of_class written; levels_of = depth_of_class; Good = Good }

-- tokens that begin as a test says
pub record Begins (test : Kind → Bool) (ts : List Token) : Type 0 where
  pub first : Token
  pub rest : List Token
  pub is : ts ≡ first ∷ rest
  pub kind : test first.kind ≡ true

-- Expressions of a kind are read exactly: each ends before the tokens that end all expressions, and before a token of the next line that does
-- not go on with it.
pub record ReadsExpressions (text : Text) (Good : Expression → Type 0) (n : ℕ) (read : Reader (Node Expression)) : Type 0 where
  pub stops : Expression → Token → Bool
  pub rule : Rule text (expressions Good) n n stops read
  pub begins : (x : Expression) → Good x → Begins begins_expression (tokens_of_expression written x)
  pub ends : (x : Expression) (t : Token) → Good x → ends_expression t.kind ≡ true → stops x t ≡ true
  pub next_line : (x : Expression) (t : Token) → Good x → t.after_line ≡ true → expression_goes_on x t ≡ false → stops x t ≡ true
  -- `let` alone ends before a name or a brace, and no other expression is this one token
  pub let_ends : (t u : Token) → t.kind ≡ k.Let → is_binding u.kind || is_left_brace u.kind ≡ true → stops (e.Primary t) u ≡ true
  pub let_alone : (x : Expression) (t : Token) → Good x → tokens_of_expression written x ≡ t ∷ [] → t.kind ≡ k.Let → x ≡ e.Primary t

-- Statements of a kind are read exactly, and no `else` that an `if` in one could take is left behind it.
pub record ReadsStatements (text : Text) (Good : Statement → Type 0) (n : ℕ) (read : Reader (Node Statement)) : Type 0 where
  pub rule : Rule text (statements Good) n n statement_stops read
  pub keeps : Keeps text (λ x t. nearest (takes_else x) t) read
