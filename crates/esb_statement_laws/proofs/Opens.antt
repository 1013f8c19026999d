-- With which token a statement begins.
use Rattle.std.proofs.Common.{◌≡◌, inl, inr, ℕ, Bool, true, false, List, [], ◌∷◌, ◌++◌, None, refl, ap, sym, ◌∙◌, subst}
use Rattle.std.specs.List.{flat_map}
use Rattle.esb_token.specs.declared.kind.Kind.{Kind}
use Rattle.esb_token.specs.declared.kind.Kind.TheVariants as k
use Rattle.esb_token.specs.declared.token.Token.{Token}
use Rattle.esb_token.specs.Tokens.{SpelledBetween}
use Rattle.esb_tree.specs.declared.expressions.Expression.{Expression}
use Rattle.esb_tree.specs.declared.statements.Block.{Block}
use Rattle.esb_tree.specs.declared.statements.IfClause.{IfClause}
use Rattle.esb_tree.specs.declared.statements.MaybeExpression.TheVariants as me
use Rattle.esb_tree.specs.declared.statements.Finalizer.TheVariants as fi
use Rattle.esb_tree.specs.declared.statements.Handler.TheVariants as ha
use Rattle.esb_tree.specs.declared.statements.Statement.{Statement, out-Statement}
use Rattle.esb_tree.specs.Trees.{written}
use Rattle.esb_tree.specs.Yields.{tokens_of_expression, tokens_of_block, tokens_of_if_clause, tokens_of_else_if, tokens_of_else, tokens_of_statement}
use Rattle.esb_tree.proofs.TokenLines.{tokens_Block, tokens_Declaration, tokens_IfClause, tokens_BlockStatement, tokens_Variables, tokens_Empty, tokens_ExpressionStatement, tokens_If, tokens_DoWhile, tokens_While, tokens_For, tokens_ForEach, tokens_Continue, tokens_Break, tokens_Return, tokens_Switch, tokens_Labelled, tokens_Throw, tokens_Try, tokens_Debugger}
use Rattle.esb_grammar.specs.declared.context.Context.{Context}
use Rattle.esb_grammar.specs.Contexts.{inside}
use Rattle.esb_grammar.specs.Edges.{is_if}
use Rattle.esb_grammar.specs.Kinds.{is_reference}
use Rattle.esb_grammar.specs.Grammar.{IsExpression, IsBlock, braces, variable_bindings, IsIfClause, if_clause, IsStatement, block_statement, variable_statement, empty_statement, expression_statement, if_statement, do_while, while, for, for_in, for_of, continue_statement, break_statement, return_alone, return_value, switch_statement, labelled, throw, try_catch, try_finally, debugger}
use Rattle.esb_reader.specs.Places.{Text}
use Rattle.esb_reader.specs.Parts.{behind}
use Rattle.esb_token.specs.Goals.{is_division}
use Rattle.esb_statement_laws.specs.Marks.{is_if_word, begins_expression, begins_statement}
use Rattle.esb_statement_laws.specs.Handed.{Begins}
use Rattle.esb_statement_laws.proofs.Shown.{Shown, shown, statement_begins}

-- the first token of a statement, which is `if` where it is an IfStatement
pub record Opened (x : Statement) : Type 0 where
  pub first : Token
  pub rest : List Token
  pub is : tokens_of_statement written x ≡ first ∷ rest
  pub kind : begins_statement first.kind ≡ true
  pub if_is : is_if_word first.kind ≡ is_if x

opens_with : (x : Statement) (t : Token) (ts : List Token) (kind : Kind) → tokens_of_statement written x ≡ t ∷ ts → t.kind ≡ kind → begins_statement kind ≡ true → is_if_word kind ≡ is_if x → Opened x
opens_with x t ts kind is e begins same = record { first = t; rest = ts; is = is; kind = ap begins_statement e ∙ begins; if_is = ap is_if_word e ∙ same }

pub block_opens : (text : Text) (c : Context) (x : Block) → IsBlock text c x → (t : Token) × (ts : List Token) × (tokens_of_block written x ≡ t ∷ ts) × (t.kind ≡ k.LeftBrace)
block_opens text c x (braces begin body ending h1 h2 h3) = (begin, _, tokens_Block written begin body ending, h1)

pub clause_opens : (text : Text) (c : Context) (followed : Bool) (x : IfClause) → IsIfClause text followed c x → (t : Token) × (ts : List Token) × (tokens_of_if_clause written x ≡ t ∷ ts) × (t.kind ≡ k.If)
clause_opens text c followed x (if_clause {word = w} {begin = b} {condition = v} {ending = t} {body = y} h1 h2 h3 h4 h5 h6) = (w, _, tokens_IfClause written w b v t y, h1)

reference_begins : (c : Context) (kind : Kind) → is_reference c kind ≡ true → begins_expression kind ≡ true
reference_begins c k.Name h = refl
reference_begins c k.Implements h = refl
reference_begins c k.Interface h = refl
reference_begins c k.Let h = refl
reference_begins c k.Package h = refl
reference_begins c k.Private h = refl
reference_begins c k.Protected h = refl
reference_begins c k.Public h = refl
reference_begins c k.Static h = refl
reference_begins c k.Yield h = refl
reference_begins c k.Await h = refl
reference_begins c _ h = cc

expression_no_if : (kind : Kind) → begins_expression kind ≡ true → is_if_word kind ≡ false
expression_no_if k.If h = cc
expression_no_if _ h = refl

pub opened : (text : Text) (c : Context) → ((x : Expression) → IsExpression text (inside c) x → Begins begins_expression (tokens_of_expression written x)) → (x : Statement) → IsStatement text c x → Opened x
unfolding is_if out-Statement denote.Hole.Carrier.out
opened text c begins x (block_statement {block = y} h1) =
    let o = block_opens text c y h1 in opens_with x o.0 o.1 k.LeftBrace (tokens_BlockStatement written y ∙ o.2) o.3 refl refl
opened text c begins x (variable_statement {semicolon = t} (variable_bindings word list h1 h2) h3) =
    opens_with x word _ k.Var (tokens_Variables written _ t ∙ ap (λ ts. ts ++ written t) (tokens_Declaration written word list)) h1 refl refl
opened text c begins x (empty_statement {semicolon = t} h1) = opens_with x t [] k.Semicolon (tokens_Empty written t) h1 refl refl
opened text c begins x (expression_statement {x = y} {semicolon = t} h1 h2 h3) =
    let b = begins y h2 in
    record { first = b.first; rest = b.rest ++ written t; is = tokens_ExpressionStatement written y t ∙ ap (λ ts. ts ++ written t) b.is; kind = statement_begins b.first.kind b.kind; if_is = expression_no_if b.first.kind b.kind }
opened text c begins x (if_statement clause rest last h1 h2 h3) =
    let o = clause_opens text c _ clause h1 in opens_with x o.0 _ k.If (tokens_If written clause rest last ∙ ap (λ ts. ts ++ (flat_map (tokens_of_else_if written) rest ++ tokens_of_else written last)) o.2) o.3 refl refl
opened text c begins x (do_while {word = w} {body = y} {while_word = u} {begin = b} {x = v} {ending = t} {semicolon = e} h1 h2 h3 h4 h5 h6 h7) = opens_with x w _ k.Do (tokens_DoWhile written w y u b v t e) h1 refl refl
opened text c begins x (while {word = w} {begin = b} {x = v} {ending = t} {body = y} h1 h2 h3 h4 h5) = opens_with x w _ k.While (tokens_While written w b v t y) h1 refl refl
opened text c begins x (for {word = w} {begin = b} {start = q} {first = s1} {test = v} {second = s2} {step = u} {ending = t} {body = y} h1 h2 h3 h4 h5 h6 h7 h8 h9) = opens_with x w _ k.For (tokens_For written w b q s1 v s2 u t y) h1 refl refl
opened text c begins x (for_in {word = w} {begin = b} {start = q} {middle = m} {x = v} {ending = t} {body = y} h1 h2 h3 h4 h5 h6 h7) = opens_with x w _ k.For (tokens_ForEach written w None b q m v t y) h1 refl refl
opened text c begins x (for_of {word = w} {await_word = a} {begin = b} {start = q} {middle = m} {x = v} {ending = t} {body = y} h1 h2 h3 h4 h5 h6 h7 h8) = opens_with x w _ k.For (tokens_ForEach written w a b q m v t y) h1 refl refl
opened text c begins x (continue_statement {word = w} {label = l} {semicolon = t} h1 h2 h3 h4) = opens_with x w _ k.Continue (tokens_Continue written w l t) h1 refl refl
opened text c begins x (break_statement {word = w} {label = l} {semicolon = t} h1 h2 h3 h4) = opens_with x w _ k.Break (tokens_Break written w l t) h1 refl refl
opened text c begins x (return_alone {word = w} {semicolon = t} h1 h2) = opens_with x w _ k.Return (tokens_Return written w me.Absent t) h1 refl refl
opened text c begins x (return_value {word = w} {x = v} {semicolon = t} h1 h2 h3 h4) = opens_with x w _ k.Return (tokens_Return written w (me.Present v) t) h1 refl refl
opened text c begins x (switch_statement word begin v ending left clauses right h1 h2 h3 h4 h5 h6 h7) = opens_with x word _ k.Switch (tokens_Switch written word begin v ending left clauses right) h1 refl refl
opened text c begins x (labelled {label = l} {colon = t} {body = y} h1 h2 h3) =
    let first = reference_begins c l.kind h1 in
    record { first = l; rest = _; is = tokens_Labelled written l t y; kind = statement_begins l.kind first; if_is = expression_no_if l.kind first }
opened text c begins x (throw {word = w} {x = v} {semicolon = t} h1 h2 h3 h4) = opens_with x w _ k.Throw (tokens_Throw written w v t) h1 refl refl
opened text c begins x (try_catch {word = w} {block = b} {handler = h} {finalizer = f} h1 h2 h3 h4) = opens_with x w _ k.Try (tokens_Try written w b h f) h1 refl refl
opened text c begins x (try_finally {word = w} {block = b} {finally_word = f} {last = l} h1 h2 h3 h4) = opens_with x w _ k.Try (tokens_Try written w b ha.NoHandler (fi.Finally f l)) h1 refl refl
opened text c begins x (debugger {word = w} {semicolon = t} h1 h2) = opens_with x w _ k.Debugger (tokens_Debugger written w t) h1 refl refl

division_no_if : (text : Text) (i : ℕ) (t : Token) → Shown text i t → is_if_word (behind text i).kind ≡ is_if_word t.kind
division_no_if text i t (inl e) = ap (λ (u : Token). is_if_word u.kind) e
division_no_if text i t (inr h) = by_kind _ h.1 ∙ sym (ap is_if_word h.0)
  where
    by_kind : (kind : Kind) → is_division kind ≡ true → is_if_word kind ≡ false
    by_kind k.If h = cc
    by_kind _ h = refl

-- `if` is seen exactly where an IfStatement stands, of all statements
pub first_if : (text : Text) (c : Context) → ((x : Expression) → IsExpression text (inside c) x → Begins begins_expression (tokens_of_expression written x))
    → (x : Statement) (i j : ℕ) → IsStatement text c x → SpelledBetween text i (tokens_of_statement written x) j → is_if_word (behind text i).kind ≡ is_if x
first_if text c begins x i j good h =
    let o = opened text c begins x good in
    division_no_if text i o.first (shown text i o.first o.rest j (subst (λ ts. SpelledBetween text i ts j) o.is h) o.kind) ∙ o.if_is
