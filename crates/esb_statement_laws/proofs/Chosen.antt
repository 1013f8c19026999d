-- Statements of all kinds are read exactly.
use Rattle.std.proofs.Common.{◌≡◌, inl, inr, ℕ, suc, ◌+◌, ◌<◌, Bool, true, false, not, ◌&&◌, cond, List, [], ◌∷◌, ◌++◌, Option, Some, None, refl, ap, sym, ◌∙◌, subst, arith}
use Rattle.std.specs.List.{flat_map}
use Rattle.esb_token.specs.declared.kind.Kind.{Kind}
use Rattle.esb_token.specs.declared.kind.Kind.TheVariants as k
use Rattle.esb_token.specs.declared.token.Token.{Token}
use Rattle.esb_token.specs.declared.goal.Goal.TheVariants as goal
use Rattle.esb_token.specs.Tokens.{SpelledBetween}
use Rattle.esb_tree.specs.declared.classes.Class.{Class}
use Rattle.esb_tree.specs.declared.expressions.Expression.{Expression}
use Rattle.esb_tree.specs.declared.functions.Function.{Function}
use Rattle.esb_tree.specs.declared.patterns.Elements.{Elements}
use Rattle.esb_tree.specs.declared.statements.Block.{Block}
use Rattle.esb_tree.specs.declared.statements.Declaration.{Declaration, out-Declaration}
use Rattle.esb_tree.specs.declared.statements.MaybeExpression.TheVariants as me
use Rattle.esb_tree.specs.declared.statements.Finalizer.TheVariants as fi
use Rattle.esb_tree.specs.declared.statements.Handler.TheVariants as ha
use Rattle.esb_tree.specs.declared.statements.Statement.{Statement, out-Statement}
use Rattle.esb_tree.specs.declared.statements.Statement.TheVariants as s
use Rattle.esb_tree.specs.Levels.{depth_of_statement, depth_of_expression}
use Rattle.esb_tree.specs.Trees.{written}
use Rattle.esb_tree.specs.Yields.{maybe_token, tokens_of_expression, tokens_of_block, tokens_of_declaration, tokens_of_elements, tokens_of_function, tokens_of_class, tokens_of_bracketed, tokens_of_else_if, tokens_of_else, tokens_of_statement}
use Rattle.esb_tree.proofs.TokenLines.{tokens_Function, tokens_Class, tokens_FunctionDeclaration, tokens_ClassDeclaration, tokens_BlockStatement, tokens_Variables, tokens_Declaration, tokens_Empty, tokens_ExpressionStatement, tokens_If, tokens_DoWhile, tokens_While, tokens_For, tokens_ForEach, tokens_Continue, tokens_Break, tokens_Return, tokens_Switch, tokens_Labelled, tokens_Throw, tokens_Try, tokens_Debugger}
use Rattle.esb_tree.proofs.LevelLines.{levels_ExpressionStatement, levels_FunctionDeclaration, levels_ClassDeclaration}
use Rattle.esb_grammar.specs.declared.context.Context.{Context}
use Rattle.esb_grammar.specs.declared.form.Form.TheVariants as f
use Rattle.esb_grammar.specs.Contexts.{inside}
use Rattle.esb_grammar.specs.Edges.{takes_else, is_if}
use Rattle.esb_grammar.specs.Kinds.{is_reference, is_semicolon, is_lexical, is_function}
use Rattle.esb_grammar.specs.Semicolons.{Ends, lets_end, expression_goes_on, statement_goes_on, nothing_goes_on, bindings_go_on}
use Rattle.esb_grammar.specs.Words.{if_there, kind_if_there, on_line_behind, is_async, begins_no_expression}
use Rattle.esb_grammar.specs.Grammar.{stands_on_line, IsExpression, IsBlock, AreElements, IsDeclaration, lexical_bindings, variable_bindings, IsFunction, named_function, IsClass, named_class, IsItem, statement, function_declaration, class_declaration, lexical_declaration, IsStatement, block_statement, variable_statement, empty_statement, expression_statement, if_statement, do_while, while, for, for_in, for_of, continue_statement, break_statement, return_alone, return_value, switch_statement, labelled, throw, try_catch, try_finally, debugger}
use Rattle.esb_grammar.proofs.EdgeLines.{takes_BlockStatement, takes_Variables, takes_Empty, takes_DoWhile, takes_Continue, takes_Break, takes_Return, takes_Switch, takes_Throw, takes_Try, takes_Debugger, takes_FunctionDeclaration, takes_ClassDeclaration, takes_ExpressionStatement}
use Rattle.esb_reader.specs.declared.node.Node.{Node}
use Rattle.esb_reader.specs.Kinds.{agrees}
use Rattle.esb_reader.specs.Places.{Text}
use Rattle.esb_reader.specs.Reader.{Reader, choose, fail}
use Rattle.esb_reader.specs.Parts.{behind}
use Rattle.esb_reader.specs.Stands.{Rule, Made, tokens}
use Rattle.esb_statement_laws.specs.declared.sort.Sort.{Sort}
use Rattle.esb_statement_laws.specs.declared.sort.Sort.TheVariants as o
use Rattle.esb_statement_laws.specs.Sequels.{RuleAt, Keeps}
use Rattle.esb_statement_laws.specs.Marks.{is_if_word, is_colon, begins_target, never_follows, nearest, statement_stops, named_sort, sort_by, sort_of, sort_at}
use Rattle.esb_statement_laws.specs.Handed.{Handed, statements, functions, classes}
use Rattle.esb_statement_laws.specs.Statements as plain
use Rattle.esb_statement_laws.specs.Statements.{make_expression, make_debugger, make_continue, make_break, make_return, make_throw, make_while, make_do, make_labelled, make_if}
use Rattle.esb_statement_laws.specs.Compounds.{make_switch, make_try, try_statement, function_declaration as read_function, class_declaration as read_class}
use Rattle.esb_statement_laws.specs.Endings.{Closed}
use Rattle.esb_statement_laws.specs.Declarations.{make_declaration, make_variables, variables}
use Rattle.esb_statement_laws.specs.Loops.{for_statement}
use Rattle.esb_statement_laws.specs.Items as all
use Rattle.esb_statement_laws.specs.Items.{is_var, IsAllowed, of_sort}
use Rattle.esb_statement_laws.specs.Exact.{Exact, IsLoop, is_loop}
use Rattle.esb_reading_laws.proofs.Composed.{above_rule}
use Rattle.esb_reading_laws.proofs.Steps.{spelled_split}
use Rattle.esb_statement_laws.proofs.Followed.{sees}
use Rattle.esb_statement_laws.proofs.EndingsRead.{closes, lets_end_is, of_ends, ends_of, of_loop_ends, loop_ends_of}
use Rattle.esb_statement_laws.proofs.Ended as ended
use Rattle.esb_statement_laws.proofs.Bodies as bodies
use Rattle.esb_statement_laws.proofs.IfChains as ifs
use Rattle.esb_statement_laws.proofs.Opens.{block_opens, clause_opens, first_if}
use Rattle.esb_statement_laws.proofs.Switches as switches
use Rattle.esb_statement_laws.proofs.Tries as tries
use Rattle.esb_statement_laws.proofs.Declared as declared
use Rattle.esb_statement_laws.proofs.Told as told
use Rattle.esb_statement_laws.proofs.Small.{and_of, first_of, second_of, of_not, target_agrees, label_agrees, labels_nothing, async_name}

semicolon_follows : (kind : Kind) → is_semicolon kind ≡ true → never_follows kind ≡ false
semicolon_follows k.Semicolon h = refl
semicolon_follows _ h = cc

var_agrees : (kind : Kind) → is_var kind ≡ true → agrees goal.Div kind ≡ true
var_agrees k.Var h = refl
var_agrees _ h = cc

-- a label, by its two tokens
reference_sort : (text : Text) (c : Context) (kind : Kind) (t u : Token) → is_reference c kind ≡ true → begins_target u.kind ≡ false → sort_by text c kind t u ≡ named_sort text c t u
reference_sort text c k.Let t u h other = ap (λ b. cond b o.Lexical (named_sort text c t u)) other
reference_sort text c k.Name t u h other = refl
reference_sort text c k.Implements t u h other = refl
reference_sort text c k.Interface t u h other = refl
reference_sort text c k.Package t u h other = refl
reference_sort text c k.Private t u h other = refl
reference_sort text c k.Protected t u h other = refl
reference_sort text c k.Public t u h other = refl
reference_sort text c k.Static t u h other = refl
reference_sort text c k.Yield t u h other = refl
reference_sort text c k.Await t u h other = refl
reference_sort text c _ t u h other = cc

label_sort : (text : Text) (c : Context) (t u : Token) → is_reference c t.kind ≡ true → u.kind ≡ k.Colon → sort_by text c t.kind t u ≡ o.Labelled
label_sort text c t u h e = reference_sort text c t.kind t u h (ap begins_target e) ∙ ap (λ b. cond b o.Labelled (cond (is_async text t && (is_function u.kind && not u.after_line)) o.Function o.Expression)) (and_of _ _ h (ap is_colon e))

-- ---- how declarations begin

pub record FunctionOpens (text : Text) (g : Function) : Type 0 where
  pub async_word : Option Token
  pub word : Token
  pub rest : List Token
  pub is : tokens_of_function written g ≡ maybe_token async_word ++ (word ∷ rest)
  pub named : if_there (is_async text) async_word ≡ true
  pub kind : word.kind ≡ k.Function
  pub line : on_line_behind async_word (word ∷ []) ≡ true

pub function_opens : (text : Text) (g : Function) → IsFunction text true g → FunctionOpens text g
function_opens text g (named_function a w st name ps body h1 h2 h3 h4 h5 h6 h7) =
    record { async_word = a; word = w; rest = maybe_token st ++ (name ∷ (tokens_of_bracketed written ps ++ tokens_of_block written body)); is = tokens_Function written a w st (Some name) ps body; named = h1; kind = h2; line = h3 }

pub class_opens : (text : Text) (c : Context) (g : Class) → IsClass text true c g → (t : Token) × (ts : List Token) × (tokens_of_class written g ≡ t ∷ ts) × (t.kind ≡ k.Class)
class_opens text c g (named_class word name heritage begin members ending h1 h2 h3 h4 h5 h6) = (word, _, tokens_Class written word (Some name) heritage begin members ending, h1)

-- ---- statements

module _ (text : Text) (c : Context) (n : ℕ) (r : Handed) (x : Exact text c n r) (loops : Rule text (statements (IsLoop text c)) n (suc n) statement_stops (for_statement text c n r)) where
  is_if_first : (y : Statement) (i j : ℕ) → IsStatement text c y → SpelledBetween text i (tokens_of_statement written y) j → is_if_word (behind text i).kind ≡ is_if y
  is_if_first = first_if text c x.parts.values.begins

  abbrev Blocks : Statement → Type 0
  Blocks = Made (bodies.blocks text c n r x.parts.values x.bodies x.lists (IsBlock text c)) s.BlockStatement

  abbrev Variables : Statement → Type 0
  Variables = Made (declared.VariablesParts text c n r x.parts.bindings is_var) make_variables

  abbrev Ifs : Statement → Type 0
  Ifs = Made (ifs.IfParts text c n r x.parts.values x.bodies x.lists is_if_first) make_if

  abbrev Dos : Statement → Type 0
  Dos = Made (bodies.DoParts text c n r x.parts.values x.bodies x.lists) make_do

  abbrev Whiles : Statement → Type 0
  Whiles = Made (bodies.WhileParts text c n r x.parts.values x.bodies x.lists) make_while

  abbrev Continues : Statement → Type 0
  Continues = Made (ended.JumpParts text c n r x.parts.values k.Continue) make_continue

  abbrev Breaks : Statement → Type 0
  Breaks = Made (ended.JumpParts text c n r x.parts.values k.Break) make_break

  abbrev Returns : Statement → Type 0
  Returns = Made (ended.ReturnParts text c n r x.parts.values) make_return

  abbrev Switches : Statement → Type 0
  Switches = Made (switches.SwitchParts text c n r x.parts.values x.bodies x.lists) make_switch

  abbrev Labelleds : Statement → Type 0
  Labelleds = Made (bodies.LabelledParts text c n r x.parts.values x.bodies x.lists) make_labelled

  abbrev Throws : Statement → Type 0
  Throws = Made (ended.ThrowParts text c n r x.parts.values) make_throw

  is_brace_first : (y : Block) → IsBlock text c y → (t : Token) × (ts : List Token) × (tokens_of_block written y ≡ t ∷ ts) × (t.kind ≡ k.LeftBrace)
  is_brace_first = block_opens text c

  blocks_read : Rule text (bodies.blocks text c n r x.parts.values x.bodies x.lists (IsBlock text c)) n n (λ _ _. true) (plain.block text c n r)
  blocks_read = bodies.block_rule text c n r x.parts.values x.bodies x.lists

  abbrev Tries : Statement → Type 0
  Tries = Made (tries.TryParts text c n r x.parts.targets blocks_read is_brace_first) make_try

  abbrev Debuggers : Statement → Type 0
  Debuggers = Made (ended.DebuggerParts text c n r x.parts.values) make_debugger

  abbrev Lexicals : Statement → Type 0
  Lexicals = Made (declared.VariablesParts text c n r x.parts.bindings is_lexical) make_variables

  abbrev FunctionDeclarations : Statement → Type 0
  FunctionDeclarations = Made (functions (IsFunction text true)) s.FunctionDeclaration

  abbrev ClassDeclarations : Statement → Type 0
  ClassDeclarations = Made (classes (IsClass text true c)) s.ClassDeclaration

  abbrev ExpressionStatements : Statement → Type 0
  ExpressionStatements y = (h : Made (ended.ExpressionParts text c n r x.parts.values) make_expression y) × (begins_no_expression text (tokens_of_expression written h.0.0) ≡ false)

  -- the statements of each sort, and whether a declaration may be one
  abbrev Sorted : Bool → Sort → Statement → Type 0
  Sorted d o.Block y = Blocks y
  Sorted d o.Variables y = Variables y
  Sorted true o.Lexical y = Lexicals y
  Sorted false o.Lexical y = ⊥
  Sorted d o.Empty y = Made (tokens k.Semicolon) s.Empty y
  Sorted d o.If y = Ifs y
  Sorted d o.Do y = Dos y
  Sorted d o.While y = Whiles y
  Sorted d o.For y = IsLoop text c y
  Sorted d o.Continue y = Continues y
  Sorted d o.Break y = Breaks y
  Sorted d o.Return y = Returns y
  Sorted d o.Switch y = Switches y
  Sorted d o.Labelled y = Labelleds y
  Sorted d o.Throw y = Throws y
  Sorted d o.Try y = Tries y
  Sorted d o.Debugger y = Debuggers y
  Sorted true o.Function y = FunctionDeclarations y
  Sorted false o.Function y = ⊥
  Sorted true o.Class y = ClassDeclarations y
  Sorted false o.Class y = ⊥
  Sorted d o.Expression y = ExpressionStatements y

  -- ---- each sort is read exactly

  abbrev At : (Statement → Type 0) → Reader (Node Statement) → ℕ → Type 0
  At Good read i = RuleAt text (statements Good) n (suc n) statement_stops read i

  any_at : (Good : Statement → Type 0) (read : Reader (Node Statement)) (i : ℕ) → Rule text (statements Good) n (suc n) (λ _ _. true) read → At Good read i
  any_at Good read i rule = record { sound = rule.sound i; complete = λ y j stands low stop. rule.complete i y j stands low refl }

  body_at : (Good : Statement → Type 0) (read : Reader (Node Statement)) (i : ℕ) → Rule text (statements Good) n (suc n) statement_stops read → At Good read i
  body_at Good read i rule = record { sound = rule.sound i; complete = rule.complete i }

  none_at : (i : ℕ) → At (λ y. ⊥) fail i
  none_at i = record { sound = λ y j h. cc; complete = λ y j stands low stop. absurd stands.good }

  try_at : (i : ℕ) → At Tries (try_statement text c n r) i
  try_at i =
      let rule = tries.try_rule text c n r x.parts.targets blocks_read is_brace_first in
      record { sound = rule.sound i; complete = λ y j stands low stop. rule.complete i y j stands low (first_of _ _ stop) }

  max_levels : (m : ℕ) → m + 1 ≡ m + 1
  max_levels m = refl

  function_rule : Rule text (statements FunctionDeclarations) n (suc n) (λ _ _. true) (read_function text c n r)
  unfolding read_function
  function_rule =
      above_rule text (functions (IsFunction text true)) (tokens_of_statement written) depth_of_statement n n (λ _ _. true) (λ _ _. true) s.FunctionDeclaration r.function x.parts.functions_read
      (omega arith) (λ g. tokens_FunctionDeclaration written g) levels_FunctionDeclaration (λ a t h. refl)

  class_rule : Rule text (statements ClassDeclarations) n (suc n) (λ _ _. true) (read_class text c n r)
  unfolding read_class
  class_rule =
      above_rule text (classes (IsClass text true c)) (tokens_of_statement written) depth_of_statement n n (λ _ _. true) (λ _ _. true) s.ClassDeclaration (r.class c) x.parts.classes_read
      (omega arith) (λ g. tokens_ClassDeclaration written g) levels_ClassDeclaration (λ a t h. refl)

  expression_at : (i : ℕ) → sort_at text c i ≡ o.Expression → At ExpressionStatements (plain.expression_statement text c n r) i
  expression_at i sort =
      let rule = ended.expression_rule text c n r x.parts.values in
      record {
        sound = λ y j h.
            let q = rule.sound i y j h in
            let p = q.good.0 in
            let spelled = subst (λ ts. SpelledBetween text i ts j) (ap (tokens_of_statement written) q.good.1 ∙ tokens_ExpressionStatement written p.0 p.1) q.spelled in
            let cut = spelled_split text i (tokens_of_expression written p.0) (written p.1) j spelled in
            record { good = (q.good, told.allowed text c n (r.expression true (inside c)) x.parts.values p.0 i cut.0 q.good.2.0 cut.1 sort); levels = q.levels; fits = q.fits; spelled = q.spelled };
        complete = λ y j stands low stop. rule.complete i y j (record { good = stands.good.0; levels = stands.levels; fits = stands.fits; spelled = stands.spelled }) low refl;
      }

  lexical_agrees : (kind : Kind) → is_lexical kind ≡ true → agrees goal.Div kind ≡ true
  lexical_agrees k.Let h = refl
  lexical_agrees k.Const h = refl
  lexical_agrees _ h = cc

  rules_at : (d : Bool) (q : Sort) (i : ℕ) → sort_at text c i ≡ q → At (Sorted d q) (of_sort text c n r d q) i
  rules_at d o.Block i e = any_at Blocks (of_sort text c n r d o.Block) i (bodies.block_statement_rule text c n r x.parts.values x.bodies x.lists)
  rules_at d o.Variables i e = any_at Variables (of_sort text c n r d o.Variables) i (declared.variables_rule text c n r x.parts.bindings is_var var_agrees)
  rules_at true o.Lexical i e = any_at Lexicals (of_sort text c n r true o.Lexical) i (declared.variables_rule text c n r x.parts.bindings is_lexical lexical_agrees)
  rules_at false o.Lexical i e = none_at i
  rules_at d o.Empty i e = any_at (Made (tokens k.Semicolon) s.Empty) (of_sort text c n r d o.Empty) i (bodies.empty_rule text c n r x.parts.values x.bodies x.lists)
  rules_at d o.If i e = body_at Ifs (of_sort text c n r d o.If) i (ifs.if_rule text c n r x.parts.values x.bodies x.lists is_if_first)
  rules_at d o.Do i e = any_at Dos (of_sort text c n r d o.Do) i (bodies.do_rule text c n r x.parts.values x.bodies x.lists)
  rules_at d o.While i e = body_at Whiles (of_sort text c n r d o.While) i (bodies.while_rule text c n r x.parts.values x.bodies x.lists)
  rules_at d o.For i e = body_at (IsLoop text c) (of_sort text c n r d o.For) i loops
  rules_at d o.Continue i e = any_at Continues (of_sort text c n r d o.Continue) i (ended.continue_rule text c n r x.parts.values)
  rules_at d o.Break i e = any_at Breaks (of_sort text c n r d o.Break) i (ended.break_rule text c n r x.parts.values)
  rules_at d o.Return i e = any_at Returns (of_sort text c n r d o.Return) i (ended.return_rule text c n r x.parts.values)
  rules_at d o.Switch i e = any_at Switches (of_sort text c n r d o.Switch) i (switches.switch_rule text c n r x.parts.values x.bodies x.lists)
  rules_at d o.Labelled i e = body_at Labelleds (of_sort text c n r d o.Labelled) i (bodies.labelled_rule text c n r x.parts.values x.bodies x.lists)
  rules_at d o.Throw i e = any_at Throws (of_sort text c n r d o.Throw) i (ended.throw_rule text c n r x.parts.values)
  rules_at d o.Try i e = try_at i
  rules_at d o.Debugger i e = any_at Debuggers (of_sort text c n r d o.Debugger) i (ended.debugger_rule text c n r x.parts.values)
  rules_at true o.Function i e = any_at FunctionDeclarations (of_sort text c n r true o.Function) i function_rule
  rules_at false o.Function i e = none_at i
  rules_at true o.Class i e = any_at ClassDeclarations (of_sort text c n r true o.Class) i class_rule
  rules_at false o.Class i e = none_at i
  rules_at d o.Expression i e = expression_at i e

  -- ---- what is read is well formed

  allow : (d : Bool) (y : Statement) → IsStatement text c y → IsAllowed d text c y
  allow true y h = statement h
  allow false y h = h

  var_is : (kind : Kind) → is_var kind ≡ true → kind ≡ k.Var
  var_is k.Var h = refl
  var_is _ h = cc

  var_of : (y : Declaration) → declared.IsDeclared text c n r x.parts.bindings is_var y → IsDeclaration text false c y
  var_of y h = subst (IsDeclaration text false c) (sym h.1) (variable_bindings h.0.0 h.0.1 (var_is _ h.2.0) h.2.1)

  lexical_of : (y : Declaration) → declared.IsDeclared text c n r x.parts.bindings is_lexical y → IsDeclaration text true c y
  lexical_of y h = subst (IsDeclaration text true c) (sym h.1) (lexical_bindings h.0.0 h.0.1 h.2.0 h.2.1)

  label_kind : (l : Option Token) → ended.IsMaybeLabel text c n r x.parts.values l → kind_if_there (is_reference c) l ≡ true
  label_kind l (inl h) = ap (kind_if_there (is_reference c)) h.1 ∙ first_of _ _ h.2
  label_kind l (inr h) = ap (kind_if_there (is_reference c)) h

  label_line : (l : Option Token) → ended.IsMaybeLabel text c n r x.parts.values l → if_there stands_on_line l ≡ true
  label_line l (inl h) = ap (if_there stands_on_line) h.1 ∙ second_of (is_reference c h.0.kind) _ h.2
  label_line l (inr h) = ap (if_there stands_on_line) h

  returned_of : (word : Token) (v : Option Expression) (t : Option Token) → (ended.ReturnParts text c n r x.parts.values).Good ((word, v), t) → IsStatement text c (make_return ((word, v), t))
  returned_of word None t h = return_alone h.0.0 (ends_of text nothing_goes_on (word ∷ []) t h.1)
  returned_of word (Some v) t h =
      let v_good = ended.returned_lines text c n r x.parts.values v h.0.1 in
      return_value h.0.0 v_good.1 v_good.0 (ends_of text (expression_goes_on v) (tokens_of_expression written v) t h.1)

  -- a statement of a sort is one
  statement_of : (d : Bool) (q : Sort) (y : Statement) → Sorted d q y → IsAllowed d text c y
  statement_of d o.Block y h = allow d y (subst (IsStatement text c) (sym h.1) (block_statement h.2))
  statement_of d o.Variables y h = allow d y (subst (IsStatement text c) (sym h.1) (variable_statement (var_of h.0.0 h.2.0) (ends_of text (bindings_go_on (out-Declaration h.0.0).bindings) (tokens_of_declaration written h.0.0) h.0.1 h.2.1)))
  statement_of true o.Lexical y h = subst (IsItem text c) (sym h.1) (lexical_declaration (lexical_of h.0.0 h.2.0) (ends_of text (bindings_go_on (out-Declaration h.0.0).bindings) (tokens_of_declaration written h.0.0) h.0.1 h.2.1))
  statement_of false o.Lexical y h = absurd h
  statement_of d o.Empty y h = allow d y (subst (IsStatement text c) (sym h.1) (empty_statement h.2))
  statement_of d o.If y h = allow d y (ifs.if_of text c n r x.parts.values x.bodies x.lists is_if_first y h)
  statement_of d o.Do y h = allow d y (subst (IsStatement text c) (sym h.1) (do_while h.2.0.0 h.2.0.1.0 h.2.0.1.1.0 h.2.0.1.1.1.0 h.2.0.1.1.1.1.0 h.2.0.1.1.1.1.1 (loop_ends_of text (h.0.0.1.1.1.1.1 ∷ []) h.0.1 h.2.1)))
  statement_of d o.While y h = allow d y (subst (IsStatement text c) (sym h.1) (while h.2.0 h.2.1.0 h.2.1.1.0 h.2.1.1.1.0 h.2.1.1.1.1))
  statement_of d o.For y h = allow d y h.0
  statement_of d o.Continue y h = allow d y (subst (IsStatement text c) (sym h.1) (continue_statement h.2.0.0 (label_kind h.0.0.1 h.2.0.1) (label_line h.0.0.1 h.2.0.1) (ends_of text nothing_goes_on (h.0.0.0 ∷ maybe_token h.0.0.1) h.0.1 h.2.1)))
  statement_of d o.Break y h = allow d y (subst (IsStatement text c) (sym h.1) (break_statement h.2.0.0 (label_kind h.0.0.1 h.2.0.1) (label_line h.0.0.1 h.2.0.1) (ends_of text nothing_goes_on (h.0.0.0 ∷ maybe_token h.0.0.1) h.0.1 h.2.1)))
  statement_of d o.Return y h = allow d y (subst (IsStatement text c) (sym h.1) (returned_of h.0.0.0 h.0.0.1 h.0.1 h.2))
  statement_of d o.Switch y h =
      let p = h.0 in
      let clauses = switches.clauses_of text c n r x.parts.values x.bodies x.lists p.1.1.1.1.1.0 h.2.1.1.1.1.1.0.0 true h.2.1.1.1.1.1.0.1 in
      allow d y (subst (IsStatement text c) (sym h.1) (switch_statement p.0 p.1.0 p.1.1.0 p.1.1.1.0 p.1.1.1.1.0 p.1.1.1.1.1.0 p.1.1.1.1.1.1 h.2.0 h.2.1.0 h.2.1.1.0 h.2.1.1.1.0 h.2.1.1.1.1.0 clauses h.2.1.1.1.1.1.1))
  statement_of d o.Labelled y h = allow d y (subst (IsStatement text c) (sym h.1) (labelled h.2.0 h.2.1.0 h.2.1.1))
  statement_of d o.Throw y h = allow d y (subst (IsStatement text c) (sym h.1) (throw h.2.0.0 h.2.0.1.1 h.2.0.1.0 (ends_of text (expression_goes_on h.0.0.1) (tokens_of_expression written h.0.0.1) h.0.1 h.2.1)))
  statement_of d o.Try y h = allow d y (tries.try_of text c n r x.parts.targets blocks_read is_brace_first y h)
  statement_of d o.Debugger y h = allow d y (subst (IsStatement text c) (sym h.1) (debugger h.2.0 (ends_of text nothing_goes_on (h.0.0 ∷ []) h.0.1 h.2.1)))
  statement_of true o.Function y h = subst (IsItem text c) (sym h.1) (function_declaration h.2)
  statement_of false o.Function y h = absurd h
  statement_of true o.Class y h = subst (IsItem text c) (sym h.1) (class_declaration h.2)
  statement_of false o.Class y h = absurd h
  statement_of d o.Expression y h =
      allow d y (subst (IsStatement text c) (sym h.0.1) (expression_statement h.1 h.0.2.0 (ends_of text (statement_goes_on h.0.0.0) (tokens_of_expression written h.0.0.0) h.0.0.1 h.0.2.1)))

  -- ---- what stands there is told by its first tokens

  record Placed (d : Bool) (y : Statement) (i : ℕ) : Type 0 where
    sort : Sort
    seen : sort_at text c i ≡ sort
    sorted : Sorted d sort y

  sort_is : (i : ℕ) (t u : Token) → behind text i ≡ t → behind text t.end ≡ u → sort_at text c i ≡ sort_by text c t.kind t u
  unfolding sort_of
  sort_is i t u here there = ap (λ v. sort_of text c v (behind text v.end)) here ∙ ap (sort_of text c t) there

  -- by a first token of a kind
  by_word : (y : Statement) (i j : ℕ) (t : Token) (ts : List Token) (kind : Kind) (q : Sort) → tokens_of_statement written y ≡ t ∷ ts → SpelledBetween text i (tokens_of_statement written y) j → t.kind ≡ kind → agrees goal.Div kind ≡ true → ((v u : Token) → sort_by text c kind v u ≡ q) → sort_at text c i ≡ q
  by_word y i j t ts kind q is h e same sort =
      sort_is i t (behind text t.end) (sees text i t ts j (subst (λ us. SpelledBetween text i us j) is h) (ap (agrees goal.Div) e ∙ same)) refl ∙ ap (λ z. sort_by text c z t (behind text t.end)) e ∙ sort t (behind text t.end)

  option_label : (l : Option Token) → kind_if_there (is_reference c) l ≡ true → if_there stands_on_line l ≡ true → ended.IsMaybeLabel text c n r x.parts.values l
  option_label None h g = inr refl
  option_label (Some t) h g = inl (t, refl, and_of _ _ h g)

  var_declared : (word : Token) (list : Elements) → word.kind ≡ k.Var → AreElements text f.Bindings c list → declared.IsDeclared text c n r x.parts.bindings is_var (make_declaration (word, list))
  var_declared word list e h = ((word, list), refl, (ap is_var e, h))

  standing : (v : Expression) (t : Option Token) (i j : ℕ) → begins_no_expression text (tokens_of_expression written v) ≡ false → IsExpression text (inside c) v → Ends text (statement_goes_on v) (tokens_of_expression written v) t
      → SpelledBetween text i (tokens_of_expression written v ++ written t) j → depth_of_expression v < n → never_follows (behind text j).kind ≡ false → (m : ℕ) × told.Standing text c n (r.expression true (inside c)) x.parts.values v i m
  standing v t i j allowed good ends h low other =
      let cut = spelled_split text i (tokens_of_expression written v) (written t) j h in
      let m = cut.0 in
      let at = ended.value_ends text (IsExpression text (inside c)) n (r.expression true (inside c)) x.parts.values v i m good cut.1 in
      let test = lets_end_is (statement_goes_on v) in
      let end = closes text (lets_end (statement_goes_on v)) test (tokens_of_expression written v) t m j at.0 at.1 (of_ends text (statement_goes_on v) (tokens_of_expression written v) t ends) cut.2 in
      (m, record { good = good; allowed = allowed; spelled = cut.1; low = low; follows = followed t m cut.2 (of_ends text (statement_goes_on v) (tokens_of_expression written v) t ends); closed = end })
    where
      followed : (o : Option Token) (m : ℕ) → SpelledBetween text m (written o) j → Closed text (lets_end (statement_goes_on v)) (tokens_of_expression written v) o → never_follows (behind text m).kind ≡ false
      followed None m h ends = let here : m ≡ j = h in ap (λ p. never_follows (behind text p).kind) here ∙ other
      followed (Some u) m h ends = ap (λ (w : Token). never_follows w.kind) (sees text m u [] j h (ap (agrees goal.Div) ends)) ∙ ap never_follows ends

  placed : (d : Bool) (y : Statement) (i j : ℕ) → IsStatement text c y → SpelledBetween text i (tokens_of_statement written y) j → depth_of_statement y < suc n → statement_stops y (behind text j) ≡ true → Placed d y i
  unfolding is_loop out-Statement denote.Hole.Carrier.out
  placed d y i j (block_statement {block = b} h1) h low stop =
      let first = block_opens text c b h1 in
      record { sort = o.Block; seen = by_word y i j first.0 first.1 k.LeftBrace o.Block (tokens_BlockStatement written b ∙ first.2) h first.3 refl (λ v u. refl); sorted = (b, refl, h1) }
  placed d y i j (variable_statement {semicolon = t} (variable_bindings word list g1 g2) h2) h low stop =
      record {
        sort = o.Variables;
        seen = by_word y i j word (tokens_of_elements written list ++ written t) k.Var o.Variables (tokens_Variables written (make_declaration (word, list)) t ∙ ap (λ ts. ts ++ written t) (tokens_Declaration written word list)) h g1 refl (λ v u. refl);
        sorted = ((make_declaration (word, list), t), refl, (var_declared word list g1 g2, of_ends text (bindings_go_on (out-Declaration (make_declaration (word, list))).bindings) (tokens_of_declaration written (make_declaration (word, list))) t h2));
      }
  placed d y i j (empty_statement {semicolon = t} h1) h low stop =
      record { sort = o.Empty; seen = by_word y i j t [] k.Semicolon o.Empty (tokens_Empty written t) h h1 refl (λ v u. refl); sorted = (t, refl, h1) }
  placed d y i j (expression_statement {x = v} {semicolon = t} h1 h2 h3) h low stop =
      let deep = levels_ExpressionStatement v t in
      let spelled = subst (λ ts. SpelledBetween text i ts j) (tokens_ExpressionStatement written v t) h in
      let stands = standing v t i j h1 h2 h3 spelled (omega (arith, deep, low)) (of_not _ (first_of _ _ stop)) in
      record {
        sort = o.Expression;
        seen = told.told text c n (r.expression true (inside c)) x.parts.values v i stands.0 stands.1;
        sorted = (((v, t), refl, (h2, of_ends text (statement_goes_on v) (tokens_of_expression written v) t h3)), h1);
      }
  placed d y i j (if_statement clause rest last h1 h2 h3) h low stop =
      let first = clause_opens text c _ clause h1 in
      record {
        sort = o.If;
        seen = by_word y i j first.0 (first.1 ++ (flat_map (tokens_of_else_if written) rest ++ tokens_of_else written last)) k.If o.If (tokens_If written clause rest last ∙ ap (λ ts. ts ++ (flat_map (tokens_of_else_if written) rest ++ tokens_of_else written last)) first.2) h first.3 refl (λ v u. refl);
        sorted = ((clause, (rest, last)), refl, ifs.if_parts text c n r x.parts.values x.bodies x.lists is_if_first clause rest last h1 h2 h3);
      }
  placed d y i j (do_while {word = w} {body = b} {while_word = p} {begin = q} {x = v} {ending = t} {semicolon = e} h1 h2 h3 h4 h5 h6 h7) h low stop =
      record { sort = o.Do; seen = by_word y i j w _ k.Do o.Do (tokens_DoWhile written w b p q v t e) h h1 refl (λ v u. refl); sorted = (((w, (b, (p, (q, (v, t))))), e), refl, ((h1, (h2, (h3, (h4, (h5, h6))))), of_loop_ends text (t ∷ []) e h7)) }
  placed d y i j (while {word = w} {begin = q} {x = v} {ending = t} {body = b} h1 h2 h3 h4 h5) h low stop =
      record { sort = o.While; seen = by_word y i j w _ k.While o.While (tokens_While written w q v t b) h h1 refl (λ v u. refl); sorted = ((w, (q, (v, (t, b)))), refl, (h1, (h2, (h3, (h4, h5))))) }
  placed d y i j (for {word = w} {begin = q} {start = g} {first = s1} {test = v} {second = s2} {step = u} {ending = t} {body = b} h1 h2 h3 h4 h5 h6 h7 h8 h9) h low stop =
      record { sort = o.For; seen = by_word y i j w _ k.For o.For (tokens_For written w q g s1 v s2 u t b) h h1 refl (λ v u. refl); sorted = (for h1 h2 h3 h4 h5 h6 h7 h8 h9, refl) }
  placed d y i j (for_in {word = w} {begin = q} {start = g} {middle = m} {x = v} {ending = t} {body = b} h1 h2 h3 h4 h5 h6 h7) h low stop =
      record { sort = o.For; seen = by_word y i j w _ k.For o.For (tokens_ForEach written w None q g m v t b) h h1 refl (λ v u. refl); sorted = (for_in h1 h2 h3 h4 h5 h6 h7, refl) }
  placed d y i j (for_of {word = w} {await_word = a} {begin = q} {start = g} {middle = m} {x = v} {ending = t} {body = b} h1 h2 h3 h4 h5 h6 h7 h8) h low stop =
      record { sort = o.For; seen = by_word y i j w _ k.For o.For (tokens_ForEach written w a q g m v t b) h h1 refl (λ v u. refl); sorted = (for_of h1 h2 h3 h4 h5 h6 h7 h8, refl) }
  placed d y i j (continue_statement {word = w} {label = l} {semicolon = t} h1 h2 h3 h4) h low stop =
      record { sort = o.Continue; seen = by_word y i j w _ k.Continue o.Continue (tokens_Continue written w l t) h h1 refl (λ v u. refl); sorted = (((w, l), t), refl, ((h1, option_label l h2 h3), of_ends text nothing_goes_on (w ∷ maybe_token l) t h4)) }
  placed d y i j (break_statement {word = w} {label = l} {semicolon = t} h1 h2 h3 h4) h low stop =
      record { sort = o.Break; seen = by_word y i j w _ k.Break o.Break (tokens_Break written w l t) h h1 refl (λ v u. refl); sorted = (((w, l), t), refl, ((h1, option_label l h2 h3), of_ends text nothing_goes_on (w ∷ maybe_token l) t h4)) }
  placed d y i j (return_alone {word = w} {semicolon = t} h1 h2) h low stop =
      record { sort = o.Return; seen = by_word y i j w _ k.Return o.Return (tokens_Return written w me.Absent t) h h1 refl (λ v u. refl); sorted = (((w, None), t), refl, ((h1, (true, refl)), of_ends text nothing_goes_on (w ∷ []) t h2)) }
  placed d y i j (return_value {word = w} {x = v} {semicolon = t} h1 h2 h3 h4) h low stop =
      record { sort = o.Return; seen = by_word y i j w _ k.Return o.Return (tokens_Return written w (me.Present v) t) h h1 refl (λ v u. refl); sorted = (((w, Some v), t), refl, ((h1, (false, (v, refl, (h3, h2)))), of_ends text (expression_goes_on v) (tokens_of_expression written v) t h4)) }
  placed d y i j (switch_statement word begin v ending left clauses right h1 h2 h3 h4 h5 h6 h7) h low stop =
      let all = switches.all_clauses text c n r x.parts.values x.bodies x.lists true clauses h6 in
      record { sort = o.Switch; seen = by_word y i j word _ k.Switch o.Switch (tokens_Switch written word begin v ending left clauses right) h h1 refl (λ v u. refl); sorted = ((word, (begin, (v, (ending, (left, (clauses, right)))))), refl, (h1, (h2, (h3, (h4, (h5, ((all.0, all.1), h7))))))) }
  placed d y i j (labelled {label = l} {colon = t} {body = b} h1 h2 h3) h low stop =
      let spelled = subst (λ ts. SpelledBetween text i ts j) (tokens_Labelled written l t b) h in
      record {
        sort = o.Labelled;
        seen = sort_is i l t (sees text i l (t ∷ tokens_of_statement written b) j spelled (label_agrees c l.kind h1)) (sees text l.end t (tokens_of_statement written b) j spelled.2 (ap (agrees goal.Div) h2)) ∙ label_sort text c l t h1 h2;
        sorted = ((l, (t, b)), refl, (h1, (h2, h3)));
      }
  placed d y i j (throw {word = w} {x = v} {semicolon = t} h1 h2 h3 h4) h low stop =
      record { sort = o.Throw; seen = by_word y i j w _ k.Throw o.Throw (tokens_Throw written w v t) h h1 refl (λ v u. refl); sorted = (((w, v), t), refl, ((h1, (h3, h2)), of_ends text (expression_goes_on v) (tokens_of_expression written v) t h4)) }
  placed d y i j (try_catch {word = w} {block = b} {handler = g} {finalizer = q} h1 h2 h3 h4) h low stop =
      record { sort = o.Try; seen = by_word y i j w _ k.Try o.Try (tokens_Try written w b g q) h h1 refl (λ v u. refl); sorted = ((w, (b, (g, q))), refl, tries.try_catch_parts text c n r x.parts.targets blocks_read is_brace_first w b g q h1 h2 h3 h4) }
  placed d y i j (try_finally {word = w} {block = b} {finally_word = q} {last = l} h1 h2 h3 h4) h low stop =
      record { sort = o.Try; seen = by_word y i j w _ k.Try o.Try (tokens_Try written w b ha.NoHandler (fi.Finally q l)) h h1 refl (λ v u. refl); sorted = ((w, (b, (ha.NoHandler, fi.Finally q l))), refl, tries.try_finally_parts text c n r x.parts.targets blocks_read is_brace_first w b q l h1 h2 h3 h4) }
  placed d y i j (debugger {word = w} {semicolon = t} h1 h2) h low stop =
      record { sort = o.Debugger; seen = by_word y i j w _ k.Debugger o.Debugger (tokens_Debugger written w t) h h1 refl (λ v u. refl); sorted = ((w, t), refl, (h1, of_ends text nothing_goes_on (w ∷ []) t h2)) }

  -- `let` and `const`
  lexical_seen : (word : Token) (list : Elements) (rest : List Token) (i j : ℕ) → is_lexical word.kind ≡ true → AreElements text f.Bindings c list → SpelledBetween text i ((word ∷ tokens_of_elements written list) ++ rest) j → sort_at text c i ≡ o.Lexical
  lexical_seen word list rest i j h good spelled = by_kind word.kind refl h
    where
      here : behind text i ≡ word
      here = sees text i word (tokens_of_elements written list ++ rest) j spelled (lexical_agrees word.kind h)

      by_kind : (kind : Kind) → word.kind ≡ kind → is_lexical kind ≡ true → sort_at text c i ≡ o.Lexical
      by_kind k.Const e h = sort_is i word (behind text word.end) here refl ∙ ap (λ z. sort_by text c z word (behind text word.end)) e
      by_kind k.Let e h =
          let target = declared.list_begins text c n r x.parts.bindings list good in
          let second = subst (λ ts. SpelledBetween text word.end (ts ++ rest) j) target.is spelled.2 in
          let there = sees text word.end target.first (target.rest ++ rest) j second (target_agrees target.first.kind target.kind) in
          sort_is i word target.first here there ∙ ap (λ z. sort_by text c z word target.first) e ∙ ap (λ b. cond b o.Lexical (named_sort text c word target.first)) target.kind
      by_kind _ e h = cc

  -- a function's word, or `async` before it
  async_sort : (t u : Token) → is_async text t ≡ true → u.kind ≡ k.Function → u.after_line ≡ false → sort_by text c t.kind t u ≡ o.Function
  async_sort t u name kind line =
      let first = async_name text t name in
      ap (λ z. sort_by text c z t u) first
      ∙ labels_nothing (is_reference c t.kind) (is_colon u.kind) (is_async text t && (is_function u.kind && not u.after_line)) (ap is_colon kind) (and_of _ _ name (and_of _ _ (ap is_function kind) (ap not line)))

  function_seen : (g : Function) (i j : ℕ) → IsFunction text true g → SpelledBetween text i (tokens_of_function written g) j → sort_at text c i ≡ o.Function
  function_seen g i j good h =
      let v = function_opens text g good in
      by_async v.async_word v.word v.rest (subst (λ ts. SpelledBetween text i ts j) v.is h) v.named v.kind v.line
    where
      by_async : (a : Option Token) (w : Token) (ts : List Token) → SpelledBetween text i (maybe_token a ++ (w ∷ ts)) j → if_there (is_async text) a ≡ true → w.kind ≡ k.Function → on_line_behind a (w ∷ []) ≡ true → sort_at text c i ≡ o.Function
      by_async None w ts h named kind line =
          sort_is i w (behind text w.end) (sees text i w ts j h (ap (agrees goal.Div) kind)) refl ∙ ap (λ z. sort_by text c z w (behind text w.end)) kind
      by_async (Some t) w ts h named kind line =
          let first = async_name text t named in
          sort_is i t w (sees text i t (w ∷ ts) j h (ap (agrees goal.Div) first)) (sees text t.end w ts j h.2 (ap (agrees goal.Div) kind)) ∙ async_sort t w named kind (of_not _ line)

  placed_item : (y : Statement) (i j : ℕ) → IsItem text c y → SpelledBetween text i (tokens_of_statement written y) j → depth_of_statement y < suc n → statement_stops y (behind text j) ≡ true → Placed true y i
  placed_item y i j (statement h1) h low stop = placed true y i j h1 h low stop
  placed_item y i j (function_declaration {function = g} h1) h low stop = record { sort = o.Function; seen = function_seen g i j h1 (subst (λ ts. SpelledBetween text i ts j) (tokens_FunctionDeclaration written g) h); sorted = (g, refl, h1) }
  placed_item y i j (class_declaration {class = g} h1) h low stop =
      let first = class_opens text c g h1 in
      record { sort = o.Class; seen = by_word y i j first.0 first.1 k.Class o.Class (tokens_ClassDeclaration written g ∙ first.2) h first.3 refl (λ v u. refl); sorted = (g, refl, h1) }
  placed_item y i j (lexical_declaration {semicolon = t} (lexical_bindings word list g1 g2) h2) h low stop =
      let yields = tokens_Variables written (make_declaration (word, list)) t ∙ ap (λ ts. ts ++ written t) (tokens_Declaration written word list) in
      record {
        sort = o.Lexical;
        seen = lexical_seen word list (written t) i j g1 g2 (subst (λ ts. SpelledBetween text i ts j) yields h);
        sorted = ((make_declaration (word, list), t), refl, (((word, list), refl, (g1, g2)), of_ends text (bindings_go_on (out-Declaration (make_declaration (word, list))).bindings) (tokens_of_declaration written (make_declaration (word, list))) t h2));
      }

  placed_allowed : (d : Bool) (y : Statement) (i j : ℕ) → IsAllowed d text c y → SpelledBetween text i (tokens_of_statement written y) j → depth_of_statement y < suc n → statement_stops y (behind text j) ≡ true → Placed d y i
  placed_allowed true y i j good h low stop = placed_item y i j good h low stop
  placed_allowed false y i j good h low stop = placed false y i j good h low stop

  -- ---- the rule of all of them

  pub statement_rule : (d : Bool) → Rule text (statements (IsAllowed d text c)) n (suc n) statement_stops (all.statement text c n r d)
  unfolding all.statement
  statement_rule d = record {
    sound = λ i y j h.
        let q = sort_at text c i in
        let s = (rules_at d q i refl).sound y j h in
        record { good = statement_of d q y.tree s.good; levels = s.levels; fits = s.fits; spelled = s.spelled };
    complete = λ i y j stands low stop.
        let here = placed_allowed d y.tree i j stands.good stands.spelled (subst (λ l. l < suc n) (sym stands.levels) low) stop in
        ap (λ q. of_sort text c n r d q i) here.seen
        ∙ (rules_at d here.sort i here.seen).complete y j (record { good = here.sorted; levels = stands.levels; fits = stands.fits; spelled = stands.spelled }) low stop;
  }

  -- ---- no `else` is left behind

  abbrev Leaves : Reader (Node Statement) → Type 0
  Leaves read = Keeps text (λ y. nearest (takes_else y)) read

  taken : (y : Statement) (t : Token) → takes_else y ≡ false → nearest (takes_else y) t ≡ true
  taken y t h = ap (λ b. nearest b t) h

  -- statements that end with no `if`
  closed_leaves : (Good : Statement → Type 0) (read : Reader (Node Statement)) → Rule text (statements Good) n (suc n) (λ _ _. true) read → ((y : Statement) → Good y → takes_else y ≡ false) → Leaves read
  closed_leaves Good read rule none i y j h = taken y.tree (behind text j) (none y.tree (rule.sound i y j h).good)

  try_leaves : Leaves (try_statement text c n r)
  try_leaves i y j h =
      let s = (tries.try_rule text c n r x.parts.targets blocks_read is_brace_first).sound i y j h in
      let p = s.good.0 in
      taken y.tree (behind text j) (ap takes_else s.good.1 ∙ takes_Try p.0 p.1.0 p.1.1.0 p.1.1.1)

  choose_leaves : (b : Bool) (read : Reader (Node Statement)) → Leaves read → Leaves (choose b read fail)
  choose_leaves true read keeps i y j h = keeps i y j h
  choose_leaves false read keeps i y j h = cc

  leaves : (for_leaves : Leaves (for_statement text c n r)) (d : Bool) (q : Sort) → Leaves (of_sort text c n r d q)
  leaves for_leaves d o.Block = closed_leaves Blocks (of_sort text c n r d o.Block) (bodies.block_statement_rule text c n r x.parts.values x.bodies x.lists) (λ y h. ap takes_else h.1 ∙ takes_BlockStatement h.0)
  leaves for_leaves d o.Variables = closed_leaves Variables (of_sort text c n r d o.Variables) (declared.variables_rule text c n r x.parts.bindings is_var var_agrees) (λ y h. ap takes_else h.1 ∙ takes_Variables h.0.0 h.0.1)
  leaves for_leaves d o.Lexical = choose_leaves d (variables text c n r is_lexical) (closed_leaves Lexicals (variables text c n r is_lexical) (declared.variables_rule text c n r x.parts.bindings is_lexical lexical_agrees) (λ y h. ap takes_else h.1 ∙ takes_Variables h.0.0 h.0.1))
  leaves for_leaves d o.Empty = closed_leaves (Made (tokens k.Semicolon) s.Empty) (of_sort text c n r d o.Empty) (bodies.empty_rule text c n r x.parts.values x.bodies x.lists) (λ y h. ap takes_else h.1 ∙ takes_Empty h.0)
  leaves for_leaves d o.If = ifs.if_keeps text c n r x.parts.values x.bodies x.lists is_if_first
  leaves for_leaves d o.Do = closed_leaves Dos (of_sort text c n r d o.Do) (bodies.do_rule text c n r x.parts.values x.bodies x.lists) (λ y h. ap takes_else h.1 ∙ takes_DoWhile h.0.0.0 h.0.0.1.0 h.0.0.1.1.0 h.0.0.1.1.1.0 h.0.0.1.1.1.1.0 h.0.0.1.1.1.1.1 h.0.1)
  leaves for_leaves d o.While = bodies.while_keeps text c n r x.parts.values x.bodies x.lists
  leaves for_leaves d o.For = for_leaves
  leaves for_leaves d o.Continue = closed_leaves Continues (of_sort text c n r d o.Continue) (ended.continue_rule text c n r x.parts.values) (λ y h. ap takes_else h.1 ∙ takes_Continue h.0.0.0 h.0.0.1 h.0.1)
  leaves for_leaves d o.Break = closed_leaves Breaks (of_sort text c n r d o.Break) (ended.break_rule text c n r x.parts.values) (λ y h. ap takes_else h.1 ∙ takes_Break h.0.0.0 h.0.0.1 h.0.1)
  leaves for_leaves d o.Return = closed_leaves Returns (of_sort text c n r d o.Return) (ended.return_rule text c n r x.parts.values) (λ y h. ap takes_else h.1 ∙ takes_Return h.0.0.0 (plain.maybe_expression h.0.0.1) h.0.1)
  leaves for_leaves d o.Switch = closed_leaves Switches (of_sort text c n r d o.Switch) (switches.switch_rule text c n r x.parts.values x.bodies x.lists) (λ y h. ap takes_else h.1 ∙ takes_Switch h.0.0 h.0.1.0 h.0.1.1.0 h.0.1.1.1.0 h.0.1.1.1.1.0 h.0.1.1.1.1.1.0 h.0.1.1.1.1.1.1)
  leaves for_leaves d o.Labelled = bodies.labelled_keeps text c n r x.parts.values x.bodies x.lists
  leaves for_leaves d o.Throw = closed_leaves Throws (of_sort text c n r d o.Throw) (ended.throw_rule text c n r x.parts.values) (λ y h. ap takes_else h.1 ∙ takes_Throw h.0.0.0 h.0.0.1 h.0.1)
  leaves for_leaves d o.Try = try_leaves
  leaves for_leaves d o.Debugger = closed_leaves Debuggers (of_sort text c n r d o.Debugger) (ended.debugger_rule text c n r x.parts.values) (λ y h. ap takes_else h.1 ∙ takes_Debugger h.0.0 h.0.1)
  leaves for_leaves d o.Function = choose_leaves d (read_function text c n r) (closed_leaves FunctionDeclarations (read_function text c n r) function_rule (λ y h. ap takes_else h.1 ∙ takes_FunctionDeclaration h.0))
  leaves for_leaves d o.Class = choose_leaves d (read_class text c n r) (closed_leaves ClassDeclarations (read_class text c n r) class_rule (λ y h. ap takes_else h.1 ∙ takes_ClassDeclaration h.0))
  leaves for_leaves d o.Expression = closed_leaves (Made (ended.ExpressionParts text c n r x.parts.values) make_expression) (of_sort text c n r d o.Expression) (ended.expression_rule text c n r x.parts.values) (λ y h. ap takes_else h.1 ∙ takes_ExpressionStatement h.0.0 h.0.1)

  pub statement_leaves : Leaves (for_statement text c n r) → (d : Bool) → Leaves (all.statement text c n r d)
  unfolding all.statement
  statement_leaves for_leaves d i y j h = leaves for_leaves d (sort_at text c i) i y j h
