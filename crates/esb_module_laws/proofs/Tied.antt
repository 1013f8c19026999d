-- What is handed in for module items is read exactly where the parts of statements are.
use Rattle.std.proofs.Common.{◌≡◌, ◌⊎◌, inl, inr, ℕ, zero, suc, ◌<◌, Bool, true, false, not, ◌&&◌, ◌||◌, cond, List, [], ◌∷◌, ◌++◌, Option, Some, None, refl, ap, sym, ◌∙◌, subst, arith}
use Rattle.esb_token.specs.declared.kind.Kind.{Kind}
use Rattle.esb_token.specs.declared.kind.Kind.TheVariants as k
use Rattle.esb_token.specs.declared.token.Token.{Token}
use Rattle.esb_token.specs.declared.goal.Goal.TheVariants as goal
use Rattle.esb_token.specs.Goals.{is_division}
use Rattle.esb_token.specs.Tokens.{SpelledBetween}
use Rattle.esb_tree.specs.declared.expressions.Expression.{Expression}
use Rattle.esb_tree.specs.declared.functions.Function.{Function}
use Rattle.esb_tree.specs.declared.statements.Statement.{Statement}
use Rattle.esb_tree.specs.Trees.{written}
use Rattle.esb_tree.specs.Yields.{maybe_token, tokens_of_elements, tokens_of_expression, tokens_of_function, tokens_of_statement}
use Rattle.esb_tree.proofs.TokenLines.{tokens_FunctionDeclaration, tokens_ClassDeclaration, tokens_Variables, tokens_Declaration}
use Rattle.esb_grammar.specs.declared.context.Context.{Context}
use Rattle.esb_grammar.specs.Contexts.{of_module, inside}
use Rattle.esb_grammar.specs.Grammar.{IsExpression, IsStatement, IsItem, statement, function_declaration, class_declaration, lexical_declaration, lexical_bindings}
use Rattle.esb_grammar.specs.Kinds.{is_reference, is_name, is_lexical, is_function}
use Rattle.esb_grammar.specs.Words.{is_async, if_there}
use Rattle.esb_reader.specs.declared.node.Node.{Node}
use Rattle.esb_reader.specs.Kinds.{agrees}
use Rattle.esb_reader.specs.Places.{Text}
use Rattle.esb_reader.specs.Reader.{Reader, fail}
use Rattle.esb_reader.specs.Parts.{behind}
use Rattle.esb_reader.specs.Stands.{Syntax, Rule, row}
use Rattle.esb_statement_laws.specs.declared.sort.Sort.TheVariants as q
use Rattle.esb_statement_laws.specs.Exact.{ExactParts, Exact}
use Rattle.esb_statement_laws.specs.Handed.{Handed, statements, Begins}
use Rattle.esb_statement_laws.specs.Items as all
use Rattle.esb_statement_laws.specs.Marks.{begins_expression, begins_statement, ends_items, is_colon, named_sort, sort_by, sort_of, sort_at, statement_stops}
use Rattle.esb_statement_laws.specs.Statements.{expression_statement}
use Rattle.esb_statement_laws.specs.Within.{handed, items_within, ItemsExact}
use Rattle.esb_statement_laws.proofs.Chosen.{FunctionOpens, function_opens, class_opens}
use Rattle.esb_statement_laws.proofs.Ended.{value_seen, expression_rule}
use Rattle.esb_statement_laws.proofs.Levelled.{statement_read, statement_keeps, items_exact}
use Rattle.esb_statement_laws.proofs.Opens.{opened}
use Rattle.esb_statement_laws.proofs.Shown.{Shown}
use Rattle.esb_statement_laws.proofs.Small.{async_name}
use Rattle.esb_tree.proofs.TokenLines.{tokens_ExpressionStatement}
use Rattle.esb_reading_laws.proofs.Steps.{spelled_split}
use Rattle.esb_module_laws.specs.declared.item_sort.ItemSort.TheVariants as o
use Rattle.esb_module_laws.specs.Exact.{ExactItems}
use Rattle.esb_module_laws.specs.Marks.{import_sort, item_sort_by, item_sort_of, item_sort_at, beyond}
use Rattle.esb_module_laws.specs.Module.{Nameless, handed_items, ExactNameless}
use Rattle.esb_module_laws.proofs.Imports.{follows_import, is_import, import_leads, imports_lead}
use Rattle.esb_module_laws.proofs.ItemTold.{import_told}
use Rattle.esb_module_laws.proofs.Small.{no_word}

-- ---- level by level

-- what is read within n levels is what is read below the next
raised : {A : Type 0} (text : Text) (S : Syntax A) (n : ℕ) (stops : A → Token → Bool) (read : Reader (Node A)) → Rule text S n (suc n) stops read → Rule text S (suc n) (suc n) stops read
raised text S n stops read rule = record {
  sound = λ i y j h. let s = rule.sound i y j h in record { good = s.good; levels = s.levels; fits = let f = s.fits in omega arith; spelled = s.spelled };
  complete = λ i y j s low stop. rule.complete i y j (record { good = s.good; levels = s.levels; fits = omega arith; spelled = s.spelled }) low stop;
}

-- nothing is read below none
none_read : {A : Type 0} (text : Text) (S : Syntax A) (stops : A → Token → Bool) → Rule text S 0 0 stops fail
none_read text S stops = record { sound = λ i y j h. cc; complete = λ i y j s low stop. absurd (omega arith) }

module _ (text : Text) (parts : ℕ → Handed) (exact : (n : ℕ) → ((m : ℕ) → m < n → ItemsExact text parts m) → (c : Context) → ExactParts text c n (handed text parts n)) where
  pub lists_below : (n m : ℕ) → m < n → ItemsExact text parts m
  lists_below n m h = items_exact text parts exact m

  pub exact_within : (n : ℕ) (c : Context) → Exact text c n (handed text parts n)
  unfolding handed
  exact_within zero c = record {
    parts = exact zero (lists_below zero) c;
    lists = none_read text (row (statements (IsItem text c))) (λ _ t. ends_items t.kind);
    bodies = record { rule = none_read text (statements (IsStatement text c)) statement_stops; keeps = λ i y j h. cc };
  }
  exact_within (suc n) c = record {
    parts = exact (suc n) (lists_below (suc n)) c;
    lists = raised text (row (statements (IsItem text c))) n (λ _ t. ends_items t.kind) (items_within text parts n c) (items_exact text parts exact n c);
    bodies = record {
      rule = raised text (statements (IsStatement text c)) n statement_stops (all.statement text c n (handed text parts n) false) (statement_read text c n (handed text parts n) (exact_within n c) false);
      keeps = statement_keeps text c n (handed text parts n) (exact_within n c) false;
    };
  }

-- ---- with which tokens statements and declarations begin

lexical_begins : (kind : Kind) → is_lexical kind ≡ true → begins_statement kind ≡ true
lexical_begins k.Let h = refl
lexical_begins k.Const h = refl
lexical_begins _ h = cc

function_begins : (text : Text) (g : Function) → FunctionOpens text g → Begins begins_statement (tokens_of_function written g)
function_begins text g v = by_async v.async_word v.word v.rest v.is v.named v.kind
  where
    by_async : (a : Option Token) (w : Token) (ts : List Token) → tokens_of_function written g ≡ maybe_token a ++ (w ∷ ts) → if_there (is_async text) a ≡ true → w.kind ≡ k.Function → Begins begins_statement (tokens_of_function written g)
    by_async None w ts is named kind = record { first = w; rest = ts; is = is; kind = ap begins_statement kind }
    by_async (Some t) w ts is named kind = record { first = t; rest = w ∷ ts; is = is; kind = ap begins_statement (async_name text t named) }

item_begins : (text : Text) (c : Context) → ((x : Expression) → IsExpression text (inside c) x → Begins begins_expression (tokens_of_expression written x)) → (y : Statement) → IsItem text c y → Begins begins_statement (tokens_of_statement written y)
item_begins text c begins y (statement h) = let b = opened text c begins y h in record { first = b.first; rest = b.rest; is = b.is; kind = b.kind }
item_begins text c begins y (function_declaration {function = g} h) =
    let b = function_begins text g (function_opens text g h) in
    record { first = b.first; rest = b.rest; is = tokens_FunctionDeclaration written g ∙ b.is; kind = b.kind }
item_begins text c begins y (class_declaration {class = g} h) =
    let b = class_opens text c g h in
    record { first = b.0; rest = b.1; is = tokens_ClassDeclaration written g ∙ b.2; kind = ap begins_statement b.3 }
item_begins text c begins y (lexical_declaration {semicolon = t} (lexical_bindings word list h g) e) =
    record {
      first = word;
      rest = tokens_of_elements written list ++ written t;
      is = tokens_Variables written _ t ∙ ap (λ ts. ts ++ written t) (tokens_Declaration written word list);
      kind = lexical_begins word.kind h;
    }

-- ---- no statement is read where an import or an export is told

-- the two words, and all others
module_words : (text : Text) (kind : Kind) → (kind ≡ k.Import) ⊎ ((kind ≡ k.Export) ⊎ ((s t u : Token) → item_sort_by text kind s t u ≡ o.Statement))
module_words text k.Import = inl refl
module_words text k.Export = inr (inl refl)
module_words text _ = inr (inr (λ s t u. refl))

named_expression : (a b d : Bool) → a ≡ false → d ≡ false → cond (a && b) q.Labelled (cond d q.Function q.Expression) ≡ q.Expression
named_expression false b false h g = refl
named_expression false b true h g = cc
named_expression true b d h g = cc

follows_agrees : (kind : Kind) → follows_import kind ≡ true → agrees goal.Div kind ≡ true
follows_agrees k.LeftParenthesis h = refl
follows_agrees k.Dot h = refl
follows_agrees _ h = cc

follows_sort : (kind : Kind) → follows_import kind ≡ true → import_sort kind ≡ o.Statement
follows_sort k.LeftParenthesis h = refl
follows_sort k.Dot h = refl
follows_sort _ h = cc

module _ (text : Text) (n : ℕ) (r : Handed) (e : Exact text of_module n r) where
  -- a statement that begins with a word that is no name is an expression
  word_sort : (t u : Token) (kind : Kind) → t.kind ≡ kind → sort_by text of_module kind t u ≡ named_sort text of_module t u → is_reference of_module kind ≡ false → is_name kind ≡ false → sort_of text of_module t u ≡ q.Expression
  unfolding sort_of
  word_sort t u kind is sort other no_name =
      ap (λ z. sort_by text of_module z t u) is ∙ sort
      ∙ named_expression (is_reference of_module t.kind) (is_colon u.kind) (is_async text t && (is_function u.kind && not u.after_line)) (ap (is_reference of_module) is ∙ other) (off (is_async text t) _ (no_word text _ t (ap is_name is ∙ no_name)))
    where
      off : (a b : Bool) → a ≡ false → (a && b) ≡ false
      off false b h = refl
      off true b h = cc

  -- an expression that was read as a statement
  record ReadValue (i : ℕ) : Type 0 where
    value : Expression
    ending : ℕ
    good : IsExpression text (inside of_module) value
    spelled : SpelledBetween text i (tokens_of_expression written value) ending

  expression_read : (i : ℕ) (x : Node Statement) (j : ℕ) → sort_at text of_module i ≡ q.Expression → all.statement text of_module n r true i ≡ Some (x, j) → ReadValue i
  unfolding all.statement
  expression_read i x j sort h =
      let read : expression_statement text of_module n r i ≡ Some (x, j) = ap (λ z. all.of_sort text of_module n r true z i) (sym sort) ∙ h in
      let s = (expression_rule text of_module n r e.parts.values).sound i x j read in
      let p = s.good.0 in
      let cut = spelled_split text i (tokens_of_expression written p.0) (written p.1) j (subst (λ ts. SpelledBetween text i ts j) (ap (tokens_of_statement written) s.good.1 ∙ tokens_ExpressionStatement written p.0 p.1) s.spelled) in
      record { value = p.0; ending = cut.0; good = s.good.2.0; spelled = cut.1 }

  value_first : (i : ℕ) (v : ReadValue i) → Shown text i (e.parts.values.begins v.value v.good).first
  value_first i v = value_seen text (IsExpression text (inside of_module)) n (r.expression true (inside of_module)) e.parts.values v.value i v.ending v.good v.spelled

  no_export : (i : ℕ) (t : Token) → Shown text i t → begins_expression t.kind ≡ true → (behind text i).kind ≡ k.Export → ⊥
  no_export i t (inl same) begins kind = let bad : false ≡ true = ap begins_expression (sym kind ∙ ap (λ (u : Token). u.kind) same) ∙ begins in cc
  no_export i t (inr slash) begins kind = let bad : false ≡ true = ap is_division (sym kind) ∙ slash.1 in cc

  import_is_told : (i : ℕ) (t : Token) (ts : List Token) (j : ℕ) → SpelledBetween text i (t ∷ ts) j → t.kind ≡ k.Import → import_leads (t ∷ ts) ≡ true → item_sort_at text i ≡ o.Statement
  import_is_told i t [] j h is leads = let bad : false ≡ true = ap (λ z. not (is_import z)) (sym is) ∙ leads in cc
  import_is_told i t (u ∷ us) j h is leads =
      let follows : follows_import u.kind ≡ true = ap (λ z. not (is_import z) || follows_import u.kind) (sym is) ∙ leads in
      import_told text i t u us j h is (follows_agrees u.kind follows) ∙ follows_sort u.kind follows

  import_read : (i : ℕ) (v : ReadValue i) → Shown text i (e.parts.values.begins v.value v.good).first → (behind text i).kind ≡ k.Import → item_sort_at text i ≡ o.Statement
  import_read i v (inl same) kind =
      let b = e.parts.values.begins v.value v.good in
      import_is_told i b.first b.rest v.ending (subst (λ ts. SpelledBetween text i ts v.ending) b.is v.spelled) (sym (ap (λ (u : Token). u.kind) same) ∙ kind) (ap import_leads (sym b.is) ∙ imports_lead text (inside of_module) v.value v.good)
  import_read i v (inr slash) kind = let bad : false ≡ true = ap is_division (sym kind) ∙ slash.1 in cc

  told : (i : ℕ) (x : Node Statement) (j : ℕ) → all.statement text of_module n r true i ≡ Some (x, j) → item_sort_at text i ≡ o.Statement
  unfolding item_sort_of
  told i x j h = by_case (module_words text (behind text i).kind)
    where
      by_case : ((behind text i).kind ≡ k.Import) ⊎ (((behind text i).kind ≡ k.Export) ⊎ ((s t u : Token) → item_sort_by text (behind text i).kind s t u ≡ o.Statement)) → item_sort_at text i ≡ o.Statement
      by_case (inl kind) =
          let v = expression_read i x j (word_sort (behind text i) (behind text (beyond text i)) k.Import kind refl refl refl) h in
          import_read i v (value_first i v) kind
      by_case (inr (inl kind)) =
          let v = expression_read i x j (word_sort (behind text i) (behind text (beyond text i)) k.Export kind refl refl refl) h in
          absurd (no_export i (e.parts.values.begins v.value v.good).first (value_first i v) (e.parts.values.begins v.value v.good).kind kind)
      by_case (inr (inr other)) = other _ _ _

  pub items_handed : (parts : ℕ → Handed) (nameless : ℕ → Nameless) → r ≡ handed text parts n → ExactNameless text n (parts n) (nameless n) → ExactItems text n (record (handed_items text parts nameless n) { statement = all.statement text of_module n r true })
  items_handed parts nameless same m = record {
    statements_read = statement_read text of_module n r e true;
    told = told;
    begins = item_begins text of_module e.parts.values.begins;
    values = m.values;
    functions_read = m.functions_read;
    classes_read = m.classes_read;
  }

-- what is handed in within n levels
pub items_exactly : (text : Text) (parts : ℕ → Handed) (nameless : ℕ → Nameless) → ((n : ℕ) → ((m : ℕ) → m < n → ItemsExact text parts m) → (c : Context) → ExactParts text c n (handed text parts n))
    → ((n : ℕ) → ((m : ℕ) → m < n → ItemsExact text parts m) → ExactNameless text n (parts n) (nameless n))
    → (n : ℕ) → ExactItems text n (handed_items text parts nameless n)
items_exactly text parts nameless exact more n =
    let m = more n (lists_below text parts exact n) in
    items_handed text n (handed text parts n) (exact_within text parts exact n of_module) parts nameless refl m
