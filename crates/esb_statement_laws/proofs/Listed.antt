-- Lists of statements are read exactly.
use Rattle.std.proofs.Common.{◌≡◌, ℕ, suc, ◌<◌, ◌≤◌, true, false, not, List, [], ◌∷◌, ◌++◌, length, Option, Some, None, refl, ap, ◌∙◌, subst}
use Rattle.esb_token.specs.declared.kind.Kind.{Kind}
use Rattle.esb_token.specs.declared.kind.Kind.TheVariants as k
use Rattle.esb_token.specs.declared.token.Token.{Token}
use Rattle.esb_token.specs.Tokens.{SpelledBetween}
use Rattle.esb_tree.specs.declared.functions.Function.{Function}
use Rattle.esb_tree.specs.declared.statements.Statement.{Statement}
use Rattle.esb_tree.specs.Trees.{written}
use Rattle.esb_tree.specs.Yields.{maybe_token, tokens_of_elements, tokens_of_function, tokens_of_statement}
use Rattle.esb_tree.proofs.TokenLines.{tokens_FunctionDeclaration, tokens_ClassDeclaration, tokens_Variables, tokens_Declaration}
use Rattle.esb_grammar.specs.declared.context.Context.{Context}
use Rattle.esb_grammar.specs.Edges.{takes_else}
use Rattle.esb_grammar.specs.Kinds.{is_lexical}
use Rattle.esb_grammar.specs.Words.{is_async, if_there}
use Rattle.esb_grammar.specs.Grammar.{IsItem, statement, function_declaration, class_declaration, lexical_declaration, lexical_bindings}
use Rattle.esb_reader.specs.Places.{Text}
use Rattle.esb_reader.specs.Parts.{behind, many}
use Rattle.esb_reader.specs.Stands.{Rule, row, last_stops, list_stops}
use Rattle.esb_reading_laws.specs.Laws.{Repeats}
use Rattle.esb_reading_laws.proofs.Composed.{same_rule}
use Rattle.esb_reading_laws.proofs.Rows.{many_rule}
use Rattle.esb_statement_laws.specs.Marks.{begins_statement, begins_item, ends_items, never_follows, is_else, statement_stops}
use Rattle.esb_statement_laws.specs.Handed.{Handed, statements, Begins}
use Rattle.esb_statement_laws.specs.Declarations.{make_declaration}
use Rattle.esb_statement_laws.specs.Items as all
use Rattle.esb_statement_laws.specs.Exact.{Exact, IsLoop}
use Rattle.esb_statement_laws.specs.Loops.{for_statement}
use Rattle.esb_statement_laws.proofs.EndingsRead.{spelled_moves}
use Rattle.esb_statement_laws.proofs.Shown.{shown, item_shown}
use Rattle.esb_statement_laws.proofs.Opens.{opened}
use Rattle.esb_statement_laws.proofs.Bodies.{other_stops}
use Rattle.esb_statement_laws.proofs.Chosen.{FunctionOpens, function_opens, class_opens, statement_rule}
use Rattle.esb_statement_laws.proofs.Small.{and_of, async_name}

lexical_begins : (kind : Kind) → is_lexical kind ≡ true → begins_statement kind ≡ true
lexical_begins k.Let h = refl
lexical_begins k.Const h = refl
lexical_begins _ h = cc

-- a token with which a statement may begin follows each statement
item_follows : (kind : Kind) → begins_item kind ≡ true → (never_follows kind ≡ false) × (is_else kind ≡ false)
item_follows k.Colon h = cc
item_follows k.Catch h = cc
item_follows k.Finally h = cc
item_follows k.Else h = cc
item_follows _ h = (refl, refl)

-- so does one behind a list, and none begins there
list_follows : (kind : Kind) → ends_items kind ≡ true → (never_follows kind ≡ false) × (is_else kind ≡ false) × (begins_item kind ≡ false)
list_follows k.RightBrace h = (refl, refl, refl)
list_follows k.Case h = (refl, refl, refl)
list_follows k.Default h = (refl, refl, refl)
list_follows k.End h = (refl, refl, refl)
list_follows _ h = cc

list_ends : (xs : List Statement) (t : Token) → ends_items t.kind ≡ true → last_stops statement_stops xs t ≡ true
list_ends [] t h = refl
list_ends (x ∷ []) t h = let g = list_follows t.kind h in other_stops (takes_else x) t g.0 g.1
list_ends (x ∷ y ∷ xs) t h = list_ends (y ∷ xs) t h

module _ (text : Text) (c : Context) (n : ℕ) (r : Handed) (x : Exact text c n r) (loops : Rule text (statements (IsLoop text c)) n (suc n) statement_stops (for_statement text c n r)) where
  function_begins : (g : Function) → FunctionOpens text g → Begins begins_statement (tokens_of_function written g)
  function_begins g v = by_async v.async_word v.word v.rest v.is v.named v.kind
    where
      by_async : (a : Option Token) (w : Token) (ts : List Token) → tokens_of_function written g ≡ maybe_token a ++ (w ∷ ts) → if_there (is_async text) a ≡ true → w.kind ≡ k.Function → Begins begins_statement (tokens_of_function written g)
      by_async None w ts is named kind = record { first = w; rest = ts; is = is; kind = ap begins_statement kind }
      by_async (Some t) w ts is named kind = record { first = t; rest = w ∷ ts; is = is; kind = ap begins_statement (async_name text t named) }

  item_begins : (y : Statement) → IsItem text c y → Begins begins_statement (tokens_of_statement written y)
  item_begins y (statement h) = let b = opened text c x.parts.values.begins y h in record { first = b.first; rest = b.rest; is = b.is; kind = b.kind }
  item_begins y (function_declaration {function = g} h) =
      let b = function_begins g (function_opens text g h) in
      record { first = b.first; rest = b.rest; is = tokens_FunctionDeclaration written g ∙ b.is; kind = b.kind }
  item_begins y (class_declaration {class = g} h) =
      let b = class_opens text c g h in
      record { first = b.0; rest = b.1; is = tokens_ClassDeclaration written g ∙ b.2; kind = ap begins_statement b.3 }
  item_begins y (lexical_declaration {semicolon = t} (lexical_bindings word list h g) e) =
      record {
        first = word;
        rest = tokens_of_elements written list ++ written t;
        is = tokens_Variables written (make_declaration (word, list)) t ∙ ap (λ ts. ts ++ written t) (tokens_Declaration written word list);
        kind = lexical_begins word.kind h;
      }

  starts : (y : Statement) (i j : ℕ) → IsItem text c y → SpelledBetween text i (tokens_of_statement written y) j → begins_item (behind text i).kind ≡ true
  starts y i j good h =
      let b = item_begins y good in
      item_shown text i b.first (shown text i b.first b.rest j (subst (λ ts. SpelledBetween text i ts j) b.is h) b.kind) b.kind

  moves : (y : Statement) (i j : ℕ) → IsItem text c y → SpelledBetween text i (tokens_of_statement written y) j → (i < j) × (j ≤ length text)
  moves y i j good h =
      let b = item_begins y good in
      spelled_moves text i b.first b.rest j (subst (λ ts. SpelledBetween text i ts j) b.is h)

  repeats : Repeats text (statements (IsItem text c)) n (suc n) (λ i. begins_item (behind text i).kind) statement_stops (all.statement text c n r true)
  repeats = record {
    rule = statement_rule text c n r x loops true;
    starts = starts;
    moves = moves;
    apart = λ y i good h. let g = item_follows (behind text i).kind h in other_stops (takes_else y) (behind text i) g.0 g.1;
  }

  pub items_rule : Rule text (row (statements (IsItem text c))) n (suc n) (λ _ t. ends_items t.kind) (all.items text c n r)
  unfolding all.items
  items_rule =
      same_rule text (row (statements (IsItem text c))) (row (statements (IsItem text c))) n (suc n) (list_stops statement_stops (λ t. begins_item t.kind)) (λ _ t. ends_items t.kind) (many text (λ t. begins_item t.kind) (all.statement text c n r true))
      (many_rule text (statements (IsItem text c)) n (suc n) (λ t. begins_item t.kind) statement_stops (all.statement text c n r true) repeats)
      refl refl (λ xs h. h) (λ xs h. h) (λ xs t good h. and_of _ _ (list_ends xs t h) (ap not (list_follows t.kind h).2))
