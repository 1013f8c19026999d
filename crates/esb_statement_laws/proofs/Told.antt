-- An ExpressionStatement is told by its first two tokens from all other statements.
use Rattle.std.proofs.Common.{◌≡◌, ◌≢◌, ◌⊎◌, inl, inr, ℕ, ◌<◌, Bool, true, false, not, ◌&&◌, ◌||◌, cond, List, [], ◌∷◌, Option, Some, None, Result, Ok, refl, ap, sym, ◌∙◌, subst, arith}
use Rattle.esb_token.specs.declared.kind.Kind.{Kind}
use Rattle.esb_token.specs.declared.kind.Kind.TheVariants as k
use Rattle.esb_token.specs.declared.token.Token.{Token}
use Rattle.esb_token.specs.declared.goal.Goal.{Goal}
use Rattle.esb_token.specs.declared.goal.Goal.TheVariants as goal
use Rattle.esb_token.specs.Goals.{goal_of, is_other_than_slash, is_other_than_brace, is_division}
use Rattle.esb_token.specs.Tokens.{SpelledBetween, next}
use Rattle.esb_token.proofs.TokenKinds.{div-reg_exp, div-tail}
use Rattle.esb_tree.specs.declared.expressions.Expression.{Expression}
use Rattle.esb_tree.specs.declared.expressions.Expression.TheVariants as e
use Rattle.esb_tree.specs.Levels.{depth_of_expression}
use Rattle.esb_tree.specs.Trees.{written}
use Rattle.esb_tree.specs.Yields.{tokens_of_expression}
use Rattle.esb_tree.proofs.TokenLines.{tokens_Primary}
use Rattle.esb_tree.proofs.LevelLines.{levels_Primary}
use Rattle.esb_grammar.specs.declared.context.Context.{Context}
use Rattle.esb_grammar.specs.Contexts.{inside}
use Rattle.esb_grammar.proofs.EdgeLines.{ends_Primary}
use Rattle.esb_grammar.specs.Grammar.{IsExpression, assignment_expression, conditional_expression, short_circuit, unary_expression, update, left_hand_side, access, origin, primary_expression, identifier_reference}
use Rattle.esb_grammar.specs.Kinds.{is_reference, is_binding, is_semicolon, is_left_brace, is_left_bracket, is_function, is_class, is_let, is_right_brace, is_end}
use Rattle.esb_grammar.specs.Semicolons.{lets_end, tokens_go_on, expression_goes_on, statement_goes_on, is_one}
use Rattle.esb_grammar.specs.Words.{is_word, is_async, begins_brace, begins_bracket, begins_let_bracket, begins_function, begins_declaration, begins_no_expression}
use Rattle.esb_reader.specs.declared.node.Node.{Node}
use Rattle.esb_reader.specs.Kinds.{agrees}
use Rattle.esb_reader.specs.Places.{Text, or_nothing, token_at, peek}
use Rattle.esb_reader.specs.Reader.{Reader, node}
use Rattle.esb_reader.specs.Parts.{behind}
use Rattle.esb_reader.specs.Stands.{Stands}
use Rattle.esb_reader.proofs.Agreeing.{read_is_next}
use Rattle.esb_reading_laws.proofs.Steps.{some_is}
use Rattle.esb_statement_laws.specs.declared.sort.Sort.{Sort}
use Rattle.esb_statement_laws.specs.declared.sort.Sort.TheVariants as o
use Rattle.esb_statement_laws.specs.Marks.{is_colon, begins_expression, ends_expression, begins_target, never_follows, named_sort, let_sort, sort_by, sort_of, sort_at}
use Rattle.esb_statement_laws.specs.Handed.{expressions, ReadsExpressions}
use Rattle.esb_statement_laws.proofs.Shown.{Shown}
use Rattle.esb_statement_laws.proofs.EndingsRead.{no_going_on}
use Rattle.esb_statement_laws.proofs.Ended.{three, lets, value_stops, value_seen}
use Rattle.esb_statement_laws.proofs.Followed.{sees}
use Rattle.esb_statement_laws.proofs.Small.{and_of, first_of, second_of, or_first, or_second, of_not, let_kind, bracket_kind, labels_nothing, async_name}

-- ---- a token that is seen is the one that is spelled

seen_some : (o : Option Token) (kind : Kind) → kind ≢ k.End → (or_nothing o).kind ≡ kind → o ≡ Some (or_nothing o)
seen_some None kind other h = absurd (other (sym h))
seen_some (Some t) kind other h = refl

next_seen : (text : Text) (i : ℕ) → (behind text i).kind ≢ k.End → next text i goal.Div ≡ Ok (behind text i)
unfolding peek
next_seen text i other = read_is_next text goal.Div i _ (seen_some (token_at text goal.Div i) _ other refl)

under : (text : Text) (i : ℕ) (t : Token) → next text i goal.Div ≡ Ok t → is_other_than_slash t.kind ≡ true → is_other_than_brace t.kind ≡ true → (g : Goal) → next text i g ≡ Ok t
under text i t h slash brace goal.Div = h
under text i t h slash brace goal.RegExp = div-reg_exp text i t h slash
under text i t h slash brace goal.TemplateTail = div-tail text i t h brace

ok_is : (t u : Token) (r : Result Token ℕ) → r ≡ Ok t → r ≡ Ok u → t ≡ u
ok_is t u r h g = cc

-- where a token is seen that no other goal reads otherwise, it is the one that is spelled
pub same_token : (text : Text) (i : ℕ) (t : Token) (ts : List Token) (j : ℕ) → SpelledBetween text i (t ∷ ts) j → (behind text i).kind ≢ k.End → is_other_than_slash (behind text i).kind ≡ true → is_other_than_brace (behind text i).kind ≡ true → t ≡ behind text i
same_token text i t ts j h other slash brace = ok_is t (behind text i) (next text i (goal_of t.kind)) h.0 (under text i (behind text i) (next_seen text i other) slash brace (goal_of t.kind))

-- ---- tests

neither_first : (a b : Bool) → (a || b) ≡ false → a ≡ false
neither_first false b h = refl
neither_first true b h = cc

neither_second : (a b : Bool) → (a || b) ≡ false → b ≡ false
neither_second false b h = h
neither_second true b h = cc

or_one : (a b d : Bool) → a ≡ true → (a || b || d) ≡ true
or_one true true d h = refl
or_one true false d h = refl
or_one false b d h = cc

or_middle : (a b d : Bool) → b ≡ true → (a || b || d) ≡ true
or_middle true b d h = refl
or_middle false true d h = refl
or_middle false false d h = cc

or_third : (a b d : Bool) → d ≡ true → (a || b || d) ≡ true
or_third true b d h = refl
or_third false true d h = refl
or_third false false d h = h

colon_is : (kind : Kind) → is_colon kind ≡ true → kind ≡ k.Colon
colon_is k.Colon h = refl
colon_is _ h = cc

function_is : (kind : Kind) → is_function kind ≡ true → kind ≡ k.Function
function_is k.Function h = refl
function_is _ h = cc

function_no_end : (kind : Kind) → kind ≡ k.Function → kind ≢ k.End
function_no_end kind h g = let bad : k.Function ≡ k.End = sym h ∙ g in cc

pub bracket_no_end : (kind : Kind) → kind ≡ k.LeftBracket → kind ≢ k.End
bracket_no_end kind h g = let bad : k.LeftBracket ≡ k.End = sym h ∙ g in cc

pub target_is : (kind : Kind) → begins_target kind ≡ true → (kind ≡ k.LeftBracket) ⊎ ((is_binding kind || is_left_brace kind) ≡ true)
target_is k.LeftBracket h = inl refl
target_is k.LeftBrace h = inr refl
target_is k.Yield h = inr refl
target_is k.Await h = inr refl
target_is k.Name h = inr refl
target_is k.Implements h = inr refl
target_is k.Interface h = inr refl
target_is k.Let h = inr refl
target_is k.Package h = inr refl
target_is k.Private h = inr refl
target_is k.Protected h = inr refl
target_is k.Public h = inr refl
target_is k.Static h = inr refl
target_is _ h = cc

-- what an expression begins with, and what the statement is by it
record Kinds (text : Text) (c : Context) (kind : Kind) (t u : Token) : Type 0 where
  named : (kind ≡ k.LeftBrace → ⊥) → (kind ≡ k.Function → ⊥) → (kind ≡ k.Class → ⊥) → (kind ≡ k.Let → ⊥) → sort_by text c kind t u ≡ named_sort text c t u

kinds : (text : Text) (c : Context) (kind : Kind) (t u : Token) → begins_expression kind ≡ true → Kinds text c kind t u
kinds text c k.LeftBrace t u h = record { named = λ a b d f. absurd (a refl) }
kinds text c k.Function t u h = record { named = λ a b d f. absurd (b refl) }
kinds text c k.Class t u h = record { named = λ a b d f. absurd (d refl) }
kinds text c k.Let t u h = record { named = λ a b d f. absurd (f refl) }
kinds text c k.Var t u h = cc
kinds text c k.Const t u h = cc
kinds text c k.Semicolon t u h = cc
kinds text c k.If t u h = cc
kinds text c k.Do t u h = cc
kinds text c k.While t u h = cc
kinds text c k.For t u h = cc
kinds text c k.Continue t u h = cc
kinds text c k.Break t u h = cc
kinds text c k.Return t u h = cc
kinds text c k.Switch t u h = cc
kinds text c k.Throw t u h = cc
kinds text c k.Try t u h = cc
kinds text c k.Debugger t u h = cc
kinds text c _ t u h = record { named = λ a b d f. refl }

division_sort : (text : Text) (c : Context) (kind : Kind) (t u : Token) → t.kind ≡ kind → is_division kind ≡ true → sort_by text c kind t u ≡ o.Expression
unfolding is_word
division_sort text c k.Slash t u e h = ap (λ q. named_sort text c (record t { kind = q }) u) e
division_sort text c k.SlashAssign t u e h = ap (λ q. named_sort text c (record t { kind = q }) u) e
division_sort text c _ t u e h = cc

named_expression : (a b : Bool) → a ≡ false → b ≡ false → cond a o.Labelled (cond b o.Function o.Expression) ≡ o.Expression
named_expression false false h g = refl
named_expression true b h g = cc
named_expression false true h g = cc

let_named : (text : Text) (c : Context) (t u : Token) → begins_target u.kind ≡ false → let_sort text c t u ≡ named_sort text c t u
let_named text c t u h = ap (λ b. cond b o.Lexical (named_sort text c t u)) h

module _ (text : Text) (c : Context) (n : ℕ) (read : Reader (Node Expression)) (values : ReadsExpressions text (IsExpression text (inside c)) n read) where
  abbrev Value : Expression → Type 0
  Value = IsExpression text (inside c)

  -- a name alone
  name_is : (t : Token) → is_reference c t.kind ≡ true → Value (e.Primary t)
  name_is t h = assignment_expression (conditional_expression (short_circuit (unary_expression (update (left_hand_side (access (origin (primary_expression (identifier_reference h)))))))))

  -- An ExpressionStatement without its semicolon, and what is seen behind it.
  pub record Standing (x : Expression) (i m : ℕ) : Type 0 where
    pub good : Value x
    pub allowed : begins_no_expression text (tokens_of_expression written x) ≡ false
    pub spelled : SpelledBetween text i (tokens_of_expression written x) m
    pub low : depth_of_expression x < n
    pub follows : never_follows (behind text m).kind ≡ false
    pub closed : (is_semicolon (behind text m).kind ≡ true) ⊎ (lets_end (statement_goes_on x) (Ok (behind text m)) ≡ true)

  goes : (x : Expression) (t : Token) → statement_goes_on x t ≡ false → expression_goes_on x t ≡ false
  unfolding statement_goes_on
  goes x t h = neither_first _ _ h

  -- where a name alone stops, the expression is this name
  only_name : (x : Expression) (i m : ℕ) (t : Token) (ts : List Token) → Standing x i m → tokens_of_expression written x ≡ t ∷ ts → is_reference c t.kind ≡ true → values.stops (e.Primary t) (behind text t.end) ≡ true → (x ≡ e.Primary t) × (m ≡ t.end)
  only_name x i m t ts s is name stop =
      let low = s.low in
      let first = subst (λ us. SpelledBetween text i us m) is s.spelled in
      let whole : Stands text (expressions Value) n (node x (depth_of_expression x)) i m = record { good = s.good; levels = refl; fits = omega (arith, low); spelled = s.spelled } in
      let alone : Stands text (expressions Value) n (node (e.Primary t) 0) i t.end = record { good = name_is t name; levels = levels_Primary t; fits = omega arith; spelled = subst (λ us. SpelledBetween text i us t.end) (sym (tokens_Primary written t)) (first.0, first.1, refl) } in
      let a = values.rule.complete i (node x (depth_of_expression x)) m whole low (value_stops text Value n read values (statement_goes_on x) x (behind text m) s.good (goes x (behind text m)) s.closed) in
      let b = values.rule.complete i (node (e.Primary t) 0) t.end alone (omega (arith, low)) stop in
      let same = some_is _ _ (sym a ∙ b) in
      (ap (λ p. p.0.tree) same, ap (λ p. p.1) same)

  -- ---- a name before `:` is a label
  no_label : (x : Expression) (i m : ℕ) (t : Token) (ts : List Token) → Standing x i m → tokens_of_expression written x ≡ t ∷ ts → is_reference c t.kind && is_colon (behind text t.end).kind ≡ false
  no_label x i m t ts s is = by_test (is_reference c t.kind && is_colon (behind text t.end).kind) refl
    where
      by_test : (b : Bool) → (is_reference c t.kind && is_colon (behind text t.end).kind) ≡ b → b ≡ false
      by_test false h = refl
      by_test true h =
          let name = first_of _ _ h in
          let colon = second_of (is_reference c t.kind) _ h in
          let kind = colon_is (behind text t.end).kind colon in
          let only = only_name x i m t ts s is name (values.ends (e.Primary t) (behind text t.end) (name_is t name) (ap ends_expression kind)) in
          sym (ap (λ p. never_follows (behind text p).kind) only.1 ∙ ap never_follows kind) ∙ s.follows

  -- ---- `async` before `function` on its line is a declaration

  refuted : (x : Expression) (i m : ℕ) (ts : List Token) → Standing x i m → tokens_of_expression written x ≡ ts → begins_no_expression text ts ≡ true → ⊥
  refuted x i m ts s is h = let bad : true ≡ false = sym (ap (begins_no_expression text) is ∙ h) ∙ s.allowed in cc

  function_closes : (u : Token) → u.kind ≡ k.Function → u.after_line ≡ false → (x : Expression) → (is_semicolon u.kind ≡ true) ⊎ (lets_end (statement_goes_on x) (Ok u) ≡ true) → ⊥
  function_closes u kind line x (inl h) = let bad : false ≡ true = sym (ap is_semicolon kind) ∙ h in cc
  function_closes u kind line x (inr h) = by_case (lets (statement_goes_on x) u h)
    where
      by_case : (u.after_line ≡ true) ⊎ ((is_right_brace u.kind ≡ true) ⊎ (is_end u.kind ≡ true)) → ⊥
      by_case (inl g) = let bad : false ≡ true = sym line ∙ g in cc
      by_case (inr (inl g)) = let bad : false ≡ true = sym (ap is_right_brace kind) ∙ g in cc
      by_case (inr (inr g)) = let bad : false ≡ true = sym (ap is_end kind) ∙ g in cc

  no_function_behind : (x : Expression) (i m : ℕ) (t : Token) (ts : List Token) → Standing x i m → tokens_of_expression written x ≡ t ∷ ts → is_async text t ≡ true → (behind text t.end).kind ≡ k.Function → (behind text t.end).after_line ≡ false → ⊥
  no_function_behind x i m t [] s is name kind line =
      let here : t.end ≡ m = (subst (λ us. SpelledBetween text i us m) is s.spelled).2 in
      function_closes (behind text t.end) kind line x (subst (λ p. (is_semicolon (behind text p).kind ≡ true) ⊎ (lets_end (statement_goes_on x) (Ok (behind text p)) ≡ true)) (sym here) s.closed)
  no_function_behind x i m t (u ∷ us) s is name kind line =
      let rest = (subst (λ vs. SpelledBetween text i vs m) is s.spelled).2 in
      let same : u ≡ behind text t.end = same_token text t.end u us m rest (function_no_end _ kind) (ap is_other_than_slash kind) (ap is_other_than_brace kind) in
      let second : (is_function u.kind && not u.after_line) ≡ true = and_of _ _ (ap is_function (ap (λ (v : Token). v.kind) same ∙ kind)) (ap not (ap (λ (v : Token). v.after_line) same ∙ line)) in
      let declared : begins_declaration text (t ∷ (u ∷ us)) ≡ true = async_declares t.kind (is_async text t && (is_function u.kind && not u.after_line)) (and_of _ _ name second) in
      refuted x i m (t ∷ (u ∷ us)) s is (or_third (begins_brace (t ∷ (u ∷ us))) (begins_let_bracket (t ∷ (u ∷ us))) (begins_declaration text (t ∷ (u ∷ us))) declared)
    where
      async_declares : (kind : Kind) (b : Bool) → b ≡ true → (is_function kind || is_class kind || b) ≡ true
      async_declares kind b h = or_third (is_function kind) (is_class kind) b h

  no_function : (x : Expression) (i m : ℕ) (t : Token) (ts : List Token) → Standing x i m → tokens_of_expression written x ≡ t ∷ ts → (is_async text t && (is_function (behind text t.end).kind && not (behind text t.end).after_line)) ≡ false
  no_function x i m t ts s is = by_test _ refl
    where
      by_test : (b : Bool) → (is_async text t && (is_function (behind text t.end).kind && not (behind text t.end).after_line)) ≡ b → b ≡ false
      by_test false h = refl
      by_test true h =
          let name = first_of (is_async text t) _ h in
          let second = second_of (is_async text t) _ h in
          absurd (no_function_behind x i m t ts s is name (function_is _ (first_of _ _ second)) (of_not _ (second_of (is_function (behind text t.end).kind) _ second)))

  -- ---- `let` before something that is bound is a declaration

  bracket_goes_on : (t u : Token) → t.kind ≡ k.Let → u.kind ≡ k.LeftBracket → expression_goes_on (e.Primary t) u ≡ true
  unfolding expression_goes_on
  bracket_goes_on t u name kind =
      ap (λ b. tokens_go_on b (tokens_of_expression written (e.Primary t)) u.kind) (ends_Primary t)
      ∙ ap (λ ts. tokens_go_on false ts u.kind) (tokens_Primary written t)
      ∙ ap (λ q. tokens_go_on false (t ∷ []) q) kind
      ∙ ap (λ q. tokens_go_on false (record t { kind = q } ∷ []) k.LeftBracket) name

  name_goes_on : (t u : Token) → t.kind ≡ k.Let → (is_binding u.kind || is_left_brace u.kind) ≡ true → statement_goes_on (e.Primary t) u ≡ true
  unfolding statement_goes_on
  name_goes_on t u name h = or_second (expression_goes_on (e.Primary t) u) _ (and_of _ _ (ap (is_one is_let) (tokens_Primary written t) ∙ ap is_let name) h)

  target_closes : (t u : Token) → t.kind ≡ k.Let → begins_target u.kind ≡ true → (statement_goes_on (e.Primary t) u ≡ true) → (is_semicolon u.kind ≡ true) ⊎ (lets_end (statement_goes_on (e.Primary t)) (Ok u) ≡ true) → ⊥
  target_closes t u name kind on (inl h) = semicolon_target u.kind h kind
    where
      semicolon_target : (kind : Kind) → is_semicolon kind ≡ true → begins_target kind ≡ true → ⊥
      semicolon_target k.Semicolon h g = cc
      semicolon_target _ h g = cc
  target_closes t u name kind on (inr h) = let bad : true ≡ false = sym on ∙ no_going_on (statement_goes_on (e.Primary t)) u h in cc

  let_is : (x : Expression) (i m : ℕ) (t : Token) → Standing x i m → t.kind ≡ k.Let → begins_target (behind text t.end).kind ≡ true → x ≡ e.Primary t → m ≡ t.end → statement_goes_on (e.Primary t) (behind text t.end) ≡ true → ⊥
  let_is x i m t s name kind same here on =
      target_closes t (behind text t.end) name kind on
      (subst (λ p. (is_semicolon (behind text p).kind ≡ true) ⊎ (lets_end (statement_goes_on (e.Primary t)) (Ok (behind text p)) ≡ true)) here
      (subst (λ y. (is_semicolon (behind text m).kind ≡ true) ⊎ (lets_end (statement_goes_on y) (Ok (behind text m)) ≡ true)) same s.closed))

  bracket_on : (t u : Token) → t.kind ≡ k.Let → u.kind ≡ k.LeftBracket → statement_goes_on (e.Primary t) u ≡ true
  unfolding statement_goes_on
  bracket_on t u name kind = or_first _ _ (bracket_goes_on t u name kind)

  no_bracket_behind : (x : Expression) (i m : ℕ) (t : Token) (ts : List Token) → Standing x i m → tokens_of_expression written x ≡ t ∷ ts → t.kind ≡ k.Let → (behind text t.end).kind ≡ k.LeftBracket → ⊥
  no_bracket_behind x i m t [] s is name kind =
      let here : t.end ≡ m = (subst (λ us. SpelledBetween text i us m) is s.spelled).2 in
      let_is x i m t s name (ap begins_target kind) (values.let_alone x t s.good is name) (sym here) (bracket_on t (behind text t.end) name kind)
  no_bracket_behind x i m t (u ∷ us) s is name kind =
      let rest = (subst (λ vs. SpelledBetween text i vs m) is s.spelled).2 in
      let same : u ≡ behind text t.end = same_token text t.end u us m rest (bracket_no_end _ kind) (ap is_other_than_slash kind) (ap is_other_than_brace kind) in
      let bracket : begins_let_bracket (t ∷ (u ∷ us)) ≡ true = and_of _ _ (ap is_let name) (ap is_left_bracket (ap (λ (v : Token). v.kind) same ∙ kind)) in
      refuted x i m (t ∷ (u ∷ us)) s is (or_middle (begins_brace (t ∷ (u ∷ us))) (begins_let_bracket (t ∷ (u ∷ us))) (begins_declaration text (t ∷ (u ∷ us))) bracket)

  no_target : (x : Expression) (i m : ℕ) (t : Token) (ts : List Token) → Standing x i m → tokens_of_expression written x ≡ t ∷ ts → t.kind ≡ k.Let → begins_target (behind text t.end).kind ≡ false
  no_target x i m t ts s is name = by_test _ refl
    where
      by_kind : begins_target (behind text t.end).kind ≡ true → ((behind text t.end).kind ≡ k.LeftBracket) ⊎ ((is_binding (behind text t.end).kind || is_left_brace (behind text t.end).kind) ≡ true) → ⊥
      by_kind h (inl kind) = no_bracket_behind x i m t ts s is name kind
      by_kind h (inr bound) =
          let only = only_name x i m t ts s is (ap (is_reference c) name) (values.let_ends t (behind text t.end) name bound) in
          let_is x i m t s name h only.0 only.1 (name_goes_on t (behind text t.end) name bound)

      by_test : (b : Bool) → begins_target (behind text t.end).kind ≡ b → b ≡ false
      by_test false h = refl
      by_test true h = absurd (by_kind h (target_is _ h))

  -- ---- so the statement is told

  named_told : (x : Expression) (i m : ℕ) (t : Token) (ts : List Token) → Standing x i m → tokens_of_expression written x ≡ t ∷ ts → named_sort text c t (behind text t.end) ≡ o.Expression
  named_told x i m t ts s is =
      named_expression (is_reference c t.kind && is_colon (behind text t.end).kind) (is_async text t && (is_function (behind text t.end).kind && not (behind text t.end).after_line)) (no_label x i m t ts s is) (no_function x i m t ts s is)

  first_told : (x : Expression) (i m : ℕ) (t : Token) (ts : List Token) → Standing x i m → tokens_of_expression written x ≡ t ∷ ts → begins_expression t.kind ≡ true → sort_by text c t.kind t (behind text t.end) ≡ o.Expression
  first_told x i m t ts s is begins = by_let (is_let t.kind) refl
    where
      by_let : (b : Bool) → is_let t.kind ≡ b → sort_by text c t.kind t (behind text t.end) ≡ o.Expression
      by_let true h =
          let name = let_kind t.kind h in
          ap (λ q. sort_by text c q t (behind text t.end)) name ∙ let_named text c t (behind text t.end) (no_target x i m t ts s is name) ∙ named_told x i m t ts s is
      by_let false h =
          (kinds text c t.kind t (behind text t.end) begins).named
          (λ kind. refuted x i m (t ∷ ts) s is (or_one (begins_brace (t ∷ ts)) (begins_let_bracket (t ∷ ts)) (begins_declaration text (t ∷ ts)) (ap is_left_brace kind)))
          (λ kind. refuted x i m (t ∷ ts) s is (or_third (begins_brace (t ∷ ts)) (begins_let_bracket (t ∷ ts)) (begins_declaration text (t ∷ ts)) (or_one (is_function t.kind) (is_class t.kind) (is_async text t && begins_function ts) (ap is_function kind))))
          (λ kind. refuted x i m (t ∷ ts) s is (or_third (begins_brace (t ∷ ts)) (begins_let_bracket (t ∷ ts)) (begins_declaration text (t ∷ ts)) (or_middle (is_function t.kind) (is_class t.kind) (is_async text t && begins_function ts) (ap is_class kind))))
          (λ kind. let bad : false ≡ true = sym h ∙ ap is_let kind in cc)
          ∙ named_told x i m t ts s is

  pub told : (x : Expression) (i m : ℕ) → Standing x i m → sort_at text c i ≡ o.Expression
  unfolding sort_of
  told x i m s = by_shown (value_seen text Value n read values x i m s.good s.spelled)
    where
      by_shown : Shown text i (values.begins x s.good).first → sort_of text c (behind text i) (behind text (behind text i).end) ≡ o.Expression
      by_shown (inl same) =
          let b = values.begins x s.good in
          ap (λ t. sort_of text c t (behind text t.end)) same ∙ first_told x i m b.first b.rest s b.is b.kind
      by_shown (inr h) = division_sort text c (behind text i).kind (behind text i) (behind text (behind text i).end) refl h.1

  -- ---- what a statement that is an expression may not begin with is told too

  sort_is : (i : ℕ) (t u : Token) → behind text i ≡ t → behind text t.end ≡ u → sort_at text c i ≡ sort_by text c t.kind t u
  unfolding sort_of
  sort_is i t u here there = ap (λ v. sort_of text c v (behind text v.end)) here ∙ ap (sort_of text c t) there

  brace_kind : (kind : Kind) → is_left_brace kind ≡ true → kind ≡ k.LeftBrace
  brace_kind k.LeftBrace h = refl
  brace_kind _ h = cc

  class_kind : (kind : Kind) → is_class kind ≡ true → kind ≡ k.Class
  class_kind k.Class h = refl
  class_kind _ h = cc

  -- a first token of a kind
  by_first : (i : ℕ) (t : Token) (ts : List Token) (m : ℕ) (kind : Kind) (q : Sort) → SpelledBetween text i (t ∷ ts) m → t.kind ≡ kind → agrees goal.Div kind ≡ true → ((v u : Token) → sort_by text c kind v u ≡ q) → sort_at text c i ≡ q
  by_first i t ts m kind q h e same sort =
      sort_is i t (behind text t.end) (sees text i t ts m h (ap (agrees goal.Div) e ∙ same)) refl ∙ ap (λ z. sort_by text c z t (behind text t.end)) e ∙ sort t (behind text t.end)

  let_bracket_told : (i : ℕ) (t : Token) (ts : List Token) (m : ℕ) → SpelledBetween text i (t ∷ ts) m → is_let t.kind ≡ true → begins_bracket ts ≡ true → sort_at text c i ≡ o.Lexical
  let_bracket_told i t [] m h name bracket = cc
  let_bracket_told i t (u ∷ us) m h name bracket =
      let first = let_kind t.kind name in
      let second = bracket_kind u.kind bracket in
      sort_is i t u (sees text i t (u ∷ us) m h (ap (agrees goal.Div) first)) (sees text t.end u us m h.2 (ap (agrees goal.Div) second))
      ∙ ap (λ z. sort_by text c z t u) first ∙ ap (λ b. cond b o.Lexical (named_sort text c t u)) (ap begins_target second)

  async_told : (i : ℕ) (t : Token) (ts : List Token) (m : ℕ) → SpelledBetween text i (t ∷ ts) m → is_async text t ≡ true → begins_function ts ≡ true → sort_at text c i ≡ o.Function
  async_told i t [] m h name function = cc
  async_told i t (u ∷ us) m h name function =
      let first = async_name text t name in
      let second = function_is u.kind (first_of _ _ function) in
      sort_is i t u (sees text i t (u ∷ us) m h (ap (agrees goal.Div) first)) (sees text t.end u us m h.2 (ap (agrees goal.Div) second))
      ∙ ap (λ z. sort_by text c z t u) first
      ∙ labels_nothing (is_reference c t.kind) (is_colon u.kind) (is_async text t && (is_function u.kind && not u.after_line)) (ap is_colon second) (and_of _ _ name function)

  declaration_told : (i : ℕ) (t : Token) (ts : List Token) (m : ℕ) → SpelledBetween text i (t ∷ ts) m → begins_declaration text (t ∷ ts) ≡ true → sort_at text c i ≡ o.Expression → ⊥
  declaration_told i t ts m h declared sort = by_case (three (is_function t.kind) (is_class t.kind) (is_async text t && begins_function ts) declared)
    where
      by_case : (is_function t.kind ≡ true) ⊎ ((is_class t.kind ≡ true) ⊎ ((is_async text t && begins_function ts) ≡ true)) → ⊥
      by_case (inl g) = let bad : o.Function ≡ o.Expression = sym (by_first i t ts m k.Function o.Function h (function_is t.kind g) refl (λ v u. refl)) ∙ sort in cc
      by_case (inr (inl g)) = let bad : o.Class ≡ o.Expression = sym (by_first i t ts m k.Class o.Class h (class_kind t.kind g) refl (λ v u. refl)) ∙ sort in cc
      by_case (inr (inr g)) = let bad : o.Function ≡ o.Expression = sym (async_told i t ts m h (first_of _ _ g) (second_of (is_async text t) _ g)) ∙ sort in cc

  first_forbidden : (i : ℕ) (t : Token) (ts : List Token) (m : ℕ) → SpelledBetween text i (t ∷ ts) m → begins_no_expression text (t ∷ ts) ≡ true → sort_at text c i ≡ o.Expression → ⊥
  first_forbidden i t ts m h forbidden sort = by_case (three (begins_brace (t ∷ ts)) (begins_let_bracket (t ∷ ts)) (begins_declaration text (t ∷ ts)) forbidden)
    where
      by_case : (begins_brace (t ∷ ts) ≡ true) ⊎ ((begins_let_bracket (t ∷ ts) ≡ true) ⊎ (begins_declaration text (t ∷ ts) ≡ true)) → ⊥
      by_case (inl g) = let bad : o.Block ≡ o.Expression = sym (by_first i t ts m k.LeftBrace o.Block h (brace_kind t.kind g) refl (λ v u. refl)) ∙ sort in cc
      by_case (inr (inl g)) = let bad : o.Lexical ≡ o.Expression = sym (let_bracket_told i t ts m h (first_of _ _ g) (second_of (is_let t.kind) _ g)) ∙ sort in cc
      by_case (inr (inr g)) = declaration_told i t ts m h g sort

  -- so it does not begin so where it is told to be an expression
  pub allowed : (x : Expression) (i m : ℕ) → Value x → SpelledBetween text i (tokens_of_expression written x) m → sort_at text c i ≡ o.Expression → begins_no_expression text (tokens_of_expression written x) ≡ false
  allowed x i m good h sort = by_test (begins_no_expression text (tokens_of_expression written x)) refl
    where
      by_test : (q : Bool) → begins_no_expression text (tokens_of_expression written x) ≡ q → q ≡ false
      by_test false g = refl
      by_test true g =
          let b = values.begins x good in
          absurd (first_forbidden i b.first b.rest m (subst (λ ts. SpelledBetween text i ts m) b.is h) (ap (begins_no_expression text) (sym b.is) ∙ g) sort)
