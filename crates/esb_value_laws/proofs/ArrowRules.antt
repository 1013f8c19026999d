-- Arrow functions are read exactly, and the tests at their places hold.
use Rattle.std.proofs.Common.{◌≡◌, ℕ, suc, ◌+◌, max, Bool, true, false, not, [], ◌∷◌, ◌++◌, map, refl, ap, sym, ◌∙◌, subst, arith}
use Rattle.std.proofs.lemmas.List.{append-nil}
use Rattle.std.specs.List.{flat_map}
use Rattle.esb_token.specs.declared.kind.Kind.TheVariants as k
use Rattle.esb_token.specs.declared.token.Token.{Token}
use Rattle.esb_token.specs.declared.goal.Goal.TheVariants as goal
use Rattle.esb_token.specs.Tokens.{SpelledBetween}
use Rattle.esb_tree.specs.declared.expressions.Expression.{Expression}
use Rattle.esb_tree.specs.declared.expressions.Expression.TheVariants as e
use Rattle.esb_tree.specs.declared.expressions.Link.TheVariants as l
use Rattle.esb_tree.specs.declared.functions.ConciseBody.{ConciseBody}
use Rattle.esb_tree.specs.declared.patterns.Bracketed.{Bracketed, out-Bracketed, out-roll-Bracketed}
use Rattle.esb_tree.specs.Levels.{most, depth_of_expression, depth_of_bracketed, depth_of_concise_body, depth_of_link}
use Rattle.esb_tree.specs.Trees.{written}
use Rattle.esb_tree.specs.Yields.{tokens_of_expression, tokens_of_bracketed, tokens_of_concise_body, tokens_of_link}
use Rattle.esb_tree.proofs.TokenLines.{tokens_Primary, tokens_Parenthesized, tokens_Member, tokens_Call, tokens_Arrow, tokens_AsyncArrow, tokens_Bracketed}
use Rattle.esb_tree.proofs.LevelLines.{levels_Primary, levels_Parenthesized, levels_Member, levels_Call, levels_Arrow, levels_AsyncArrow}
use Rattle.esb_grammar.specs.declared.context.Context.{Context}
use Rattle.esb_grammar.specs.declared.form.Form.TheVariants as f
use Rattle.esb_grammar.specs.Contexts.{of_arrow}
use Rattle.esb_grammar.specs.Grammar.{IsBracketed, bracketed}
use Rattle.esb_grammar.specs.Words.{is_async}
use Rattle.esb_grammar.proofs.EdgeLines.{ends_Arrow, ends_AsyncArrow}
use Rattle.esb_reader.specs.declared.node.Node.{Node}
use Rattle.esb_reader.specs.Places.{Text}
use Rattle.esb_reader.specs.Reader.{Reader, node}
use Rattle.esb_reader.specs.Parts.{behind, both, token_in}
use Rattle.esb_reader.specs.Stands.{Syntax, Stands, Rule, Made, tokens_in, pairs, which}
use Rattle.esb_reading_laws.proofs.Composed.{token_in_rule, both_rule, plain_rule, above_rule}
use Rattle.esb_reading_laws.proofs.Steps.{spelled_split}
use Rattle.esb_expression_laws.specs.Laws.{lists}
use Rattle.esb_expression_laws.specs.Leaves.{expressions}
use Rattle.esb_operator_laws.proofs.PostfixLines.{postfix_Arrow, postfix_AsyncArrow}
use Rattle.esb_operator_laws.proofs.TokenTests.{and_both}
use Rattle.esb_literal_laws.specs.Forks.{guard, second, passes_behind, on_one_line}
use Rattle.esb_literal_laws.proofs.Forks.{guard_rule}
use Rattle.esb_literal_laws.proofs.Seen.{sees, sees_kind}
use Rattle.esb_assignment_laws.specs.Values.{ends_value}
use Rattle.esb_value_laws.specs.Arrows.{is_arrow_on_line, is_name_on_line, refers, third, make_call, make_arrow, make_async_arrow, head_name, head_list, head_call, arrow, async_arrow, at_async_name, at_name, before_arrow}
use Rattle.esb_value_laws.specs.Bodies.{bodies}
use Rattle.esb_value_laws.specs.Ends.{ends_body}
use Rattle.esb_value_laws.proofs.ArrowKinds.{arrow_agrees, reference_agrees, name_agrees, async_agrees}
use Rattle.esb_value_laws.proofs.Places.{ends_same, second_seen}

-- ---- heads

abbrev pub Names : Context → Expression → Type 0
Names c = Made (tokens_in (refers c)) e.Primary

pub name_rule : (text : Text) (c : Context) (n top : ℕ) → Rule text (expressions (Names c)) n top (λ _ _. true) (head_name text c)
unfolding head_name
name_rule text c n top =
    plain_rule text (tokens_in (refers c)) (tokens_of_expression written) depth_of_expression n top (λ _ _. true) (λ _ _. true) e.Primary (token_in text goal.Div (refers c))
    (token_in_rule text n top goal.Div (refers c) (λ t h. reference_agrees c t.kind h)) (λ t. tokens_Primary written t) (λ t. levels_Primary t) (λ a t h. refl)

abbrev pub on_its_line : Bracketed → Bool
on_its_line x = not (out-Bracketed x).begin.after_line

-- lists of some sort
abbrev pub Lists : Text → Context → (Bracketed → Type 0) → Syntax Bracketed
Lists text c Sort = which (lists text f.Arguments c) Sort

-- `async` and one of them on its line
abbrev pub Calls : Text → Context → (Bracketed → Type 0) → Syntax (Token × Bracketed)
Calls text c Sort = pairs (tokens_in (is_async text)) (Lists text c (λ x. Sort x × (on_its_line x ≡ true)))

pub call_tokens : (w : Token) (x : Bracketed) → tokens_of_expression written (make_call (w, x)) ≡ w ∷ tokens_of_bracketed written x
call_tokens w x =
    tokens_Member written (e.Primary w) (l.Call x ∷ [])
    ∙ ap (λ ts. ts ++ flat_map (tokens_of_link written) (l.Call x ∷ [])) (tokens_Primary written w)
    ∙ ap (λ ts. w ∷ (ts ++ [])) (tokens_Call written x) ∙ ap (λ ts. w ∷ ts) (append-nil (tokens_of_bracketed written x))

pub call_levels : (w : Token) (x : Bracketed) → depth_of_expression (make_call (w, x)) ≡ max 0 (depth_of_bracketed x) + 1
call_levels w x =
    levels_Member (e.Primary w) (l.Call x ∷ [])
    ∙ ap (λ a. max a (most (map depth_of_link (l.Call x ∷ []))) + 1) (levels_Primary w)
    ∙ ap (λ a. max 0 (max a 0) + 1) (levels_Call x)
    ∙ (let e : max 0 (max (depth_of_bracketed x) 0) + 1 ≡ max 0 (depth_of_bracketed x) + 1 = omega arith in e)

module _ (text : Text) (c : Context) (n : ℕ) (Sort : Bracketed → Type 0) (there : (list : Bracketed) → Sort list → IsBracketed text f.Arguments c list) (read : Reader (Node Bracketed)) (rule : Rule text (Lists text c Sort) n n (λ _ _. true) read) where
  pub list_head_rule : Rule text (expressions (Made (Lists text c Sort) e.Parenthesized)) n (suc n) (λ _ _. true) (head_list n read)
  unfolding head_list
  list_head_rule =
      above_rule text (Lists text c Sort) (tokens_of_expression written) depth_of_expression n n (λ _ _. true) (λ _ _. true) e.Parenthesized read rule (omega arith) (λ x. tokens_Parenthesized written x) (λ x. levels_Parenthesized x) (λ a t h. refl)

  line_of : (x : Bracketed) (i j : ℕ) → IsBracketed text f.Arguments c x → SpelledBetween text i (tokens_of_bracketed written x) j → on_one_line text i ≡ on_its_line x
  line_of x i j (bracketed begin list ending first good last) h =
      let spelled = subst (λ ts. SpelledBetween text i ts j) (tokens_Bracketed written begin list ending) h in
      ap (λ (t : Token). not t.after_line) (sees_kind text i begin _ j k.LeftParenthesis spelled first refl)
      ∙ ap (λ b. not b.begin.after_line) (sym (out-roll-Bracketed (record { begin = begin; list = list; ending = ending })))

  pub call_head_rule : Rule text (expressions (Made (Calls text c Sort) make_call)) n (suc n) (λ _ _. true) (head_call text n read)
  unfolding head_call
  call_head_rule =
      above_rule text (Calls text c Sort) (tokens_of_expression written) depth_of_expression n n (λ _ _. true) (λ _ _. true) make_call (both (token_in text goal.Div (is_async text)) (guard (on_one_line text) read))
      (both_rule text (tokens_in (is_async text)) (Lists text c (λ x. Sort x × (on_its_line x ≡ true))) n n (λ _ _. true) (λ _ _. true) (λ _ _. true) (token_in text goal.Div (is_async text)) (guard (on_one_line text) read)
      (token_in_rule text n n goal.Div (is_async text) (λ t h. async_agrees text t h))
      (guard_rule text (Lists text c Sort) n n (λ _ _. true) (on_one_line text) on_its_line read rule (λ x i j good h. line_of x i j (there x good) h))
      (λ a b t h. refl) (λ a b m j ga gb h stop. refl))
      (omega arith) (λ p. call_tokens p.0 p.1) (λ p. call_levels p.0 p.1) (λ a t h. refl)

-- ---- the functions

abbrev pub Arrows : Text → Context → Bool → (Expression → Type 0) → Syntax (Expression × (Token × ConciseBody))
Arrows text c is_async_body Head = pairs (expressions Head) (pairs (tokens_in is_arrow_on_line) (bodies text (of_arrow c is_async_body)))

abbrev pub Async_arrows : Text → Context → Syntax (Token × (Token × (Token × ConciseBody)))
Async_arrows text c = pairs (tokens_in (is_async text)) (pairs (tokens_in is_name_on_line) (pairs (tokens_in is_arrow_on_line) (bodies text (of_arrow c true))))

module _ (text : Text) (c : Context) (n : ℕ) (is_async_body : Bool) (body : Reader (Node ConciseBody)) (rule : Rule text (bodies text (of_arrow c is_async_body)) n n (ends_body (of_arrow c is_async_body)) body) where
  abbrev Behind : Syntax (Token × ConciseBody)
  Behind = pairs (tokens_in is_arrow_on_line) (bodies text (of_arrow c is_async_body))

  pub behind_rule : Rule text Behind n n (λ p. ends_body c p.1) (both (token_in text goal.Div is_arrow_on_line) body)
  behind_rule =
      both_rule text (tokens_in is_arrow_on_line) (bodies text (of_arrow c is_async_body)) n n (λ _ _. true) (ends_body c) (λ p. ends_body c p.1) (token_in text goal.Div is_arrow_on_line) body
      (token_in_rule text n n goal.Div is_arrow_on_line arrow_agrees) rule (λ a b t h. h) (λ a b m j ga gb h stop. refl)

  pub arrow_rule : (Head : Expression → Type 0) (head : Reader (Node Expression)) → Rule text (expressions Head) n n (λ _ _. true) head → Rule text (expressions (Made (Arrows text c is_async_body Head) make_arrow)) n (suc n) (ends_value c) (arrow text n head body)
  unfolding arrow
  arrow_rule Head head first =
      above_rule text (Arrows text c is_async_body Head) (tokens_of_expression written) depth_of_expression n n (λ p. ends_body c p.1.1) (ends_value c) make_arrow (both head (both (token_in text goal.Div is_arrow_on_line) body))
      (both_rule text (expressions Head) Behind n n (λ _ _. true) (λ p. ends_body c p.1) (λ p. ends_body c p.1.1) head (both (token_in text goal.Div is_arrow_on_line) body)
      first behind_rule (λ a b t h. h) (λ a b m j ga gb h stop. refl))
      (omega arith)
      (λ p. tokens_Arrow written p.0 p.1.0 p.1.1)
      (λ p. levels_Arrow p.0 p.1.0 p.1.1 ∙ (let e : max (depth_of_expression p.0) (depth_of_concise_body p.1.1) + 1 ≡ max (depth_of_expression p.0) (max 0 (depth_of_concise_body p.1.1)) + 1 = omega arith in e))
      (λ p t h. ends_same c t (ends_Arrow p.0 p.1.0 p.1.1) (postfix_Arrow p.0 p.1.0 p.1.1) h)

pub async_arrow_rule : (text : Text) (c : Context) (n : ℕ) (body : Reader (Node ConciseBody)) → Rule text (bodies text (of_arrow c true)) n n (ends_body (of_arrow c true)) body → Rule text (expressions (Made (Async_arrows text c) make_async_arrow)) n (suc n) (ends_value c) (async_arrow text n body)
unfolding async_arrow
async_arrow_rule text c n body rule =
    let last = pairs (tokens_in is_arrow_on_line) (bodies text (of_arrow c true)) in
    above_rule text (Async_arrows text c) (tokens_of_expression written) depth_of_expression n n (λ p. ends_body c p.1.1.1) (ends_value c) make_async_arrow (both (token_in text goal.Div (is_async text)) (both (token_in text goal.Div is_name_on_line) (both (token_in text goal.Div is_arrow_on_line) body)))
    (both_rule text (tokens_in (is_async text)) (pairs (tokens_in is_name_on_line) last) n n (λ _ _. true) (λ p. ends_body c p.1.1) (λ p. ends_body c p.1.1.1) (token_in text goal.Div (is_async text)) (both (token_in text goal.Div is_name_on_line) (both (token_in text goal.Div is_arrow_on_line) body))
    (token_in_rule text n n goal.Div (is_async text) (λ t h. async_agrees text t h))
    (both_rule text (tokens_in is_name_on_line) last n n (λ _ _. true) (λ p. ends_body c p.1) (λ p. ends_body c p.1.1) (token_in text goal.Div is_name_on_line) (both (token_in text goal.Div is_arrow_on_line) body)
    (token_in_rule text n n goal.Div is_name_on_line name_agrees) (behind_rule text c n true body rule) (λ a b t h. h) (λ a b m j ga gb h stop. refl))
    (λ a b t h. h) (λ a b m j ga gb h stop. refl))
    (omega arith)
    (λ p. tokens_AsyncArrow written p.0 p.1.0 p.1.1.0 p.1.1.1)
    (λ p. levels_AsyncArrow p.0 p.1.0 p.1.1.0 p.1.1.1 ∙ (let e : depth_of_concise_body p.1.1.1 + 1 ≡ max 0 (max 0 (max 0 (depth_of_concise_body p.1.1.1))) + 1 = omega arith in e))
    (λ p t h. ends_same c t (ends_AsyncArrow p.0 p.1.0 p.1.1.0 p.1.1.1) (postfix_AsyncArrow p.0 p.1.0 p.1.1.0 p.1.1.1) h)

-- ---- the tests hold

module _ (text : Text) (c : Context) where
  pub arrow_spelled : (is_async_body : Bool) (Head : Expression → Type 0) (x : Expression) (i j : ℕ) (good : Made (Arrows text c is_async_body Head) make_arrow x) → SpelledBetween text i (tokens_of_expression written x) j → SpelledBetween text i (tokens_of_expression written good.0.0 ++ (good.0.1.0 ∷ tokens_of_concise_body written good.0.1.1)) j
  arrow_spelled is_async_body Head x i j (p, is, good) h = subst (λ ts. SpelledBetween text i ts j) (ap (tokens_of_expression written) is ∙ tokens_Arrow written p.0 p.1.0 p.1.1) h

  -- a head that a reader reads
  pub arrow_before : (n : ℕ) (is_async_body : Bool) (Head Wider : Expression → Type 0) (head : Reader (Node Expression)) → ((x : Expression) → Head x → Wider x) → Rule text (expressions Wider) n (suc n) (λ _ _. true) head
      → (i : ℕ) (x : Node Expression) (j : ℕ) → Stands text (expressions (Made (Arrows text c is_async_body Head) make_arrow)) n x i j → before_arrow text head i ≡ true
  unfolding before_arrow
  arrow_before n is_async_body Head Wider head wider rule i x j s =
      let p = s.good.0 in
      let spelled = arrow_spelled is_async_body Head x.tree i j s.good s.spelled in
      let cut = spelled_split text i (tokens_of_expression written p.0) (p.1.0 ∷ tokens_of_concise_body written p.1.1) j spelled in
      let deep : x.levels ≡ max (depth_of_expression p.0) (depth_of_concise_body p.1.1) + 1 = sym s.levels ∙ ap depth_of_expression s.good.1 ∙ levels_Arrow p.0 p.1.0 p.1.1 in
      let fits = s.fits in
      let stands : Stands text (expressions Wider) n (node p.0 (depth_of_expression p.0)) i cut.0 = record { good = wider p.0 s.good.2.0; levels = refl; fits = omega (arith, deep, fits); spelled = cut.1 } in
      ap (passes_behind text is_arrow_on_line) (rule.complete i (node p.0 (depth_of_expression p.0)) cut.0 stands (omega (arith, deep, fits)) refl)
      ∙ ap is_arrow_on_line (sees text cut.0 p.1.0 (tokens_of_concise_body written p.1.1) j cut.2 (arrow_agrees p.1.0 s.good.2.1.0)) ∙ s.good.2.1.0

  -- what is seen at the places of an arrow function of a name
  pub named_seen : (x : Expression) (i j : ℕ) → Made (Arrows text c false (Names c)) make_arrow x → SpelledBetween text i (tokens_of_expression written x) j → (refers c (behind text i) ≡ true) × (is_arrow_on_line (second text i) ≡ true)
  named_seen x i j (p, is, ((t, same, name), (sign, good))) h =
      let spelled = subst (λ ts. SpelledBetween text i ts j) (ap (λ ts. ts ++ (p.1.0 ∷ tokens_of_concise_body written p.1.1)) (ap (tokens_of_expression written) same ∙ tokens_Primary written t)) (arrow_spelled false (Names c) x i j (p, is, ((t, same, name), (sign, good))) h) in
      let agreed = reference_agrees c t.kind name in
      (ap (refers c) (sees text i t (p.1.0 ∷ tokens_of_concise_body written p.1.1) j spelled agreed) ∙ name, ap is_arrow_on_line (second_seen text i t p.1.0 (tokens_of_concise_body written p.1.1) j spelled agreed (arrow_agrees p.1.0 sign)) ∙ sign)

  pub named_at : (x : Expression) (i j : ℕ) → Made (Arrows text c false (Names c)) make_arrow x → SpelledBetween text i (tokens_of_expression written x) j → at_name text c i ≡ true
  unfolding at_name
  named_at x i j good h = let s = named_seen x i j good h in and_both _ _ s.0 s.1

  -- and of an async one
  pub async_seen : (x : Expression) (i j : ℕ) → Made (Async_arrows text c) make_async_arrow x → SpelledBetween text i (tokens_of_expression written x) j → (is_async text (behind text i) ≡ true) × (is_name_on_line (second text i) ≡ true) × (is_arrow_on_line (third text i) ≡ true)
  async_seen x i j (p, is, (word, (name, (sign, good)))) h =
      let spelled = subst (λ ts. SpelledBetween text i ts j) (ap (tokens_of_expression written) is ∙ tokens_AsyncArrow written p.0 p.1.0 p.1.1.0 p.1.1.1) h in
      let agreed = async_agrees text p.0 word in
      let rest = p.1.1.0 ∷ tokens_of_concise_body written p.1.1.1 in
      let two = second_seen text i p.0 p.1.0 rest j spelled agreed (name_agrees p.1.0 name) in
      (ap (is_async text) (sees text i p.0 (p.1.0 ∷ rest) j spelled agreed) ∙ word, ap is_name_on_line two ∙ name, ap is_arrow_on_line (ap (λ (t : Token). behind text t.end) two ∙ sees text p.1.0.end p.1.1.0 (tokens_of_concise_body written p.1.1.1) j spelled.2.2 (arrow_agrees p.1.1.0 sign)) ∙ sign)

  pub async_at : (x : Expression) (i j : ℕ) → Made (Async_arrows text c) make_async_arrow x → SpelledBetween text i (tokens_of_expression written x) j → at_async_name text i ≡ true
  unfolding at_async_name
  async_at x i j good h = let s = async_seen x i j good h in and_both _ _ s.0 (and_both _ _ s.1 s.2)
