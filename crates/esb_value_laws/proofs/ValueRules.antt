-- AssignmentExpressions as a whole are read exactly.
use Rattle.std.proofs.Common.{◌≡◌, ◌⊎◌, inl, inr, ℕ, suc, ◌<◌, ◌≤◌, Bool, true, false, not, ◌||◌, List, [], ◌∷◌, Some, None, refl, ap, sym, ◌∙◌, subst, arith}
use Rattle.esb_token.specs.declared.kind.Kind.{Kind}
use Rattle.esb_token.specs.declared.kind.Kind.TheVariants as k
use Rattle.esb_token.specs.declared.token.Token.{Token}
use Rattle.esb_token.specs.Tokens.{SpelledBetween}
use Rattle.esb_tree.specs.declared.expressions.Expression.{Expression}
use Rattle.esb_tree.specs.declared.expressions.Expression.TheVariants as e
use Rattle.esb_tree.specs.declared.expressions.Link.TheVariants as l
use Rattle.esb_tree.specs.declared.functions.ConciseBody.{ConciseBody}
use Rattle.esb_tree.specs.declared.patterns.Bracketed.{Bracketed}
use Rattle.esb_tree.specs.Levels.{depth_of_expression, depth_of_bracketed}
use Rattle.esb_tree.specs.Trees.{written}
use Rattle.esb_tree.specs.Yields.{tokens_of_expression, tokens_of_bracketed, tokens_of_concise_body}
use Rattle.esb_tree.proofs.TokenLines.{tokens_Primary, tokens_Parenthesized, tokens_Bracketed, tokens_Yield, tokens_YieldValue, tokens_YieldEach}
use Rattle.esb_tree.proofs.LevelLines.{levels_Primary}
use Rattle.esb_grammar.specs.declared.context.Context.{Context}
use Rattle.esb_grammar.specs.declared.form.Form.TheVariants as f
use Rattle.esb_grammar.specs.Contexts.{of_arrow}
use Rattle.esb_grammar.specs.Grammar.{loosest, identifier_reference, parenthesized, primary_expression, origin, member, access, IsUpdate, update, IsBinary, unary_expression, IsConditional, IsAssignment, IsBracketed, bracketed, call, more_links, no_links}
use Rattle.esb_grammar.specs.Kinds.{is_reference, is_binding}
use Rattle.esb_grammar.specs.Words.{is_async}
use Rattle.esb_reader.specs.declared.node.Node.{Node}
use Rattle.esb_reader.specs.Places.{Text}
use Rattle.esb_reader.specs.Reader.{Found, Reader, node}
use Rattle.esb_reader.specs.Parts.{behind, such}
use Rattle.esb_reader.specs.Stands.{Syntax, Stands, Rule, Made}
use Rattle.esb_reading_laws.proofs.Composed.{such_rule}
use Rattle.esb_reading_laws.proofs.Steps.{spelled_split, then_some, if_some, some_is}
use Rattle.esb_expression_laws.specs.Laws.{lists}
use Rattle.esb_expression_laws.specs.Leaves.{expressions}
use Rattle.esb_operator_laws.proofs.TokenTests.{and_left, and_right, not_true}
use Rattle.esb_first_tokens.specs.First.{begins_unary, is_yield_in, shows}
use Rattle.esb_assignment_laws.specs.Assignments.{assigned}
use Rattle.esb_assignment_laws.specs.Laws.{IsAssigned}
use Rattle.esb_literal_laws.specs.Forks.{second, passes_behind}
use Rattle.esb_literal_laws.proofs.Forks.{fork_rule, lower_rule}
use Rattle.esb_literal_laws.proofs.Seen.{sees, sees_kind}
use Rattle.esb_assignment_laws.specs.Values.{ends_value, ends_choice}
use Rattle.esb_value_laws.specs.Arrows.{is_arrow_on_line, is_name_on_line, refers, third, make_call, make_arrow, make_async_arrow, head_name, head_list, head_call, arrow, async_arrow, at_async_name, at_name, before_arrow}
use Rattle.esb_value_laws.specs.Bodies.{bodies}
use Rattle.esb_value_laws.specs.Ends.{ends_body}
use Rattle.esb_value_laws.specs.Whole.{at_yield, list_or_plain, value}
use Rattle.esb_value_laws.specs.Yields.{IsYield, alone, of_value, of_each, yielded}
use Rattle.esb_value_laws.proofs.ArrowKinds.{async_is, arrow_is, reference_agrees, async_agrees}
use Rattle.esb_value_laws.proofs.ArrowRules.{Names, name_rule, Lists, Calls, list_head_rule, call_head_rule, call_tokens, Arrows, Async_arrows, arrow_rule, async_arrow_rule, arrow_spelled, arrow_before, named_seen, named_at, async_seen, async_at}
use Rattle.esb_assignment_laws.proofs.AssignmentRules.{assigned_rule}
use Rattle.esb_value_laws.proofs.Openers.{opens, plain_opens}
use Rattle.esb_value_laws.proofs.Places.{second_at}
use Rattle.esb_value_laws.proofs.Stuck.{refuted, behind_spelled, Sticks, arrow_sticks, name_sticks, stuck}
use Rattle.esb_value_laws.proofs.Unary.{plain_shows}
use Rattle.esb_value_laws.proofs.ValueLists.{values_arguments}
use Rattle.esb_value_laws.proofs.YieldRules.{yield_rule}

-- ---- kinds

opens_is : (kind : Kind) → opens kind ≡ true → kind ≡ k.LeftParenthesis
opens_is k.LeftParenthesis h = refl
opens_is _ h = cc

name_opens : (kind : Kind) → kind ≡ k.Name → opens kind ≡ true → ⊥
name_opens kind e h = let bad : false ≡ true = sym (ap opens e) ∙ h in cc

reference_opens : (c : Context) (kind : Kind) → is_reference c kind ≡ true → opens kind ≡ true → ⊥
reference_opens c kind h o = let bad : false ≡ true = sym (ap (is_reference c) (opens_is kind o)) ∙ h in cc

arrow_opens : (t : Token) → is_arrow_on_line t ≡ true → opens t.kind ≡ true → ⊥
arrow_opens t h o = let bad : false ≡ true = sym (ap opens (arrow_is t.kind (and_left _ _ h))) ∙ o in cc

binding_opens : (t : Token) → is_name_on_line t ≡ true → opens t.kind ≡ true → ⊥
binding_opens t h o = let bad : false ≡ true = sym (ap is_binding (opens_is t.kind o)) ∙ and_left _ _ h in cc

binding_arrow : (t : Token) → is_name_on_line t ≡ true → is_arrow_on_line t ≡ true → ⊥
binding_arrow t h a = let bad : false ≡ true = sym (ap is_binding (arrow_is t.kind (and_left _ _ a))) ∙ and_left _ _ h in cc

-- none of these is `yield`
reference_no_yield : (c : Context) (kind : Kind) → is_reference c kind ≡ true → is_yield_in c kind ≡ false
reference_no_yield c k.Yield h = not_true c.has_yield h
reference_no_yield c _ h = refl

unary_not : (b : Bool) → ((((not b || false) || false) || false) || false) ≡ true → b ≡ false
unary_not true h = cc
unary_not false h = refl

pub unary_no_yield : (c : Context) (kind : Kind) → shows (begins_unary c) kind ≡ true → is_yield_in c kind ≡ false
unary_no_yield c k.Yield h = unary_not c.has_yield h
unary_no_yield c _ h = refl

-- ---- what a test says

passes_some : {A : Type 0} (text : Text) (test : Token → Bool) (r : Found A) → passes_behind text test r ≡ true → (p : A × ℕ) × (r ≡ Some p) × (test (behind text p.1) ≡ true)
passes_some text test None h = cc
passes_some text test (Some p) h = (p, refl, h)

held : (text : Text) (head : Reader (Node Expression)) (i : ℕ) → before_arrow text head i ≡ true → (p : Node Expression × ℕ) × (head i ≡ Some p) × (is_arrow_on_line (behind text p.1) ≡ true)
unfolding before_arrow
held text head i h = passes_some text is_arrow_on_line (head i) h

pub name_tests : (text : Text) (c : Context) (i : ℕ) → at_name text c i ≡ true → (refers c (behind text i) ≡ true) × (is_arrow_on_line (second text i) ≡ true)
unfolding at_name
name_tests text c i h = (and_left _ _ h, and_right (refers c (behind text i)) _ h)

pub async_tests : (text : Text) (i : ℕ) → at_async_name text i ≡ true → (is_async text (behind text i) ≡ true) × (is_name_on_line (second text i) ≡ true) × (is_arrow_on_line (third text i) ≡ true)
unfolding at_async_name
async_tests text i h =
    let rest = and_right (is_async text (behind text i)) _ h in
    (and_left _ _ h, and_left _ _ rest, and_right (is_name_on_line (second text i)) _ rest)

-- a list at a place
list_seen : (text : Text) (c : Context) (x : Bracketed) (i j : ℕ) → IsBracketed text f.Arguments c x → SpelledBetween text i (tokens_of_bracketed written x) j → opens (behind text i).kind ≡ true
list_seen text c x i j (bracketed begin list ending first good last) h =
    let spelled = subst (λ ts. SpelledBetween text i ts j) (tokens_Bracketed written begin list ending) h in
    ap (λ (t : Token). opens t.kind) (sees_kind text i begin _ j k.LeftParenthesis spelled first refl) ∙ ap opens first

-- ---- the law

module _ (text : Text) (c : Context) (n : ℕ) (target below : Reader (Node Expression)) (arguments : Reader (Node Bracketed)) (body : Bool → Reader (Node ConciseBody)) (covers : Bracketed → Bool)
    (target_rule : Rule text (expressions (IsConditional text c)) n (suc n) (ends_choice c) target) (below_rule : Rule text (expressions (IsAssignment text c)) n n (ends_value c) below)
    (arguments_rule : Rule text (lists text f.Arguments c) n n (λ _ _. true) arguments) (body_rule : (is_async_body : Bool) → Rule text (bodies text (of_arrow c is_async_body)) n n (ends_body (of_arrow c is_async_body)) (body is_async_body)) where
  abbrev Any : Syntax Expression
  Any = expressions (λ x. Unit {0})

  abbrev Unbranched : Expression → Type 0
  Unbranched x = IsConditional text c x ⊎ IsAssigned text c x

  abbrev List_of : Bracketed → Type 0
  List_of = IsBracketed text f.Arguments c

  abbrev Fits : Bracketed → Type 0
  Fits x = List_of x × (covers x ≡ true)

  abbrev List_head : Expression → Type 0
  List_head = Made (Lists text c Fits) e.Parenthesized

  abbrev Call_head : Expression → Type 0
  Call_head = Made (Calls text c Fits) make_call

  abbrev Async : Expression → Type 0
  Async = Made (Async_arrows text c) make_async_arrow

  abbrev Named : Expression → Type 0
  Named = Made (Arrows text c false (Names c)) make_arrow

  abbrev Listed : Expression → Type 0
  Listed = Made (Arrows text c false List_head) make_arrow

  abbrev Called : Expression → Type 0
  Called = Made (Arrows text c true Call_head) make_arrow

  -- ---- the readers of the parts

  fits_rule : Rule text (Lists text c Fits) n n (λ _ _. true) (such arguments covers)
  fits_rule = such_rule text (lists text f.Arguments c) n n (λ _ _. true) covers arguments arguments_rule

  any_list : Rule text (expressions (Made (Lists text c List_of) e.Parenthesized)) n (suc n) (λ _ _. true) (head_list n arguments)
  any_list = list_head_rule text c n List_of (λ x h. h) arguments arguments_rule

  any_call : Rule text (expressions (Made (Calls text c List_of) make_call)) n (suc n) (λ _ _. true) (head_call text n arguments)
  any_call = call_head_rule text c n List_of (λ x h. h) arguments arguments_rule

  listed_rule : Rule text (expressions Listed) n (suc n) (ends_value c) (arrow text n (head_list n (such arguments covers)) (body false))
  listed_rule = arrow_rule text c n false (body false) (body_rule false) List_head (head_list n (such arguments covers)) (lower_rule text (expressions List_head) n (λ _ _. true) (head_list n (such arguments covers)) (list_head_rule text c n Fits (λ x h. h.0) (such arguments covers) fits_rule))

  called_rule : Rule text (expressions Called) n (suc n) (ends_value c) (arrow text n (head_call text n (such arguments covers)) (body true))
  called_rule = arrow_rule text c n true (body true) (body_rule true) Call_head (head_call text n (such arguments covers)) (lower_rule text (expressions Call_head) n (λ _ _. true) (head_call text n (such arguments covers)) (call_head_rule text c n Fits (λ x h. h.0) (such arguments covers) fits_rule))

  -- ---- what is seen at their places

  listed_seen : (x : Expression) (i j : ℕ) → Listed x → SpelledBetween text i (tokens_of_expression written x) j → opens (behind text i).kind ≡ true
  listed_seen x i j good h =
      let p = good.0 in
      let head = good.2.0 in
      let cut = spelled_split text i (tokens_of_expression written p.0) (p.1.0 ∷ tokens_of_concise_body written p.1.1) j (arrow_spelled text c false List_head x i j good h) in
      list_seen text c head.0 i cut.0 head.2.0 (subst (λ ts. SpelledBetween text i ts cut.0) (ap (tokens_of_expression written) head.1 ∙ tokens_Parenthesized written head.0) cut.1)

  called_seen : (x : Expression) (i j : ℕ) → Called x → SpelledBetween text i (tokens_of_expression written x) j → ((behind text i).kind ≡ k.Name) × (opens (second text i).kind ≡ true)
  called_seen x i j good h =
      let p = good.0 in
      let head = good.2.0 in
      let cut = spelled_split text i (tokens_of_expression written p.0) (p.1.0 ∷ tokens_of_concise_body written p.1.1) j (arrow_spelled text c true Call_head x i j good h) in
      let spelled = subst (λ ts. SpelledBetween text i ts cut.0) (ap (tokens_of_expression written) head.1 ∙ call_tokens head.0.0 head.0.1) cut.1 in
      let agreed = async_agrees text head.0.0 head.2.0 in (
        ap (λ (t : Token). t.kind) (sees text i head.0.0 (tokens_of_bracketed written head.0.1) cut.0 spelled agreed) ∙ async_is text head.0.0 head.2.0,
        ap (λ (t : Token). opens t.kind) (second_at text i head.0.0 (tokens_of_bracketed written head.0.1) cut.0 spelled agreed) ∙ list_seen text c head.0.1 head.0.0.end cut.0 head.2.1.0.0 spelled.2,
      )

  -- ---- where an expression without an arrow stands

  never : (y : Expression) (i m : ℕ) → IsBinary text loosest c y → depth_of_expression y ≤ n → SpelledBetween text i (tokens_of_expression written y) m → Sticks c (behind text m)
      → (x : Node Expression) (j : ℕ) → Stands text (expressions Unbranched) n x i j → x.levels < suc n → ends_value c x.tree (behind text j) ≡ true → ⊥
  never = stuck text c n target below target_rule below_rule

  -- an operand before `=>` on its line
  pub record Before_arrow (i : ℕ) : Type 0 where
    pub operand : Expression
    pub to : ℕ
    pub good : IsBinary text loosest c operand
    pub low : depth_of_expression operand ≤ n
    pub spelled : SpelledBetween text i (tokens_of_expression written operand) to
    pub sign : is_arrow_on_line (behind text to) ≡ true

  arrow_stuck : (i : ℕ) → Before_arrow i → (x : Node Expression) (j : ℕ) → Stands text (expressions Unbranched) n x i j → x.levels < suc n → ends_value c x.tree (behind text j) ≡ true → ⊥
  arrow_stuck i b = never b.operand i b.to b.good b.low b.spelled (arrow_sticks c (behind text b.to) b.sign)

  pub name_good : (t : Token) → is_reference c t.kind ≡ true → IsBinary text loosest c (e.Primary t)
  name_good t h = unary_expression (update (IsUpdate.left_hand_side (access (origin (primary_expression (identifier_reference h))))))

  pub name_spelled : (i : ℕ) → is_reference c (behind text i).kind ≡ true → SpelledBetween text i (tokens_of_expression written (e.Primary (behind text i))) (behind text i).end
  name_spelled i h = subst (λ ts. SpelledBetween text i ts (behind text i).end) (sym (tokens_Primary written (behind text i))) (behind_spelled text i (reference_agrees c (behind text i).kind h))

  pub name_before : (i : ℕ) → at_name text c i ≡ true → Before_arrow i
  name_before i h =
      let t = behind text i in
      let tests = name_tests text c i h in
      let deep = levels_Primary t in
      record { operand = e.Primary t; to = t.end; good = name_good t tests.0; low = omega (arith, deep); spelled = name_spelled i tests.0; sign = tests.1 }

  name_stuck : (i : ℕ) → is_reference c (behind text i).kind ≡ true → Sticks c (second text i) → (x : Node Expression) (j : ℕ) → Stands text (expressions Unbranched) n x i j → x.levels < suc n → ends_value c x.tree (behind text j) ≡ true → ⊥
  name_stuck i h sticks =
      let t = behind text i in
      let deep = levels_Primary t in
      never (e.Primary t) i t.end (name_good t h) (omega (arith, deep)) (name_spelled i h) sticks

  call_good : (w : Token) (x : Bracketed) → is_async text w ≡ true → List_of x → IsBinary text loosest c (make_call (w, x))
  call_good w x h good =
      unary_expression (update (IsUpdate.left_hand_side (access (member (e.Primary w) (l.Call x) [] (primary_expression (identifier_reference (ap (is_reference c) (async_is text w h)))) (more_links (call good) no_links)))))

  pub call_before : (i : ℕ) → before_arrow text (head_call text n arguments) i ≡ true → Before_arrow i
  call_before i h =
      let found = held text (head_call text n arguments) i h in
      let p = found.0 in
      let s = any_call.sound i p.0 p.1 found.1 in
      let parts = s.good in
      let deep = s.levels in
      let fits = s.fits in
      record { operand = p.0.tree; to = p.1; good = subst (IsBinary text loosest c) (sym parts.1) (call_good parts.0.0 parts.0.1 parts.2.0 parts.2.1.0); low = omega (arith, deep, fits); spelled = s.spelled; sign = found.2 }

  call_stuck : (i : ℕ) → before_arrow text (head_call text n arguments) i ≡ true → (x : Node Expression) (j : ℕ) → Stands text (expressions Unbranched) n x i j → x.levels < suc n → ends_value c x.tree (behind text j) ≡ true → ⊥
  call_stuck i h = arrow_stuck i (call_before i h)

  -- the list that was read
  list_read : (i : ℕ) (p : Node Expression × ℕ) → head_list n arguments i ≡ Some p → (q : Node Bracketed × ℕ) × (arguments i ≡ Some q) × (p.0.tree ≡ e.Parenthesized q.0.tree) × (p.1 ≡ q.1)
  unfolding head_list
  list_read i p h =
      let one = then_some (arguments i) _ p h in
      let test = if_some _ _ p one.2 in
      let same = some_is _ _ test.1 in
      (one.0, one.1, ap (λ z. z.0.tree) (sym same), ap (λ z. z.1) (sym same))

  list_good : (x : Bracketed) → IsBracketed text f.Values c x → IsBinary text loosest c (e.Parenthesized x)
  list_good x h = unary_expression (update (IsUpdate.left_hand_side (access (origin (primary_expression (parenthesized h))))))

  pub list_before : (i : ℕ) → before_arrow text (head_list n arguments) i ≡ true → (x : Node Expression) (j : ℕ) → Stands text (expressions Unbranched) n x i j → Before_arrow i
  list_before i h x j stands =
      let found = held text (head_list n arguments) i h in
      let p = found.0 in
      let s = any_list.sound i p.0 p.1 found.1 in
      let parts = s.good in
      let seen = list_seen text c parts.0 i p.1 parts.2 (subst (λ ts. SpelledBetween text i ts p.1) (ap (tokens_of_expression written) parts.1 ∙ tokens_Parenthesized written parts.0) s.spelled) in
      let o = plain_opens text c i seen x.tree j stands.good stands.spelled in
      let deep = stands.levels in
      let fits = stands.fits in
      let less = o.low in
      let there : Stands text (lists text f.Arguments c) n (node o.list (depth_of_bracketed o.list)) i o.to = record { good = values_arguments text c o.list o.good; levels = refl; fits = omega (arith, deep, fits, less); spelled = o.spelled } in
      let read = list_read i p found.1 in
      let same : read.0 ≡ (node o.list (depth_of_bracketed o.list), o.to) = some_is _ _ (sym read.1 ∙ arguments_rule.complete i (node o.list (depth_of_bracketed o.list)) o.to there (omega (arith, deep, fits, less)) refl) in
      let tree : p.0.tree ≡ e.Parenthesized o.list = read.2 ∙ ap (λ z. e.Parenthesized z.0.tree) same in
      let deep_there = s.levels in
      let fits_there = s.fits in
      record { operand = p.0.tree; to = p.1; good = subst (IsBinary text loosest c) (sym tree) (list_good o.list o.good); low = omega (arith, deep_there, fits_there); spelled = s.spelled; sign = found.2 }

  list_stuck : (i : ℕ) → before_arrow text (head_list n arguments) i ≡ true → (x : Node Expression) (j : ℕ) → Stands text (expressions Unbranched) n x i j → x.levels < suc n → ends_value c x.tree (behind text j) ≡ true → ⊥
  list_stuck i h x j stands = arrow_stuck i (list_before i h x j stands) x j stands

  -- ---- no test holds at the place of another

  abbrev Stops : Node Expression → ℕ → Type 0
  Stops x j = ends_value c x.tree (behind text j) ≡ true

  called_no_list : (i : ℕ) (x : Node Expression) (j : ℕ) → Stands text (expressions Called) n x i j → before_arrow text (head_list n arguments) i ≡ false
  called_no_list i x j s = refuted _ (λ h.
      let found = held text (head_list n arguments) i h in
      let l = any_list.sound i found.0.0 found.0.1 found.1 in
      let parts = l.good in
      name_opens _ (called_seen x.tree i j s.good s.spelled).0
      (list_seen text c parts.0 i found.0.1 parts.2 (subst (λ ts. SpelledBetween text i ts found.0.1) (ap (tokens_of_expression written) parts.1 ∙ tokens_Parenthesized written parts.0) l.spelled)))

  abbrev Last : Expression → Type 0
  Last x = Called x ⊎ Unbranched x

  last_no_list : (i : ℕ) (x : Node Expression) (j : ℕ) → Stands text (expressions Last) n x i j → x.levels < suc n → Stops x j → before_arrow text (head_list n arguments) i ≡ false
  last_no_list i x j s low stop = by_sort s.good
    where
      by_sort : Last x.tree → before_arrow text (head_list n arguments) i ≡ false
      by_sort (inl good) = called_no_list i x j (record { good = good; levels = s.levels; fits = s.fits; spelled = s.spelled })
      by_sort (inr good) = refuted _ (λ h. list_stuck i h x j (record { good = good; levels = s.levels; fits = s.fits; spelled = s.spelled }) low stop)

  abbrev Lists_or_plain : Expression → Type 0
  Lists_or_plain x = Listed x ⊎ Last x

  rest_no_name : (i : ℕ) (x : Node Expression) (j : ℕ) → Stands text (expressions Lists_or_plain) n x i j → x.levels < suc n → Stops x j → at_name text c i ≡ false
  rest_no_name i x j s low stop = refuted _ (λ h. by_sort (name_tests text c i h) s.good)
    where
      by_sort : (refers c (behind text i) ≡ true) × (is_arrow_on_line (second text i) ≡ true) → Lists_or_plain x.tree → ⊥
      by_sort t (inl good) = reference_opens c (behind text i).kind t.0 (listed_seen x.tree i j good s.spelled)
      by_sort t (inr (inl good)) = arrow_opens (second text i) t.1 (called_seen x.tree i j good s.spelled).1
      by_sort t (inr (inr good)) = name_stuck i t.0 (arrow_sticks c (second text i) t.1) x j (record { good = good; levels = s.levels; fits = s.fits; spelled = s.spelled }) low stop

  abbrev Named_or_rest : Expression → Type 0
  Named_or_rest x = Named x ⊎ Lists_or_plain x

  rest_no_async : (i : ℕ) (x : Node Expression) (j : ℕ) → Stands text (expressions Named_or_rest) n x i j → x.levels < suc n → Stops x j → at_async_name text i ≡ false
  rest_no_async i x j s low stop = refuted _ (λ h. by_sort (async_tests text i h) s.good)
    where
      by_sort : (is_async text (behind text i) ≡ true) × (is_name_on_line (second text i) ≡ true) × (is_arrow_on_line (third text i) ≡ true) → Named_or_rest x.tree → ⊥
      by_sort t (inl good) = binding_arrow (second text i) t.1 (named_seen text c x.tree i j good s.spelled).1
      by_sort t (inr (inl good)) = name_opens (behind text i).kind (async_is text (behind text i) t.0) (listed_seen x.tree i j good s.spelled)
      by_sort t (inr (inr (inl good))) = binding_opens (second text i) t.1 (called_seen x.tree i j good s.spelled).1
      by_sort t (inr (inr (inr good))) = name_stuck i (ap (is_reference c) (async_is text (behind text i) t.0)) (name_sticks c (second text i) t.1) x j (record { good = good; levels = s.levels; fits = s.fits; spelled = s.spelled }) low stop

  abbrev Arrow_or_plain : Expression → Type 0
  Arrow_or_plain x = Async x ⊎ Named_or_rest x

  rest_no_yield : (i : ℕ) (x : Node Expression) (j : ℕ) → Stands text (expressions Arrow_or_plain) n x i j → at_yield text c i ≡ false
  rest_no_yield i x j s = by_sort s.good
    where
      by_sort : Arrow_or_plain x.tree → at_yield text c i ≡ false
      by_sort (inl good) = ap (is_yield_in c) (async_is text (behind text i) (async_seen text c x.tree i j good s.spelled).0)
      by_sort (inr (inl good)) = reference_no_yield c (behind text i).kind (named_seen text c x.tree i j good s.spelled).0
      by_sort (inr (inr (inl good))) = ap (is_yield_in c) (opens_is (behind text i).kind (listed_seen x.tree i j good s.spelled))
      by_sort (inr (inr (inr (inl good)))) = ap (is_yield_in c) (called_seen x.tree i j good s.spelled).0
      by_sort (inr (inr (inr (inr good)))) = unary_no_yield c (behind text i).kind (plain_shows text c x.tree i j good s.spelled)

  yield_first : (i : ℕ) (word : Token) (ts : List Token) (j : ℕ) → SpelledBetween text i (word ∷ ts) j → c.has_yield ≡ true → word.kind ≡ k.Yield → at_yield text c i ≡ true
  yield_first i word ts j h may is = ap (λ (t : Token). is_yield_in c t.kind) (sees_kind text i word ts j k.Yield h is refl) ∙ ap (is_yield_in c) is ∙ may

  yield_there : (x : Expression) (i j : ℕ) → IsYield text c x → SpelledBetween text i (tokens_of_expression written x) j → at_yield text c i ≡ true
  yield_there x i j (alone {word = word} may h) spelled = yield_first i word [] j (subst (λ ts. SpelledBetween text i ts j) (tokens_Yield written word) spelled) may h
  yield_there x i j (of_value {word = word} {x = y} may h line good) spelled = yield_first i word (tokens_of_expression written y) j (subst (λ ts. SpelledBetween text i ts j) (tokens_YieldValue written word y) spelled) may h
  yield_there x i j (of_each {word = word} {star = star} {x = y} may h is line good) spelled = yield_first i word (star ∷ tokens_of_expression written y) j (subst (λ ts. SpelledBetween text i ts j) (tokens_YieldEach written word star y) spelled) may h

  -- ---- together

  list_or_plain_rule : Rule text (expressions Lists_or_plain) n (suc n) (ends_value c) (list_or_plain text c n target below arguments body covers)
  unfolding list_or_plain
  list_or_plain_rule =
      fork_rule text Any Listed Last n (suc n) (ends_value c) (before_arrow text (head_list n arguments)) (arrow text n (head_list n (such arguments covers)) (body false)) _
      listed_rule
      (fork_rule text Any Called Unbranched n (suc n) (ends_value c) (before_arrow text (head_call text n arguments)) (arrow text n (head_call text n (such arguments covers)) (body true)) (assigned text n target below)
      called_rule (assigned_rule text c n target below target_rule below_rule)
      (λ i x j s low stop. arrow_before text c n true Call_head (Made (Calls text c List_of) make_call) (head_call text n arguments) (λ y g. (g.0, g.1, (g.2.0, (g.2.1.0.0, g.2.1.1)))) any_call i x j s)
      (λ i x j s low stop. refuted _ (λ h. call_stuck i h x j s low stop)))
      (λ i x j s low stop. arrow_before text c n false List_head (Made (Lists text c List_of) e.Parenthesized) (head_list n arguments) (λ y g. (g.0, g.1, g.2.0)) any_list i x j s)
      last_no_list

  pub whole_rule : Rule text (expressions (λ x. IsYield text c x ⊎ Arrow_or_plain x)) n (suc n) (ends_value c) (value text c n target below arguments body covers)
  unfolding value
  whole_rule =
      fork_rule text Any (IsYield text c) Arrow_or_plain n (suc n) (ends_value c) (at_yield text c) (yielded text c n below) _
      (yield_rule text c n below below_rule)
      (fork_rule text Any Async Named_or_rest n (suc n) (ends_value c) (at_async_name text) (async_arrow text n (body true)) _
      (async_arrow_rule text c n (body true) (body_rule true))
      (fork_rule text Any Named Lists_or_plain n (suc n) (ends_value c) (at_name text c) (arrow text n (head_name text c) (body false)) (list_or_plain text c n target below arguments body covers)
      (arrow_rule text c n false (body false) (body_rule false) (Names c) (head_name text c) (name_rule text c n n))
      list_or_plain_rule
      (λ i x j s low stop. named_at text c x.tree i j s.good s.spelled)
      rest_no_name)
      (λ i x j s low stop. async_at text c x.tree i j s.good s.spelled)
      rest_no_async)
      (λ i x j s low stop. yield_there x.tree i j s.good s.spelled)
      (λ i x j s low stop. rest_no_yield i x j s)
