-- Which AssignmentExpressions there are.
use Rattle.std.proofs.Common.{◌≡◌, ◌⊎◌, inl, inr, ℕ, suc, ◌≤◌, Bool, true, false, not, ◌&&◌, refl, ap, sym, ◌∙◌, subst, arith}
use Rattle.esb_token.specs.declared.kind.Kind.TheVariants as k
use Rattle.esb_token.specs.declared.token.Token.{Token}
use Rattle.esb_token.specs.Tokens.{SpelledBetween}
use Rattle.esb_tree.specs.declared.expressions.Expression.{Expression}
use Rattle.esb_tree.specs.declared.expressions.Expression.TheVariants as e
use Rattle.esb_tree.specs.declared.functions.ConciseBody.{ConciseBody}
use Rattle.esb_tree.specs.declared.patterns.Bracketed.{Bracketed}
use Rattle.esb_tree.specs.Levels.{depth_of_expression}
use Rattle.esb_tree.proofs.LevelLines.{levels_Parenthesized, levels_Arrow}
use Rattle.esb_grammar.specs.declared.context.Context.{Context}
use Rattle.esb_grammar.specs.declared.form.Form.TheVariants as f
use Rattle.esb_grammar.specs.Contexts.{of_arrow}
use Rattle.esb_grammar.specs.Grammar.{IsConditional, IsAssignment, conditional_expression, assignment, yield_alone, yield_value, yield_each, arrow_function, async_arrow_function, async_arrow_of_name, IsArrowHead, arrow_name, arrow_parameters, IsAsyncArrowHead, async_arrow_parameters, IsConciseBody, IsBracketed}
use Rattle.esb_reader.specs.declared.node.Node.{Node}
use Rattle.esb_reader.specs.Places.{Text}
use Rattle.esb_reader.specs.Reader.{Reader}
use Rattle.esb_reader.specs.Stands.{Syntax, Rule, Made}
use Rattle.esb_expression_laws.specs.Leaves.{expressions}
use Rattle.esb_operator_laws.proofs.TokenTests.{and_left, and_right, and_both, not_true}
use Rattle.esb_assignment_laws.specs.Laws.{IsAssigned, assigns}
use Rattle.esb_assignment_laws.specs.Values.{is_arrow, ends_value}
use Rattle.esb_grammar.specs.Kinds.{is_binding}
use Rattle.esb_value_laws.specs.Arrows.{is_arrow_on_line, make_call, make_arrow, make_async_arrow}
use Rattle.esb_value_laws.specs.Laws.{Covers, ValueRule}
use Rattle.esb_value_laws.specs.Whole.{value}
use Rattle.esb_value_laws.specs.Yields.{IsYield, alone, of_value, of_each}
use Rattle.esb_value_laws.proofs.ArrowKinds.{arrow_is}
use Rattle.esb_value_laws.proofs.ArrowRules.{Names, Lists, Calls, call_levels, Arrows, Async_arrows}
use Rattle.esb_value_laws.proofs.ValueRules.{whole_rule}

-- the same trees under another name, where those of n levels are
same_within : {A : Type 0} (text : Text) (S T : Syntax A) (n top : ℕ) (stops : A → Token → Bool) (read : Reader (Node A)) → Rule text S n top stops read
    → S.yields ≡ T.yields → S.levels_of ≡ T.levels_of → ((x : A) → S.Good x → T.Good x) → ((x : A) → T.levels_of x ≤ n → T.Good x → S.Good x) → Rule text T n top stops read
same_within text S T n top stops read rule yields levels there back = record {
  sound = λ i x j h. let s = rule.sound i x j h in
      record { good = there x.tree s.good; levels = ap (λ f. f x.tree) (sym levels) ∙ s.levels; fits = s.fits; spelled = subst (λ f. SpelledBetween text i (f x.tree) j) yields s.spelled };
  complete = λ i x j s low stop.
      let deep = s.levels in
      let fits = s.fits in
      rule.complete i x j (record { good = back x.tree (omega (arith, deep, fits)) s.good; levels = ap (λ f. f x.tree) levels ∙ s.levels; fits = s.fits; spelled = subst (λ f. SpelledBetween text i (f x.tree) j) (sym yields) s.spelled }) low stop;
}

on_line_of : (b : Bool) (t : Token) → (b && not t.after_line) ≡ true → t.after_line ≡ false
on_line_of b t h = not_true _ (and_right b _ h)

module _ (text : Text) (c : Context) (n : ℕ) (covers : Bracketed → Bool) (cover : Covers text c n covers) where
  abbrev Fits : Bracketed → Type 0
  Fits x = IsBracketed text f.Arguments c x × (covers x ≡ true)

  abbrev Async : Expression → Type 0
  Async = Made (Async_arrows text c) make_async_arrow

  abbrev Named : Expression → Type 0
  Named = Made (Arrows text c false (Names c)) make_arrow

  abbrev Listed : Expression → Type 0
  Listed = Made (Arrows text c false (Made (Lists text c Fits) e.Parenthesized)) make_arrow

  abbrev Called : Expression → Type 0
  Called = Made (Arrows text c true (Made (Calls text c Fits) make_call)) make_arrow

  abbrev All : Expression → Type 0
  All x = IsYield text c x ⊎ (Async x ⊎ (Named x ⊎ (Listed x ⊎ (Called x ⊎ (IsConditional text c x ⊎ IsAssigned text c x)))))

  yields_there : (x : Expression) → IsYield text c x → IsAssignment text c x
  yields_there x (alone may h) = yield_alone may h
  yields_there x (of_value may h line good) = yield_value may h line good
  yields_there x (of_each may h is line good) = yield_each may h is line good

  arrow_there : (is_async_body : Bool) (Head : Expression → Type 0) (Wanted : Expression → Type 0) → ((h : Expression) → Head h → Wanted h)
      → ((h : Expression) (t : Token) (b : ConciseBody) → Wanted h → t.kind ≡ k.Arrow → t.after_line ≡ false → IsConciseBody text (of_arrow c is_async_body) b → IsAssignment text c (e.Arrow h t b))
      → (x : Expression) → Made (Arrows text c is_async_body Head) make_arrow x → IsAssignment text c x
  arrow_there is_async_body Head Wanted heads make x (p, is, (head, (sign, good))) =
      subst (IsAssignment text c) (sym is) (make p.0 p.1.0 p.1.1 (heads p.0 head) (arrow_is p.1.0.kind (and_left _ _ sign)) (on_line_of (is_arrow p.1.0.kind) p.1.0 sign) good)

  name_head : (h : Expression) → Names c h → IsArrowHead text c h
  name_head h (t, is, good) = subst (IsArrowHead text c) (sym is) (arrow_name good)

  list_head : (h : Expression) → Made (Lists text c Fits) e.Parenthesized h → IsArrowHead text c h
  list_head h (x, is, (good, fits)) = subst (IsArrowHead text c) (sym is) (arrow_parameters good (cover.there x good fits))

  call_head : (h : Expression) → Made (Calls text c Fits) make_call h → IsAsyncArrowHead text c h
  call_head h (p, is, (word, ((good, fits), line))) = subst (IsAsyncArrowHead text c) (sym is) (async_arrow_parameters p.0 p.1 word (not_true _ line) good (cover.there p.1 good fits))

  all_there : (x : Expression) → All x → IsAssignment text c x
  all_there x (inl good) = yields_there x good
  all_there x (inr (inl (p, is, (word, (name, (sign, good)))))) =
      subst (IsAssignment text c) (sym is)
      (async_arrow_of_name word (and_left _ _ name) (on_line_of (is_binding p.1.0.kind) p.1.0 name) (arrow_is p.1.1.0.kind (and_left _ _ sign)) (on_line_of (is_arrow p.1.1.0.kind) p.1.1.0 sign) good)
  all_there x (inr (inr (inl good))) = arrow_there false (Names c) (IsArrowHead text c) name_head (λ h t b head is line body. arrow_function head is line body) x good
  all_there x (inr (inr (inr (inl good)))) = arrow_there false (Made (Lists text c Fits) e.Parenthesized) (IsArrowHead text c) list_head (λ h t b head is line body. arrow_function head is line body) x good
  all_there x (inr (inr (inr (inr (inl good))))) = arrow_there true (Made (Calls text c Fits) make_call) (IsAsyncArrowHead text c) call_head (λ h t b head is line body. async_arrow_function head is line body) x good
  all_there x (inr (inr (inr (inr (inr (inl good)))))) = conditional_expression good
  all_there x (inr (inr (inr (inr (inr (inr (assigns h1 h2 h3))))))) = assignment h1 h2 h3

  sign_of : (t : Token) → t.kind ≡ k.Arrow → t.after_line ≡ false → is_arrow_on_line t ≡ true
  sign_of t is line = and_both _ _ (ap is_arrow is) (ap not line)

  head_back : (h : Expression) (t : Token) (b : ConciseBody) → depth_of_expression h ≤ n → IsArrowHead text c h → t.kind ≡ k.Arrow → t.after_line ≡ false → IsConciseBody text (of_arrow c false) b → All (e.Arrow h t b)
  head_back h t b low (arrow_name {t = name} good) is line body = inr (inr (inl ((h, (t, b)), refl, ((name, refl, good), (sign_of t is line, body)))))
  head_back h t b low (arrow_parameters {list = x} good too) is line body =
      let deep = levels_Parenthesized x in
      inr (inr (inr (inl ((h, (t, b)), refl, ((x, refl, (good, cover.back x too (omega (arith, deep, low)))), (sign_of t is line, body))))))

  call_back : (h : Expression) (t : Token) (b : ConciseBody) → depth_of_expression h ≤ n → IsAsyncArrowHead text c h → t.kind ≡ k.Arrow → t.after_line ≡ false → IsConciseBody text (of_arrow c true) b → All (e.Arrow h t b)
  call_back h t b low (async_arrow_parameters word x async line good too) is on_line body =
      let deep = call_levels word x in
      inr (inr (inr (inr (inl ((h, (t, b)), refl, (((word, x), refl, (async, ((good, cover.back x too (omega (arith, deep, low))), ap not line))), (sign_of t is on_line, body)))))))

  all_back : (x : Expression) → depth_of_expression x ≤ n → IsAssignment text c x → All x
  all_back x low (conditional_expression good) = inr (inr (inr (inr (inr (inl good)))))
  all_back x low (assignment h1 h2 h3) = inr (inr (inr (inr (inr (inr (assigns h1 h2 h3))))))
  all_back x low (yield_alone may h) = inl (alone may h)
  all_back x low (yield_value may h line good) = inl (of_value may h line good)
  all_back x low (yield_each may h is line good) = inl (of_each may h is line good)
  all_back x low (arrow_function {parameters = h} {arrow = t} {body = b} head is line body) = let deep = levels_Arrow h t b in head_back h t b (omega (arith, deep, low)) head is line body
  all_back x low (async_arrow_function {parameters = h} {arrow = t} {body = b} head is line body) = let deep = levels_Arrow h t b in call_back h t b (omega (arith, deep, low)) head is line body
  all_back x low (async_arrow_of_name {word = word} {name = name} {arrow = t} {body = b} async binds line is on_line body) =
      inr (inl ((word, (name, (t, b))), refl, (async, (and_both _ _ binds (ap not line), (sign_of t is on_line, body)))))

pub value_rule : ValueRule
value_rule text c n target below arguments body covers target_rule below_rule arguments_rule body_rule cover =
    same_within text (expressions (All text c n covers cover)) (expressions (IsAssignment text c)) n (suc n) (ends_value c) (value text c n target below arguments body covers)
    (whole_rule text c n target below arguments body covers target_rule below_rule arguments_rule body_rule)
    refl refl (all_there text c n covers cover) (all_back text c n covers cover)
