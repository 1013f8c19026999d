-- A sequence is read exactly where its parts are.
use Rattle.std.proofs.Common.{◌≤◌, suc, nat_lt, ◌≡◌, ℕ, ◌+◌, ◌<◌, max, Bool, true, false, ◌⊎◌, inl, inr, List, [], Some, None, refl, ap, sym, ◌∙◌, subst, arith}
use Rattle.esb_token.specs.declared.kind.Kind.{Kind}
use Rattle.esb_token.specs.declared.token.Token.{Token}
use Rattle.esb_token.specs.declared.goal.Goal.{Goal}
use Rattle.esb_token.specs.declared.goal.Goal.TheVariants as goal
use Rattle.esb_token.specs.Tokens.{SpelledBetween}
use Rattle.esb_reader.specs.declared.node.Node.{Node}
use Rattle.esb_reader.specs.Kinds.{agrees}
use Rattle.esb_reader.specs.Places.{Text}
use Rattle.esb_reader.specs.Reader.{Reader, choose, node, expect, take}
use Rattle.esb_reader.specs.Parts.{behind, both, token, token_in, made, such, above, choice, empty, optional}
use Rattle.esb_reader.specs.Stands.{Syntax, Stands, Rule, pairs, tokens, tokens_in, which, either, Made, maybe}
use Rattle.esb_reader.proofs.Agreeing.{no_end, spelled-is_read, read-is_spelled}
use Rattle.esb_reading_laws.proofs.Steps.{lt_true, true_lt, then_some, if_some, some_is, take_some, expect_some, then_goes, if_goes, if_not, take_goes, expect_goes, spelled_split, spelled_join}

-- a token
pub token_rule : (text : Text) (n top : ℕ) (kind : Kind) → agrees goal.Div kind ≡ true → Rule text (tokens kind) n top (λ _ _. true) (token text kind)
token_rule text n top kind other = record {
  sound = λ i x j h.
      let one = then_some (expect text kind i) _ (x, j) h in
      let found = expect_some text kind i one.0 one.1 in
      let same : agrees goal.Div one.0.0.kind ≡ true = ap (agrees goal.Div) found.2 ∙ other in
      subst (λ p. Stands text (tokens kind) n p.0 i p.1) (some_is _ _ one.2)
      (record { good = found.2; levels = refl; fits = omega arith; spelled = (read-is_spelled text goal.Div i one.0.0 found.0 same, no_end goal.Div one.0.0.kind same, sym found.1) });
  complete = λ i x j stands low stop.
      let t = x.tree in
      let same : agrees goal.Div t.kind ≡ true = ap (agrees goal.Div) stands.good ∙ other in
      then_goes _ _ t t.end (expect_goes text kind i t (spelled-is_read text goal.Div i t stands.spelled.0 same) stands.good)
      ∙ ap (λ a. Some (node t a, t.end)) stands.levels ∙ ap (λ p. Some (x, p)) stands.spelled.2;
}

-- a token that passes a test under a goal
pub token_in_rule : (text : Text) (n top : ℕ) (g : Goal) (test : Token → Bool) → ((t : Token) → test t ≡ true → agrees g t.kind ≡ true) → Rule text (tokens_in test) n top (λ _ _. true) (token_in text g test)
token_in_rule text n top g test other = record {
  sound = λ i x j h.
      let one = then_some (take text g i) _ (x, j) h in
      let found = take_some text g i one.0 one.1 in
      let passes = if_some (test one.0.0) _ (x, j) one.2 in
      let same = other one.0.0 passes.0 in
      subst (λ p. Stands text (tokens_in test) n p.0 i p.1) (some_is _ _ passes.1)
      (record { good = passes.0; levels = refl; fits = omega arith; spelled = (read-is_spelled text g i one.0.0 found.0 same, no_end g one.0.0.kind same, sym found.1) });
  complete = λ i x j stands low stop.
      let t = x.tree in
      then_goes _ _ t t.end (take_goes text g i t (spelled-is_read text g i t stands.spelled.0 (other t stands.good)))
      ∙ if_goes _ _ _ stands.good
      ∙ ap (λ a. Some (node t a, t.end)) stands.levels ∙ ap (λ p. Some (x, p)) stands.spelled.2;
}

-- One part after the other. `whole` says what ends the two: it has to end the second, and what follows the first has to end
-- the first. Where the second may spell nothing, that is what follows the two.
pub both_rule : {A B : Type 0} (text : Text) (S : Syntax A) (T : Syntax B) (n top : ℕ) (stops : A → Token → Bool) (ends : B → Token → Bool) (whole : A × B → Token → Bool) (p : Reader (Node A)) (q : Reader (Node B))
    → Rule text S n top stops p → Rule text T n top ends q
    → ((a : A) (b : B) (t : Token) → whole (a, b) t ≡ true → ends b t ≡ true)
    → ((a : A) (b : B) (m j : ℕ) → S.Good a → T.Good b → SpelledBetween text m (T.yields b) j → whole (a, b) (behind text j) ≡ true → stops a (behind text m) ≡ true)
    → Rule text (pairs S T) n top whole (both p q)
both_rule text S T n top stops ends whole p q first second last apart = record {
  sound = λ i x j h.
      let one = then_some (p i) _ (x, j) h in
      let two = then_some (q one.0.1) _ (x, j) one.2 in
      let a = first.sound i one.0.0 one.0.1 one.1 in
      let b = second.sound one.0.1 two.0.0 two.0.1 two.1 in
      subst (λ z. Stands text (pairs S T) n z.0 i z.1) (some_is _ _ two.2)
      (record {
        good = (a.good, b.good);
        levels = ap (λ l. max l (T.levels_of two.0.0.tree)) a.levels ∙ ap (λ l. max one.0.0.levels l) b.levels;
        fits = let u = a.fits in let v = b.fits in omega arith;
        spelled = spelled_join text i (S.yields one.0.0.tree) (T.yields two.0.0.tree) one.0.1 two.0.1 a.spelled b.spelled;
      });
  complete = λ i x j stands low stop.
      let cut = spelled_split text i (S.yields x.tree.0) (T.yields x.tree.1) j stands.spelled in
      let m = cut.0 in
      let u = node x.tree.0 (S.levels_of x.tree.0) in
      let v = node x.tree.1 (T.levels_of x.tree.1) in
      let deep = stands.levels in
      let fits = stands.fits in
      let a : Stands text S n u i m = record { good = stands.good.0; levels = refl; fits = omega (arith, deep, fits); spelled = cut.1 } in
      let b : Stands text T n v m j = record { good = stands.good.1; levels = refl; fits = omega (arith, deep, fits); spelled = cut.2 } in
      then_goes _ _ u m (first.complete i u m a (omega (arith, deep, low)) (apart x.tree.0 x.tree.1 m j stands.good.0 stands.good.1 cut.2 stop))
      ∙ then_goes _ _ v j (second.complete m v j b (omega (arith, deep, low)) (last x.tree.0 x.tree.1 (behind text j) stop))
      ∙ ap (λ z. Some (node x.tree z, j)) stands.levels;
}

-- the same trees under another name, and with fewer tokens that end them
pub same_rule : {A : Type 0} (text : Text) (S T : Syntax A) (n top : ℕ) (stops ends : A → Token → Bool) (read : Reader (Node A)) → Rule text S n top stops read
    → S.yields ≡ T.yields → S.levels_of ≡ T.levels_of → ((x : A) → S.Good x → T.Good x) → ((x : A) → T.Good x → S.Good x)
    → ((x : A) (t : Token) → T.Good x → ends x t ≡ true → stops x t ≡ true) → Rule text T n top ends read
same_rule text S T n top stops ends read rule yields levels there back fewer = record {
  sound = λ i x j h. let s = rule.sound i x j h in
      record { good = there x.tree s.good; levels = ap (λ f. f x.tree) (sym levels) ∙ s.levels; fits = s.fits; spelled = subst (λ f. SpelledBetween text i (f x.tree) j) yields s.spelled };
  complete = λ i x j s low stop.
      rule.complete i x j (record { good = back x.tree s.good; levels = ap (λ f. f x.tree) levels ∙ s.levels; fits = s.fits; spelled = subst (λ f. SpelledBetween text i (f x.tree) j) (sym yields) s.spelled }) low
      (fewer x.tree (behind text j) s.good stop);
}

-- A node that is made of its parts, and of no other parts.
pub record Makes {A B : Type 0} (S : Syntax A) (T : Syntax B) (f : A → B) (more : ℕ) : Type 0 where
  pub yields : (a : A) → T.yields (f a) ≡ S.yields a
  pub levels_of : (a : A) → T.levels_of (f a) ≡ S.levels_of a + more
  pub good : (a : A) → S.Good a → T.Good (f a)
  pub parts : (b : B) → T.Good b → (a : A) × (b ≡ f a) × S.Good a

pub made_rule : {A B : Type 0} (text : Text) (S : Syntax A) (T : Syntax B) (n top more : ℕ) (stops : A → Token → Bool) (ends : B → Token → Bool) (f : A → B) (p : Reader (Node A))
    → Rule text S n top stops p → Makes S T f more → ((a : A) (t : Token) → ends (f a) t ≡ true → stops a t ≡ true) → Rule text T (n + more) (top + more) ends (made f more p)
made_rule text S T n top more stops ends f p rule makes same = record {
  sound = λ i x j h.
      let one = then_some (p i) _ (x, j) h in
      let a = one.0.0 in
      let s = rule.sound i a one.0.1 one.1 in
      subst (λ z. Stands text T (n + more) z.0 i z.1) (some_is _ _ one.2)
      (record {
        good = makes.good a.tree s.good;
        levels = makes.levels_of a.tree ∙ ap (λ l. l + more) s.levels;
        fits = let u = s.fits in omega arith;
        spelled = subst (λ ts. SpelledBetween text i ts one.0.1) (sym (makes.yields a.tree)) s.spelled;
      });
  complete = λ i x j stands low stop.
      let found = makes.parts x.tree stands.good in
      let a = node found.0 (S.levels_of found.0) in
      let deep : x.levels ≡ S.levels_of found.0 + more = sym stands.levels ∙ ap T.levels_of found.1 ∙ makes.levels_of found.0 in
      let fits = stands.fits in
      let s : Stands text S n a i j = record { good = found.2; levels = refl; fits = omega (arith, deep, fits); spelled = subst (λ ts. SpelledBetween text i ts j) (ap T.yields found.1 ∙ makes.yields found.0) stands.spelled } in
      then_goes _ _ a j (rule.complete i a j s (omega (arith, deep, low)) (same found.0 (behind text j) (subst (λ b. ends b (behind text j) ≡ true) found.1 stop)))
      ∙ ap (λ z. Some (node (f found.0) z, j)) (sym deep) ∙ ap (λ z. Some (node z x.levels, j)) (sym found.1);
}

-- a node of as many levels as its parts, where being made of them is being well formed
pub plain_rule : {A B : Type 0} (text : Text) (S : Syntax A) (yields : B → List Token) (levels_of : B → ℕ) (n top : ℕ) (stops : A → Token → Bool) (ends : B → Token → Bool) (f : A → B) (p : Reader (Node A))
    → Rule text S n top stops p → ((a : A) → yields (f a) ≡ S.yields a) → ((a : A) → levels_of (f a) ≡ S.levels_of a) → ((a : A) (t : Token) → ends (f a) t ≡ true → stops a t ≡ true)
    → Rule text (record { yields = yields; levels_of = levels_of; Good = Made S f }) n top ends (made f 0 p)
plain_rule text S yields levels_of n top stops ends f p rule spells deep same =
    let T : Syntax _ = record { yields = yields; levels_of = levels_of; Good = Made S f } in
    subst (λ z. Rule text T n z ends (made f 0 p)) (let e : top + 0 ≡ top = omega arith in e) (subst (λ z. Rule text T z (top + 0) ends (made f 0 p)) (let e : n + 0 ≡ n = omega arith in e)
    (made_rule text S T n top 0 stops ends f p rule (record { yields = spells; levels_of = λ a. deep a ∙ (let e : S.levels_of a ≡ S.levels_of a + 0 = omega arith in e); good = λ a h. (a, refl, h); parts = λ b h. h }) same))

-- a node that passes a test
pub such_rule : {A : Type 0} (text : Text) (S : Syntax A) (n top : ℕ) (stops : A → Token → Bool) (test : A → Bool) (p : Reader (Node A)) → Rule text S n top stops p
    → Rule text (which S (λ x. S.Good x × (test x ≡ true))) n top stops (such p test)
such_rule text S n top stops test p rule = record {
  sound = λ i x j h.
      let one = then_some (p i) _ (x, j) h in
      let passes = if_some (test one.0.0.tree) _ (x, j) one.2 in
      let s = rule.sound i one.0.0 one.0.1 one.1 in
      subst (λ z. Stands text (which S (λ y. S.Good y × (test y ≡ true))) n z.0 i z.1) (some_is _ _ passes.1)
      (record { good = (s.good, passes.0); levels = s.levels; fits = s.fits; spelled = s.spelled });
  complete = λ i x j s low stop.
      then_goes _ _ x j (rule.complete i x j (record { good = s.good.0; levels = s.levels; fits = s.fits; spelled = s.spelled }) low stop)
      ∙ if_goes _ _ _ s.good.1;
}

-- a node one level above its parts
pub above_rule : {A B : Type 0} (text : Text) (S : Syntax A) (yields : B → List Token) (levels_of : B → ℕ) (n top : ℕ) (stops : A → Token → Bool) (ends : B → Token → Bool) (f : A → B) (p : Reader (Node A))
    → Rule text S n top stops p → n ≤ top → ((a : A) → yields (f a) ≡ S.yields a) → ((a : A) → levels_of (f a) ≡ S.levels_of a + 1) → ((a : A) (t : Token) → ends (f a) t ≡ true → stops a t ≡ true)
    → Rule text (record { yields = yields; levels_of = levels_of; Good = Made S f }) n (suc n) ends (above n f p)
above_rule text S yields levels_of n top stops ends f p rule room spells deep same = record {
  sound = λ i x j h.
      let one = then_some (p i) _ (x, j) h in
      let a = one.0.0 in
      let test = if_some (nat_lt a.levels n) _ (x, j) one.2 in
      let below = lt_true a.levels n test.0 in
      let s = rule.sound i a one.0.1 one.1 in
      subst (λ z. Stands text (record { yields = yields; levels_of = levels_of; Good = Made S f }) n z.0 i z.1) (some_is _ _ test.1)
      (record {
        good = (a.tree, refl, s.good);
        levels = deep a.tree ∙ ap (λ l. l + 1) s.levels;
        fits = omega (arith, below);
        spelled = subst (λ ts. SpelledBetween text i ts one.0.1) (sym (spells a.tree)) s.spelled;
      });
  complete = λ i x j stands low stop.
      let found = stands.good in
      let a = node found.0 (S.levels_of found.0) in
      let level : x.levels ≡ S.levels_of found.0 + 1 = sym stands.levels ∙ ap levels_of found.1 ∙ deep found.0 in
      let fits = stands.fits in
      let s : Stands text S n a i j = record { good = found.2; levels = refl; fits = omega (arith, level, fits); spelled = subst (λ ts. SpelledBetween text i ts j) (ap yields found.1 ∙ spells found.0) stands.spelled } in
      then_goes _ _ a j (rule.complete i a j s (omega (arith, level, fits, room)) (same found.0 (behind text j) (subst (λ b. ends b (behind text j) ≡ true) found.1 stop)))
      ∙ if_goes _ _ _ (true_lt (S.levels_of found.0) n (omega (arith, level, fits)))
      ∙ ap (λ z. Some (node (f found.0) z, j)) (sym level) ∙ ap (λ z. Some (node z x.levels, j)) (sym found.1);
}

-- a node that spells nothing
pub empty_rule : {A : Type 0} (text : Text) (yields : A → List Token) (levels_of : A → ℕ) (n top : ℕ) (stops : A → Token → Bool) (a : A) → yields a ≡ [] → levels_of a ≡ 0
    → Rule text (record { yields = yields; levels_of = levels_of; Good = λ x. x ≡ a }) n top stops (empty a)
empty_rule text yields levels_of n top stops a nothing none = record {
  sound = λ i x j h.
      subst (λ p. Stands text (record { yields = yields; levels_of = levels_of; Good = λ y. y ≡ a }) n p.0 i p.1) (some_is _ _ h)
      (record { good = refl; levels = none; fits = omega arith; spelled = subst (λ ts. SpelledBetween text i ts i) (sym nothing) refl });
  complete = λ i x j s low stop.
      let here : i ≡ j = subst (λ ts. SpelledBetween text i ts j) (ap yields s.good ∙ nothing) s.spelled in
      ap (λ l. Some (node a l, i)) (sym none ∙ ap levels_of (sym s.good) ∙ s.levels) ∙ ap (λ t. Some (node t x.levels, i)) (sym s.good) ∙ ap (λ p. Some (x, p)) here;
}

-- ---- a choice by the next token

-- One of two kinds of node over the same trees, which begin with different tokens. One that spells nothing begins with what follows it.
pub choice_rule : {A : Type 0} (text : Text) (S : Syntax A) (First Second : A → Type 0) (n top : ℕ) (stops : A → Token → Bool) (begins : Token → Bool) (p q : Reader (Node A))
    → Rule text (record { yields = S.yields; levels_of = S.levels_of; Good = First }) n top stops p → Rule text (record { yields = S.yields; levels_of = S.levels_of; Good = Second }) n top stops q
    → ((x : A) (i j : ℕ) → First x → SpelledBetween text i (S.yields x) j → begins (behind text i) ≡ true)
    → ((x : A) (i j : ℕ) → Second x → SpelledBetween text i (S.yields x) j → stops x (behind text j) ≡ true → begins (behind text i) ≡ false)
    → Rule text (either S First Second) n top stops (choice text begins p q)
choice_rule text S First Second n top stops begins p q first second is_first is_second = record {
  sound = λ i x j h. by_test i x j (begins (behind text i)) h;
  complete = λ i x j stands low stop. by_kind i x j stands low stop stands.good;
}
  where
    by_test : (i : ℕ) (x : Node _) (j : ℕ) (b : Bool) → choose b p q i ≡ Some (x, j) → Stands text (either S First Second) n x i j
    by_test i x j true h = let s = first.sound i x j h in record { good = inl s.good; levels = s.levels; fits = s.fits; spelled = s.spelled }
    by_test i x j false h = let s = second.sound i x j h in record { good = inr s.good; levels = s.levels; fits = s.fits; spelled = s.spelled }

    by_kind : (i : ℕ) (x : Node _) (j : ℕ) → Stands text (either S First Second) n x i j → x.levels < top → stops x.tree (behind text j) ≡ true → First x.tree ⊎ Second x.tree → choice text begins p q i ≡ Some (x, j)
    by_kind i x j s low stop (inl g) = if_goes _ _ _ (is_first x.tree i j g s.spelled) ∙ first.complete i x j (record { good = g; levels = s.levels; fits = s.fits; spelled = s.spelled }) low stop
    by_kind i x j s low stop (inr g) = if_not _ _ _ (is_second x.tree i j g s.spelled stop) ∙ second.complete i x j (record { good = g; levels = s.levels; fits = s.fits; spelled = s.spelled }) low stop

-- a part or nothing, where what ends the part does not begin one
pub optional_rule : {A : Type 0} (text : Text) (S : Syntax A) (n top : ℕ) (ends begins : Token → Bool) (p : Reader (Node A)) → Rule text S n top (λ _. ends) p
    → ((x : A) (i j : ℕ) → S.Good x → SpelledBetween text i (S.yields x) j → begins (behind text i) ≡ true)
    → ((t : Token) → ends t ≡ true → begins t ≡ false)
    → Rule text (maybe S) n top (λ _. ends) (optional text begins p)
optional_rule text S n top ends begins p rule starts apart =
    choice_rule text (maybe S) (Made S Some) (λ x. x ≡ None) n top (λ _. ends) begins (made Some 0 p) (empty None)
    (plain_rule text S (maybe S).yields (maybe S).levels_of n top (λ _. ends) (λ _. ends) Some p rule (λ a. refl) (λ a. refl) (λ a t h. h))
    (empty_rule text (maybe S).yields (maybe S).levels_of n top (λ _. ends) None refl refl)
    (λ x i j g h. starts g.0 i j g.2 (subst (λ y. SpelledBetween text i ((maybe S).yields y) j) g.1 h))
    (λ x i j g h stop. let here : i ≡ j = subst (λ y. SpelledBetween text i ((maybe S).yields y) j) g h in ap (λ m. begins (behind text m)) here ∙ apart _ stop)
