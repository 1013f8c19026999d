-- Where the entries of a kind are all one caller's own, what they give in the list is what its own entries give.
use Rattle.std.proofs.Common.{◌≡◌, ℕ, Bool, true, false, zero, suc, ◌+◌, ◌<◌, ◌≤◌, List, [], ◌∷◌, ◌++◌, length, sym, refl, ap, ◌∙◌, subst, arith, append_assoc, length-append, Some}
use Rattle.std.specs.Prelude.{slice_get, All, take}
use mathlib.Core.Logic.{dite}
use native.Mathlib.Decide.{ℕ_discrete}
use Rattle.std.proofs.lemmas.Option.{slice_get_within}
use Rattle.esb_turns.specs.Views.{times, Stands, IsWhole}
use Rattle.esb_turns.proofs.Sums.{one-other, below-in}
use Rattle.esb_turns.specs.OwnEntries.{Made, AscendsFrom, gathered, gathered_own}
use Rattle.esb_turns.proofs.Owning.{take-all, below}

head-is : {A : Type 0} (P : A → Type 0) (x : A) (xs : List A) → All P (x ∷ xs) → P x
head-is P x xs all = all 0 x (omega arith)

tail-is : {A : Type 0} (P : A → Type 0) (x : A) (xs : List A) → All P (x ∷ xs) → All P xs
tail-is P x xs all = λ k d w. all (suc k) d (omega arith)

module _ {E : Type 0} where
  at-seam : (before : List E) (e : E) (es : List E) → slice_get (before ++ e ∷ es) (length before) ≡ Some e
  at-seam [] e es = refl
  at-seam (x ∷ xs) e es = at-seam xs e es

  ascends-times : (m : ℕ) (own : List (ℕ × E)) (k : ℕ) → AscendsFrom m own → k < m → times k own ≡ 0
  ascends-times m [] k asc lt = refl
  ascends-times m (p ∷ ps) k asc lt =
      let none = one-other k p.0 (λ e. absurd (omega (arith, e, asc.0, lt))) in
      let rest = ascends-times (suc p.0) ps k asc.1 (omega (arith, asc.0, lt)) in omega (arith, none, rest)

  pub ascends-push : (n m : ℕ) (e : E) (own : List (ℕ × E)) → AscendsFrom n own → All (λ p. p.0 < m) own → n ≤ m → AscendsFrom n (own ++ (m, e) ∷ [])
  ascends-push n m e [] asc all le = (le, tt)
  ascends-push n m e (p ∷ ps) asc all le = (asc.0, ascends-push (suc p.0) m e ps asc.1 (λ k d w. all (suc k) d (omega arith)) (all 0 p (omega arith)))

  pub ascends-made : (e : E) (g : List E → Type 0) (s : List E) (o : List (ℕ × E)) (s' : List E) (o' : List (ℕ × E)) → Made e g s o s' o' → Stands s o → AscendsFrom 0 o → AscendsFrom 0 o'
  ascends-made e g s o s' o' m stands asc =
      let P : List (ℕ × E) → Type 0 = λ l. AscendsFrom 0 l in
      let len = ap (λ (l : List E). length l) m.grew.1 in let sum = length-append s m.grew.0 in
      subst P (sym m.owned) (ascends-push 0 (length m.before) e o asc (λ k d w. let b = below s o stands k d w in omega arith) (omega arith))

module _ {E X : Type 0} (f : List E → E → List X) (kind : E → Bool) (quiet : (b : List E) (e : E) → kind e ≡ false → f b e ≡ []) (whole : List E) where
  abbrev Stand : ℕ × E → Type 0
  Stand p = slice_get whole p.0 ≡ Some p.1

  abbrev Kind : ℕ × E → Type 0
  Kind p = kind p.1 ≡ true

  abbrev Covers : ℕ → List (ℕ × E) → Type 0
  Covers n own = (k : ℕ) (e : E) → n ≤ k → slice_get whole k ≡ Some e → kind e ≡ true → 1 ≤ times k own

  pub mine-from : (before list : List E) (own : List (ℕ × E)) → whole ≡ before ++ list → AscendsFrom (length before) own → All Stand own → All Kind own → Covers (length before) own
      → gathered f before list ≡ gathered_own f whole own
  mine-from before [] [] eq asc stands kinds covers = refl
  mine-from before [] (p ∷ ps) eq asc stands kinds covers =
      let within = slice_get_within whole p.0 p.1 (head-is Stand p ps stands) in
      let len = ap (λ (l : List E). length l) eq in let none : List E = [] in let sum = length-append before none in
      absurd (omega (arith, within, len, sum, asc.0))
  mine-from before (e ∷ es) own eq asc stands kinds covers = by (λ own' a s k c. mine-from (before ++ e ∷ []) es own' (eq ∙ sym (append_assoc before (e ∷ []) es)) a s k c) (kind e) refl own asc stands kinds covers
    where
      next : List E
      next = before ++ e ∷ []

      Rest : Type 0
      Rest = (own : List (ℕ × E)) → AscendsFrom (length next) own → All Stand own → All Kind own → Covers (length next) own → gathered f next es ≡ gathered_own f whole own

      len' : length next ≡ suc (length before)
      len' = let a = length-append before (e ∷ []) in omega arith

      here : slice_get whole (length before) ≡ Some e
      here = ap (λ l. slice_get l (length before)) eq ∙ at-seam before e es

      front : take (length before) whole ≡ before
      front = ap (take (length before)) eq ∙ take-all before (e ∷ es)

      moved : (own : List (ℕ × E)) → AscendsFrom (suc (length before)) own → AscendsFrom (length next) own
      moved own asc = let P : ℕ → Type 0 = λ n. AscendsFrom n own in subst P (sym len') asc

      go : Rest → (own : List (ℕ × E)) → AscendsFrom (suc (length before)) own → All Stand own → All Kind own → Covers (suc (length before)) own → gathered f next es ≡ gathered_own f whole own
      go rest own asc stands kinds covers = rest own (moved own asc) stands kinds (λ k x le. covers k x (omega (arith, le, len')))

      -- the entry is none of this kind
      pass-by : kind e ≡ false → (own : List (ℕ × E)) → AscendsFrom (length before) own → All Stand own → All Kind own → AscendsFrom (suc (length before)) own
      pass-by no-kind [] asc stands kinds = tt
      pass-by no-kind (p ∷ ps) asc stands kinds = dite (ℕ_discrete p.0 (length before))
          (λ same.
          let there : slice_get whole (length before) ≡ Some p.1 = ap (slice_get whole) (sym same) ∙ head-is Stand p ps stands in
          let both : Some e ≡ Some p.1 = sym here ∙ there in
          let is : e ≡ p.1 = cc in
          let yes-kind : kind e ≡ true = ap kind is ∙ head-is Kind p ps kinds in
          absurd (cc))
          (λ other. (omega (arith, other, asc.0), asc.1))

      -- the entry is of this kind, and so the first of the own ones
      take-up : Rest → kind e ≡ true → (own : List (ℕ × E)) → AscendsFrom (length before) own → All Stand own → All Kind own → Covers (length before) own → f before e ++ gathered f next es ≡ gathered_own f whole own
      take-up rec is-kind [] asc stands kinds covers = absurd (omega (arith, covers (length before) e (omega arith) here is-kind))
      take-up rec is-kind (p ∷ ps) asc stands kinds covers = dite (ℕ_discrete p.0 (length before))
          (λ same.
          let there : slice_get whole (length before) ≡ Some p.1 = ap (slice_get whole) (sym same) ∙ head-is Stand p ps stands in
          let both : Some e ≡ Some p.1 = sym here ∙ there in
          let is : e ≡ p.1 = cc in
          let asc' : AscendsFrom (suc (length before)) ps = (let P : ℕ → Type 0 = λ n. AscendsFrom (suc n) ps in subst P same asc.1) in
          let rest = go rec ps asc' (tail-is Stand p ps stands) (tail-is Kind p ps kinds)
          (λ k x le at kx. let c = covers k x (omega (arith, le)) at kx in let none = one-other k p.0 (λ h. absurd (omega (arith, h, same, le))) in omega (arith, c, none)) in
          let head : f before e ≡ f (take p.0 whole) p.1 = ap (λ l. f l e) (sym front ∙ ap (λ n. take n whole) (sym same)) ∙ ap (f (take p.0 whole)) is in
          ap (λ l. l ++ gathered f next es) head ∙ ap (λ l. f (take p.0 whole) p.1 ++ l) rest)
          (λ other.
          let asc' : AscendsFrom (suc (length before)) (p ∷ ps) = (omega (arith, other, asc.0), asc.1) in
          let none = ascends-times (suc (length before)) (p ∷ ps) (length before) asc' (omega arith) in
          let some = covers (length before) e (omega arith) here is-kind in
          absurd (omega (arith, none, some)))

      by : Rest → (b : Bool) → kind e ≡ b → (own : List (ℕ × E)) → AscendsFrom (length before) own → All Stand own → All Kind own → Covers (length before) own → f before e ++ gathered f next es ≡ gathered_own f whole own
      by rec false is own asc stands kinds covers = ap (λ l. l ++ gathered f next es) (quiet before e is) ∙ go rec own (pass-by is own asc stands kinds) stands kinds (λ k x le. covers k x (omega (arith, le)))
      by rec true is own asc stands kinds covers = take-up rec is own asc stands kinds covers

module _ {A : Type 0} (P : A → Type 0) where
  pub all-right : (xs ys : List A) → All P (xs ++ ys) → All P ys
  all-right [] ys all = all
  all-right (x ∷ xs) ys all = all-right xs ys (λ k d w. all (suc k) d (omega arith))

  all-cons : (x : A) (xs : List A) → P x → All P xs → All P (x ∷ xs)
  all-cons x xs p all zero d w = p
  all-cons x xs p all (suc k) d w = all k d (omega arith)

  pub all-left : (xs ys : List A) → All P (xs ++ ys) → All P xs
  all-left [] ys all = λ k d w. absurd (omega arith)
  all-left (x ∷ xs) ys all = all-cons x xs (all 0 x (omega arith)) (all-left xs ys (λ k d w. all (suc k) d (omega arith)))

module _ {E : Type 0} where
  times-append : (k : ℕ) (xs ys : List (ℕ × E)) → times k (xs ++ ys) ≡ times k xs + times k ys
  times-append k [] ys = omega arith
  times-append k (x ∷ xs) ys = let a = times-append k xs ys in omega arith

  -- none of these entries stands at a place of this kind
  absent : (kind : E → Bool) (list : List E) (own : List (ℕ × E)) (k : ℕ) (e : E) → Stands list own → All (λ p. kind p.1 ≡ false) own → slice_get list k ≡ Some e → kind e ≡ true → times k own ≡ 0
  absent kind list [] k e stands all at is = refl
  absent kind list (p ∷ ps) k e stands all at is = dite (ℕ_discrete k p.0)
      (λ here.
      let there : slice_get list p.0 ≡ Some p.1 = stands 0 p (omega arith) in
      let both : Some e ≡ Some p.1 = sym at ∙ (ap (slice_get list) here ∙ there) in
      let same : e ≡ p.1 = cc in
      let not-kind : kind p.1 ≡ false = all 0 p (omega arith) in
      let is-kind : kind p.1 ≡ true = ap kind (sym same) ∙ is in
      absurd (cc))
      (λ other.
      let none = one-other k p.0 other in
      let rest = absent kind list ps k e (λ j d h. stands (suc j) d (omega arith)) (λ j d h. all (suc j) d (omega arith)) at is in
      omega arith)

module _ {E X : Type 0} (f : List E → E → List X) (kind : E → Bool) (quiet : (b : List E) (e : E) → kind e ≡ false → f b e ≡ []) where
  -- where all entries of a kind are among these own ones
  pub only-mine : (list : List E) (left own right : List (ℕ × E)) → IsWhole list (left ++ (own ++ right)) → AscendsFrom 0 own
      → All (λ p. kind p.1 ≡ true) own → All (λ p. kind p.1 ≡ false) left → All (λ p. kind p.1 ≡ false) right → gathered f [] list ≡ gathered_own f list own
  only-mine list left own right whole asc mine not-left not-right =
      let S : ℕ × E → Type 0 = λ p. slice_get list p.0 ≡ Some p.1 in
      let rest = all-right S left (own ++ right) whole.1 in
      mine-from f kind quiet list [] list own refl asc (all-left S own right rest) mine
      (λ k e le at is.
      let once = whole.0 k in let in-list = below-in k (length list) (slice_get_within list k e at) in
      let a = times-append k left (own ++ right) in let b = times-append k own right in
      let l = absent kind list left k e (all-left S left (own ++ right) whole.1) not-left at is in
      let r = absent kind list right k e (all-right S own right rest) not-right at is in
      omega arith)
