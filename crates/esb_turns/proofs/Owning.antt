-- Facts on own entries, as a caller sees and makes more.
use Rattle.std.proofs.Common.{◌≡◌, ℕ, zero, suc, ◌<◌, ◌≤◌, List, [], ◌∷◌, ◌++◌, length, sym, refl, ap, ◌∙◌, subst, arith, append_assoc, append-nil, length-append, Some}
use Rattle.std.specs.Prelude.{slice_get, slice_index_or, All, take}
use mathlib.Core.List.{IsPrefix}
use Rattle.std.proofs.lemmas.Option.{slice_get_within}
use Rattle.std.proofs.lemmas.List.Elements.{All-append}
use Rattle.esb_turns.specs.Views.{Stands, IsWhole}
use Rattle.esb_turns.proofs.Prefixes.{prefix-trans, prefix-append, prefix-get}
use Rattle.esb_turns.proofs.Whole.{whole-all}
use Rattle.esb_turns.specs.OwnEntries.{Made, Stayed, EachOwn, EachIn, gathered_own}

module _ {E : Type 0} where
  pub take-front : (n : ℕ) (xs ys : List E) → n ≤ length xs → take n (xs ++ ys) ≡ take n xs
  take-front zero xs ys h = refl
  take-front (suc n) [] ys h = absurd (omega arith)
  take-front (suc n) (x ∷ xs) ys h = ap (λ l. x ∷ l) (take-front n xs ys (omega arith))

  pub take-all : (xs ys : List E) → take (length xs) (xs ++ ys) ≡ xs
  take-all [] ys = refl
  take-all (x ∷ xs) ys = ap (λ l. x ∷ l) (take-all xs ys)

  pub take-prefix : (n : ℕ) (xs ys : List E) → IsPrefix xs ys → n ≤ length xs → take n ys ≡ take n xs
  take-prefix n xs ys p h = let P : List E → Type 0 = λ l. take n l ≡ take n xs in subst P p.1 (take-front n xs p.0 h)

  pub length-prefix : (xs ys : List E) → IsPrefix xs ys → length xs ≤ length ys
  length-prefix xs ys p = let a = ap (λ (l : List E). length l) p.1 in let b = length-append xs p.0 in omega arith

  -- all that was seen before the entry was seen after it
  pub made-grew : (e : E) (g : List E → Type 0) (s : List E) (o : List (ℕ × E)) (s' : List E) (o' : List (ℕ × E)) → Made e g s o s' o' → IsPrefix s s'
  made-grew e g s o s' o' m = let P : List E → Type 0 = λ l. IsPrefix s l in subst P (sym m.now) (prefix-trans s m.before (m.before ++ e ∷ []) m.grew (prefix-append m.before (e ∷ [])))

  -- an own entry stands below the length of what was seen
  pub below : (seen : List E) (own : List (ℕ × E)) → Stands seen own → All (λ p. p.0 < length seen) own
  below seen own stands k d w = slice_get_within seen (slice_index_or own k d).0 (slice_index_or own k d).1 (stands k d w)

module _ {E : Type 0} (fact : List E → E → Type 0) where
  pub each-grown : (seen seen' : List E) (own : List (ℕ × E)) → IsPrefix seen seen' → Stands seen own → EachOwn fact seen own → EachOwn fact seen' own
  each-grown seen seen' own p stands h = record {
    each = λ k d w.
        let q = slice_index_or own k d in let in_seen = below seen own stands k d w in
        let P : List E → Type 0 = λ l. fact l q.1 in
        subst P (sym (take-prefix q.0 seen seen' p (omega arith))) (h.each k d w);
  }

  pub each-stayed : (s : List E) (o : List (ℕ × E)) (s' : List E) (o' : List (ℕ × E)) → Stayed s o s' o' → Stands s o → EachOwn fact s o → EachOwn fact s' o'
  each-stayed s o s' o' stayed stands h =
      let P : List (ℕ × E) → Type 0 = λ l. EachOwn fact s' l in subst P (sym stayed.owned) (each-grown s s' o stayed.grew stands h)

  pub each-made : (e : E) (g : List E → Type 0) (s : List E) (o : List (ℕ × E)) (s' : List E) (o' : List (ℕ × E)) → Made e g s o s' o' → Stands s o
      → ((before : List E) → IsPrefix s before → g before → fact before e) → EachOwn fact s o → EachOwn fact s' o'
  each-made e g s o s' o' m stands new h =
      let now = m.before ++ e ∷ [] in
      let grew = prefix-trans s m.before now m.grew (prefix-append m.before (e ∷ [])) in
      let last : fact (take (length m.before) now) e = (let P : List E → Type 0 = λ l. fact l e in subst P (sym (take-all m.before (e ∷ []))) (new m.before m.grew m.told)) in
      let both : EachOwn fact now (o ++ (length m.before, e) ∷ []) = record {
        each = All-append (λ (p : ℕ × E). fact (take p.0 now) p.1) o ((length m.before, e) ∷ []) (each-grown s now o grew stands h).each (λ k d w. only k d w last);
      } in
      let P : List E → Type 0 = λ l. EachOwn fact l o' in let Q : List (ℕ × E) → Type 0 = λ l. EachOwn fact now l in
      subst P (sym m.now) (subst Q (sym m.owned) both)
    where
      only : (k : ℕ) (d : ℕ × E) → k < 1 → fact (take (length m.before) (m.before ++ e ∷ [])) e
          → fact (take (slice_index_or ((length m.before, e) ∷ []) k d).0 (m.before ++ e ∷ [])) (slice_index_or ((length m.before, e) ∷ []) k d).1
      only zero d w h = h
      only (suc k) d w h = absurd (omega arith)

  -- once all entries are own entries
  pub each-whole : (list : List E) (own : List (ℕ × E)) → IsWhole list own → EachOwn fact list own → (k : ℕ) (e : E) → slice_get list k ≡ Some e → fact (take k list) e
  each-whole list own whole h k e at = whole-all (λ (p : ℕ × E). fact (take p.0 list) p.1) own list whole h.each k e at

  pub each-append : (list : List E) (own more : List (ℕ × E)) → EachOwn fact list own → EachOwn fact list more → EachOwn fact list (own ++ more)
  each-append list own more h k = record { each = All-append (λ (p : ℕ × E). fact (take p.0 list) p.1) own more h.each k.each }

  pub each-none : (list : List E) (own : List (ℕ × E)) → own ≡ [] → EachOwn fact list own
  each-none list own e = let P : List (ℕ × E) → Type 0 = λ l. EachOwn fact list l in subst P (sym e) (record { each = λ k d w. absurd (omega arith) })

module _ {E X : Type 0} (f : List E → E → List X) where
  pub gather-append : (list : List E) (own more : List (ℕ × E)) → gathered_own f list (own ++ more) ≡ gathered_own f list own ++ gathered_own f list more
  gather-append list [] more = refl
  gather-append list (p ∷ ps) more = ap (λ l. f (take p.0 list) p.1 ++ l) (gather-append list ps more) ∙ sym (append_assoc (f (take p.0 list) p.1) (gathered_own f list ps) (gathered_own f list more))

  -- a longer list gives the same
  pub gather-grown : (seen seen' : List E) (own : List (ℕ × E)) → IsPrefix seen seen' → Stands seen own → gathered_own f seen' own ≡ gathered_own f seen own
  gather-grown seen seen' [] p stands = refl
  gather-grown seen seen' (q ∷ qs) p stands =
      let within = slice_get_within seen q.0 q.1 (stands 0 q (omega arith)) in
      let rest = gather-grown seen seen' qs p (λ k d w. stands (suc k) d (omega arith)) in
      ap (λ l. f l q.1 ++ gathered_own f seen' qs) (take-prefix q.0 seen seen' p (omega arith)) ∙ ap (λ l. f (take q.0 seen) q.1 ++ l) rest

  pub gather-stayed : (s : List E) (o : List (ℕ × E)) (s' : List E) (o' : List (ℕ × E)) → Stayed s o s' o' → Stands s o → gathered_own f s' o' ≡ gathered_own f s o
  gather-stayed s o s' o' stayed stands = ap (gathered_own f s') stayed.owned ∙ gather-grown s s' o stayed.grew stands

  pub gather-made : (e : E) (g : List E → Type 0) (s : List E) (o : List (ℕ × E)) (s' : List E) (o' : List (ℕ × E)) (m : Made e g s o s' o') → Stands s o
      → gathered_own f s' o' ≡ gathered_own f s o ++ f m.before e
  gather-made e g s o s' o' m stands =
      let last = (length m.before, e) ∷ [] in
      let at : f (take (length m.before) s') e ≡ f m.before e = ap (λ l. f (take (length m.before) l) e) m.now ∙ ap (λ l. f l e) (take-all m.before (e ∷ [])) in
      let one : gathered_own f s' last ≡ f m.before e = append-nil (f (take (length m.before) s') e) ∙ at in
      ap (gathered_own f s') m.owned ∙ gather-append s' o last
      ∙ ap (λ l. l ++ gathered_own f s' last) (gather-grown s s' o (made-grew e g s o s' o' m) stands) ∙ ap (λ l. gathered_own f s o ++ l) one

-- a fact that follows from another
pub each-map : {E : Type 0} (f g : List E → E → Type 0) (seen : List E) (own : List (ℕ × E)) → ((b : List E) (e : E) → f b e → g b e) → EachOwn f seen own → EachOwn g seen own
each-map f g seen own so h = record { each = λ k d w. so (take (slice_index_or own k d).0 seen) (slice_index_or own k d).1 (h.each k d w) }

-- facts on own entries of two passes in one
module _ {E : Type 0} (fact : List E → E → Type 0) where
  pub each-joined : (xs ys zs : List E) (xo yo zo : List (ℕ × E)) → IsPrefix xs zs → IsPrefix ys zs → Stands xs xo → Stands ys yo → zo ≡ xo ++ yo → EachOwn fact xs xo → EachOwn fact ys yo → EachOwn fact zs zo
  each-joined xs ys zs xo yo zo p q sx sy is h k =
      let P : List (ℕ × E) → Type 0 = λ l. EachOwn fact zs l in
      subst P (sym is) (each-append fact zs xo yo (each-grown fact xs zs xo p sx h) (each-grown fact ys zs yo q sy k))

-- ---- facts by induction on the list

front : {E : Type 0} (k : ℕ) (xs : List E) → IsPrefix (take k xs) xs
front zero xs = (xs, refl)
front (suc k) [] = ([], refl)
front (suc k) (x ∷ xs) = let r = front k xs in (r.0, ap (λ l. x ∷ l) r.1)

front-length : {E : Type 0} (k : ℕ) (xs : List E) → length (take k xs) ≤ k
front-length zero xs = omega arith
front-length (suc k) [] = omega arith
front-length (suc k) (x ∷ xs) = let r = front-length k xs in omega arith

module _ {E : Type 0} (fact : List E → E → Type 0) (list : List E) (each : (k : ℕ) (e : E) → slice_get list k ≡ Some e → EachIn fact (take k list) → fact (take k list) e) where
  below-each : (n k : ℕ) → k < n → (e : E) → slice_get list k ≡ Some e → fact (take k list) e
  below-each zero k lt e at = absurd (omega arith)
  below-each (suc n) k lt e at = each k e at (record {
    each = λ j x there.
        let pre = front k list in
        let within = slice_get_within (take k list) j x there in let short = front-length k list in
        let P : List E → Type 0 = λ l. fact l x in
        subst P (take-prefix j (take k list) list pre (omega arith)) (below-each n j (omega arith) x (prefix-get (take k list) list j x pre there));
  })

  -- what holds of each entry where it holds of all before it holds of all
  pub each-in : EachIn fact list
  each-in = record { each = λ k e at. below-each (suc k) k (omega arith) e at }

module _ {E : Type 0} (fact : List E → E → Type 0) where
  -- the same, where each own entry meets the fact if all entries before it do
  pub each-by-induction : (list : List E) (own : List (ℕ × E)) → IsWhole list own → EachOwn (λ before e. EachIn fact before → fact before e) list own → EachIn fact list
  each-by-induction list own whole each = each-in fact list (each-whole (λ before e. EachIn fact before → fact before e) list own whole each)
