-- Fronts and backs of a text, and its segments.
use Rattle.std.proofs.Common.{◌≡◌, ◌≢◌, ℕ, ◌-◌, Bool, true, false, List, [], ◌∷◌, length, drop, take, Option, Some, None, sym, ap, refl, ◌∙◌, subst, eqb, arith}
use Rattle.std.specs.Borrow.{Bor}
use Rattle.std.specs.Option.{MatchOption, option_copied}
use Rattle.std.specs.Str.{IsCharBoundary}
use Rattle.std.specs.Str.Pattern.{FindsTextPrefix, FindsTextSuffix, StripsPrefix, StripsSuffix}
use Rattle.std.proofs.lemmas.Bool.{eqb-true}
use Rattle.std.proofs.lemmas.Str.Pattern.{starts_text, ends_text}
use Rattle.esb_flags.specs.Words.{behind, before, slash}
use Rattle.esb_flags.specs.Unbuilt.{is_folder}

pub stripped : (n s : List ℕ) (r : Option (Bor (List ℕ))) → MatchOption r (FindsTextPrefix n s None) (λ x. StripsPrefix (FindsTextPrefix n) s x.now) → option_copied r ≡ behind n s
unfolding behind
stripped n s None h = rw (sym (starts_text false n s h)) refl
stripped n s (Some x) h =
    let starts = sym (starts_text true n s (h.0, h.1, subst (λ (k : ℕ). IsCharBoundary s k) (sym h.1.0) h.1.2)) in
    rw starts (ap Some (h.2 ∙ ap (λ (k : ℕ). drop k s) h.1.0))

pub cut_back : (n s : List ℕ) (r : Option (Bor (List ℕ))) → MatchOption r (FindsTextSuffix n s None) (λ x. StripsSuffix (FindsTextSuffix n) s x.now) → option_copied r ≡ before n s
unfolding before
cut_back n s None h = rw (sym (ends_text false n s h)) refl
cut_back n s (Some x) h =
    let ends = sym (ends_text true n s (h.0, h.1, omega (arith, h.3), subst (λ (k : ℕ). IsCharBoundary s (length s - k)) (sym h.1.0) h.1.2)) in
    rw ends (ap Some (h.2 ∙ ap (λ (k : ℕ). take (length s - k) s) h.1.0))

pub not_below : (path : List ℕ) → ((rest : List ℕ) → path ≢ slash ∷ rest) → false ≡ is_folder path
not_below [] h = refl
not_below (first ∷ rest) h = elsewhere (eqb first slash) refl
  where
    elsewhere : (b : Bool) → eqb first slash ≡ b → false ≡ is_folder (first ∷ rest)
    elsewhere true e = absurd (h rest (ap (λ (n : ℕ). n ∷ rest) (eqb-true first slash e)))
    elsewhere false e = rw e refl
