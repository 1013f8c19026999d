-- The first star of a key.
use Rattle.std.proofs.Common.{◌≡◌, ℕ, suc, ◌+◌, ◌<◌, ◌≤◌, Bool, true, false, cond, not, ◌||◌, ltb, List, [], ◌∷◌, length, position, Option, Some, None, unwrap_or, inl, inr, refl, sym, ◌∙◌, arith}
use Rattle.std.specs.List.{position_or_len}
use Rattle.std.proofs.lemmas.Bool.{ltb-true, lt-ltb, le-ltb, cases_lt, false≢true}
use Rattle.std.proofs.lemmas.List.{length-take-le}
use Rattle.std.proofs.lemmas.List.Sums.{prefix_len-le-length}
use Rattle.esb_exports.specs.Keys.{is_star, has_star, has_one_star, base_of, trailer_of}

same_test : (n l : ℕ) → ltb n l ≡ ltb (1 + n) (suc l)
same_test n l = elim (cases_lt n l) [ inl h ↦ lt-ltb n l h ∙ sym (lt-ltb (1 + n) (suc l) (omega arith)) | inr h ↦ le-ltb n l h ∙ sym (le-ltb (1 + n) (suc l) (omega arith)) ]

any_one : (b rest : Bool) (n l : ℕ) → rest ≡ ltb n l → (b || rest) ≡ ltb (cond (not b) (1 + n) 0) (suc l)
any_one true rest n l e = sym (lt-ltb 0 (suc l) (omega arith))
any_one false rest n l e = e ∙ same_test n l

-- a star is found before the end
pub has_star_at : (units : List ℕ) → has_star units ≡ ltb (position_or_len is_star units) (length units)
has_star_at [] = refl
has_star_at (unit ∷ units) = any_one (is_star unit) (has_star units) (position_or_len is_star units) (length units) (has_star_at units)

or_len : (b : Bool) (n l : ℕ) → b ≡ ltb n l → n ≤ l → unwrap_or (cond b (Some n) None) l ≡ n
or_len true n l e le = refl
or_len false n l e le = elim (cases_lt n l) [ inl h ↦ absurd (false≢true (e ∙ lt-ltb n l h)) | inr h ↦ omega arith ]

pub position_or : (units : List ℕ) (o : Option ℕ) (n : ℕ) → o ≡ position is_star units → n ≡ length units → unwrap_or o n ≡ length (base_of units)
position_or units o n is len =
    rw (is, len)
    (or_len (ltb (position_or_len is_star units) (length units)) (position_or_len is_star units) (length units) refl (prefix_len-le-length _ units)
    ∙ sym (length-take-le (position_or_len is_star units) units (prefix_len-le-length _ units)))

some_cases : (b : Bool) (n at : ℕ) → Some at ≡ cond b (Some n) None → (b ≡ true) × (at ≡ n)
some_cases true n at e = (refl, cc)
some_cases false n at e = cc

none_cases : (b : Bool) (n : ℕ) → None ≡ cond b (Some n) None → b ≡ false
none_cases true n e = cc
none_cases false n e = refl

pub no_star : (units : List ℕ) → None ≡ position is_star units → has_one_star units ≡ false
no_star units none =
    let e : has_star units ≡ false = has_star_at units ∙ none_cases (ltb (position_or_len is_star units) (length units)) (position_or_len is_star units) none in
    rw e refl

pub record StarAt (units : List ℕ) (at : ℕ) : Type 0 where
  pub within : at < length units
  pub is : at ≡ position_or_len is_star units
  pub some : has_star units ≡ true

pub star_at : (units : List ℕ) (at : ℕ) → Some at ≡ position is_star units → StarAt units at
star_at units at some =
    let n = position_or_len is_star units in
    let cases = some_cases (ltb n (length units)) n at some in
    record { within = omega (arith, cases.1, ltb-true n (length units) cases.0); is = cases.1; some = has_star_at units ∙ cases.0 }

pub one_star : (units : List ℕ) (b : Bool) → has_star units ≡ true → has_star (trailer_of units) ≡ b → has_one_star units ≡ not b
one_star units b some more = rw (some, more) refl
