-- Where segments lead.
use Rattle.std.proofs.Common.{◌≡◌, ◌≢◌, ℕ, zero, suc, ◌-◌, min, Bool, true, false, cond, List, [], ◌∷◌, ◌++◌, length, take, drop, map, fold, codes, refl, sym, ap, ◌∙◌, arith}
use Rattle.std.specs.List.{AllByRecursion}
use Rattle.std.specs.Str.{bytes_eq}
use Rattle.std.proofs.lemmas.Bool.{false_from_ne_true, or_parts}
use Rattle.std.proofs.lemmas.Bool.Decides.{not_from_Decides}
use Rattle.std.proofs.lemmas.List.{append_assoc, append-nil, length-take, take-take, take_all}
use Rattle.std.proofs.lemmas.List.Sums.{fold-append}
use Rattle.std.proofs.lemmas.Slice.Eq.{bytes_eq-Decides}
use Rattle.esb_path.specs.Segments.{slash, segments, is_here, is_up, entered, walked}
use Rattle.esb_path.specs.Paths.{IsName}
use Rattle.esb_path.proofs.Cuts.{segments-append}

pub bytes_differ : (xs ys : List ℕ) → xs ≢ ys → bytes_eq xs ys ≡ false
bytes_differ xs ys ne = false_from_ne_true (bytes_eq xs ys) (λ e. ne ((bytes_eq-Decides xs ys).0 e))

-- a name leads into the folder of that name
pub entered-name : (names : List (List ℕ)) (name : List ℕ) → name ≢ [] → name ≢ codes "." → name ≢ codes ".." → entered names name ≡ names ++ name ∷ []
unfolding entered
entered-name names name not_empty not_here not_up =
    rw (bytes_differ name [] not_empty, bytes_differ name (codes ".") not_here, bytes_differ name (codes "..") not_up) refl

pub entered-empty : (names : List (List ℕ)) → entered names [] ≡ names
unfolding entered
entered-empty names = refl

pub entered-up : (names : List (List ℕ)) → entered names (codes "..") ≡ take (length names - 1) names
unfolding entered
entered-up names = refl

-- names lead one into the other
pub fold-names : (names more : List (List ℕ)) → AllByRecursion IsName more → fold entered names more ≡ names ++ more
fold-names names [] are = sym (append-nil names)
fold-names names (name ∷ more) are =
    let e = entered-name names name are.0.not_empty are.0.not_here are.0.not_up in
    ap (λ (t : List (List ℕ)). fold entered t more) e
    ∙ fold-names (names ++ name ∷ []) more are.1
    ∙ append_assoc names (name ∷ []) more

-- as many steps up as there are names in a list
pub fold-ups : (names away : List (List ℕ)) → fold entered names (map (λ _. codes "..") away) ≡ take (length names - length away) names
fold-ups names [] = sym (take_all (length names - 0) names (omega arith))
fold-ups names (name ∷ away) =
    let short : take (length names - 1) names ≡ entered names (codes "..") = sym (entered-up names) in
    ap (λ (t : List (List ℕ)). fold entered t (map (λ _. codes "..") away)) (entered-up names)
    ∙ fold-ups (take (length names - 1) names) away
    ∙ ap (λ n. take (n - length away) (take (length names - 1) names)) (length-take (length names - 1) names)
    ∙ take-take (min (length names - 1) (length names) - length away) (length names - 1) names (omega arith)
    ∙ ap (λ n. take n names) (omega arith)

-- a path behind a slash leads on
pub walked-append : (names : List (List ℕ)) (front back : List ℕ) → walked names (front ++ slash ∷ back) ≡ walked (walked names front) back
walked-append names front back = ap (fold entered names) (segments-append front back) ∙ fold-append entered names (segments front) (segments back)

module _ {X : Type 0} (P : X → Type 0) where
  pub all_append : (xs ys : List X) → AllByRecursion P xs → AllByRecursion P ys → AllByRecursion P (xs ++ ys)
  all_append [] ys h k = k
  all_append (x ∷ xs) ys h k = (h.0, all_append xs ys h.1 k)

  pub all_take : (n : ℕ) (xs : List X) → AllByRecursion P xs → AllByRecursion P (take n xs)
  all_take zero xs h = tt
  all_take (suc n) [] h = tt
  all_take (suc n) (x ∷ xs) h = (h.0, all_take n xs h.1)

  pub all_drop : (n : ℕ) (xs : List X) → AllByRecursion P xs → AllByRecursion P (drop n xs)
  all_drop zero xs h = h
  all_drop (suc n) [] h = tt
  all_drop (suc n) (x ∷ xs) h = all_drop n xs h.1

here_not : (segment : List ℕ) → is_here segment ≡ false → (segment ≢ []) × (segment ≢ codes ".")
here_not segment e =
    let parts = or_parts (bytes_eq segment []) (bytes_eq segment (codes ".")) e in
    (not_from_Decides (bytes_eq segment []) (bytes_eq-Decides segment []) parts.0, not_from_Decides (bytes_eq segment (codes ".")) (bytes_eq-Decides segment (codes ".")) parts.1)

name_from_tests : (segment : List ℕ) → AllByRecursion (λ byte. byte ≢ slash) segment → is_here segment ≡ false → is_up segment ≡ false → IsName segment
name_from_tests segment no_slash here up =
    let not_here = here_not segment here in
    record {
      no_slash = no_slash;
      not_empty = not_here.0;
      not_here = not_here.1;
      not_up = not_from_Decides (bytes_eq segment (codes "..")) (bytes_eq-Decides segment (codes "..")) up;
    }

entered_cases : (b d : Bool) (names : List (List ℕ)) (segment : List ℕ) → (b ≡ false → d ≡ false → IsName segment) → AllByRecursion IsName names
    → AllByRecursion IsName (cond b names (cond d (take (length names - 1) names) (names ++ segment ∷ [])))
entered_cases true d names segment is are = are
entered_cases false true names segment is are = all_take IsName (length names - 1) names are
entered_cases false false names segment is are = all_append IsName names (segment ∷ []) are (is refl refl, tt)

-- one segment leads from names to names
entered_names : (names : List (List ℕ)) (segment : List ℕ) → AllByRecursion (λ byte. byte ≢ slash) segment → AllByRecursion IsName names → AllByRecursion IsName (entered names segment)
unfolding entered
entered_names names segment no_slash are = entered_cases (is_here segment) (is_up segment) names segment (name_from_tests segment no_slash) are

-- segments lead from names to names
pub fold_names : (names parts : List (List ℕ)) → AllByRecursion (AllByRecursion (λ byte. byte ≢ slash)) parts → AllByRecursion IsName names → AllByRecursion IsName (fold entered names parts)
fold_names names [] no_slash are = are
fold_names names (part ∷ parts) no_slash are = fold_names (entered names part) parts no_slash.1 (entered_names names part no_slash.0 are)
