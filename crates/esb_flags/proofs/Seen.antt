-- Texts that differ, as a loop that keeps what it has seen finds.
use Rattle.std.proofs.Common.{◌≡◌, ℕ, Bool, true, false, not, ◌&&◌, ◌||◌, cond, List, [], ◌∷◌, Option, Some, refl, sym, ap, ◌∙◌, arith}
use Rattle.std.specs.List.{list_all, list_any, AllByRecursion, IsDistinct}
use Rattle.std.specs.Option.{is_some}
use Rattle.std.specs.Str.{bytes_eq}
use Rattle.std.proofs.lemmas.Bool.{or_parts, and_parts, not-true}
use Rattle.std.proofs.lemmas.Map.Keys.{IsDistinct-cons, IsDistinct-from_apart}
use Rattle.esb_flags.specs.Unbuilt.{all_differ}

-- the others were not seen, and differ
abbrev pub fresh : (List ℕ → Bool) → List (List ℕ) → Bool
fresh seen others = list_all (λ q. not (seen q)) others && all_differ others

bools : (e s a n : Bool) → (not (cond e true s) && (a && not n)) ≡ ((not s && a) && not (e || n))
bools true true true n = refl
bools true true false n = refl
bools true false true n = refl
bools true false false n = refl
bools false true a n = refl
bools false false a n = refl

parted : (seen now : List ℕ → Bool) (p : List ℕ) (others : List (List ℕ)) → ((q : List ℕ) → now q ≡ cond (bytes_eq p q) true (seen q))
    → list_all (λ q. not (now q)) others ≡ (list_all (λ q. not (seen q)) others && not (list_any (bytes_eq p) others))
parted seen now p [] h = refl
parted seen now p (q ∷ others) h =
    rw (h q, parted seen now p others h) (bools (bytes_eq p q) (seen q) (list_all (λ r. not (seen r)) others) (list_any (bytes_eq p) others))

and_assoc : (a b c : Bool) → ((a && b) && c) ≡ (a && (b && c))
and_assoc true b c = refl
and_assoc false b c = refl

pub goes_on : (seen now : List ℕ → Bool) (p : List ℕ) (others : List (List ℕ)) (total : Bool) → seen p ≡ false → ((q : List ℕ) → now q ≡ cond (bytes_eq p q) true (seen q))
    → fresh seen (p ∷ others) ≡ total → fresh now others ≡ total
goes_on seen now p others total unseen h so_far =
    let one : fresh seen (p ∷ others) ≡ (list_all (λ q. not (seen q)) others && (not (list_any (bytes_eq p) others) && all_differ others)) = rw unseen refl in
    ap (λ (b : Bool). b && all_differ others) (parted seen now p others h)
    ∙ and_assoc (list_all (λ q. not (seen q)) others) (not (list_any (bytes_eq p) others)) (all_differ others)
    ∙ sym one ∙ so_far

pub seen_twice : (seen : List ℕ → Bool) (p : List ℕ) (others : List (List ℕ)) (total : Bool) → seen p ≡ true → fresh seen (p ∷ others) ≡ total → false ≡ total
seen_twice seen p others total twice so_far =
    let one : fresh seen (p ∷ others) ≡ false = rw twice refl in
    sym one ∙ so_far

none_seen : (seen : List ℕ → Bool) (others : List (List ℕ)) → ((q : List ℕ) → seen q ≡ false) → list_all (λ q. not (seen q)) others ≡ true
none_seen seen [] h = refl
none_seen seen (q ∷ others) h = rw (h q) (none_seen seen others h)

pub begins : (seen : List ℕ → Bool) (others : List (List ℕ)) → ((q : List ℕ) → seen q ≡ false) → fresh seen others ≡ all_differ others
begins seen others h = rw (none_seen seen others h) refl

pub is_some-cond : {X : Type 0} (b : Bool) (x : X) (o : Option X) → is_some (cond b (Some x) o) ≡ cond b true (is_some o)
is_some-cond true x o = refl
is_some-cond false x o = refl

-- ---- the test, as a fact

none_equal : (p : List ℕ) (others : List (List ℕ)) → list_any (bytes_eq p) others ≡ false → AllByRecursion (λ q. bytes_eq p q ≡ false) others
none_equal p [] e = tt
none_equal p (q ∷ others) e =
    let parts = or_parts (bytes_eq p q) (list_any (bytes_eq p) others) e in
    (parts.0, none_equal p others parts.1)

pub IsDistinct-from_test : (ps : List (List ℕ)) → all_differ ps ≡ true → IsDistinct bytes_eq ps
IsDistinct-from_test [] e = IsDistinct-from_apart bytes_eq [] (λ i j d lt short. absurd (omega arith))
IsDistinct-from_test (p ∷ ps) e =
    let parts = and_parts (not (list_any (bytes_eq p) ps)) (all_differ ps) e in
    IsDistinct-cons bytes_eq p ps (none_equal p ps (not-true (list_any (bytes_eq p) ps) parts.0)) (IsDistinct-from_test ps parts.1)
