-- What the segments of joined texts are.
use Rattle.std.proofs.Common.{◌≡◌, ◌≢◌, ℕ, ◌<◌, Bool, true, false, cond, eqb, List, [], ◌∷◌, ◌++◌, length, refl, sym, ap, ◌∙◌, arith}
use Rattle.std.specs.List.{onto_first, AllByRecursion, flat_map, join_with_byte}
use Rattle.std.proofs.lemmas.Bool.{ne_eqb, eqb-false}
use Rattle.std.proofs.lemmas.List.{append-nil}
use Rattle.std.proofs.lemmas.List.Splits.{length-slice_split}
use Rattle.esb_path.specs.Segments.{slash, segments}

onto_first-append : (x : ℕ) (parts more : List (List ℕ)) → 0 < length parts → onto_first x (parts ++ more) ≡ onto_first x parts ++ more
onto_first-append x [] more some = absurd (omega arith)
onto_first-append x (part ∷ parts) more some = refl

one_more : (b : Bool) (x : ℕ) (whole parts more : List (List ℕ)) → whole ≡ parts ++ more → 0 < length parts
    → cond b ([] ∷ whole) (onto_first x whole) ≡ cond b ([] ∷ parts) (onto_first x parts) ++ more
one_more true x whole parts more e some = ap (λ (t : List (List ℕ)). [] ∷ t) e
one_more false x whole parts more e some = ap (onto_first x) e ∙ onto_first-append x parts more some

-- a slash between two texts goes between their segments
pub segments-append : (front back : List ℕ) → segments (front ++ slash ∷ back) ≡ segments front ++ segments back
segments-append [] back = refl
segments-append (x ∷ front) back =
    one_more (eqb x slash) x (segments (front ++ slash ∷ back)) (segments front) (segments back) (segments-append front back)
    (omega (arith, length-slice_split (λ byte. eqb byte slash) front))

-- a text without a slash is one segment
pub segments_one : (name : List ℕ) → AllByRecursion (λ byte. byte ≢ slash) name → segments name ≡ name ∷ []
segments_one [] no_slash = refl
segments_one (x ∷ name) no_slash = rw (ne_eqb x slash no_slash.0, segments_one name no_slash.1) refl

-- the segments, each behind a slash, after a text without a slash
pub segments_behind : (name : List ℕ) (names : List (List ℕ)) → AllByRecursion (AllByRecursion (λ byte. byte ≢ slash)) (name ∷ names)
    → segments (name ++ flat_map (λ segment. slash ∷ segment) names) ≡ name ∷ names
segments_behind name [] no_slash = rw (append-nil name) (segments_one name no_slash.0)
segments_behind name (next ∷ names) no_slash =
    segments-append name (next ++ flat_map (λ segment. slash ∷ segment) names)
    ∙ rw (segments_one name no_slash.0, segments_behind next names no_slash.1) refl

pub join_with_byte-cons : (name : List ℕ) (names : List (List ℕ)) → join_with_byte slash (name ∷ names) ≡ name ++ flat_map (λ segment. slash ∷ segment) names
join_with_byte-cons name [] = sym (append-nil name)
join_with_byte-cons name (next ∷ names) = ap (λ (t : List ℕ). name ++ slash ∷ t) (join_with_byte-cons next names)

all_none : (b : Bool) (x : ℕ) (parts : List (List ℕ)) → (b ≡ false → x ≢ slash) → 0 < length parts → AllByRecursion (AllByRecursion (λ byte. byte ≢ slash)) parts
    → AllByRecursion (AllByRecursion (λ byte. byte ≢ slash)) (cond b ([] ∷ parts) (onto_first x parts))
all_none true x parts ne some h = (tt, h)
all_none false x [] ne some h = absurd (omega arith)
all_none false x (part ∷ parts) ne some h = ((ne refl, h.0), h.1)

-- no segment has a slash
pub no_slashes : (path : List ℕ) → AllByRecursion (AllByRecursion (λ byte. byte ≢ slash)) (segments path)
no_slashes [] = (tt, tt)
no_slashes (x ∷ path) = all_none (eqb x slash) x (segments path) (λ e. eqb-false x slash e) (omega (arith, length-slice_split (λ byte. eqb byte slash) path)) (no_slashes path)
