-- Which member a path takes: a walk over the members keeps the closest of those that it has met.
use Rattle.std.proofs.Common.{◌≡◌, ℕ, suc, ◌<◌, ◌≤◌, Bool, true, false, cond, not, ◌&&◌, ◌||◌, ltb, eqb, ◌⊎◌, inl, inr, List, [], ◌∷◌, length, fold, find, Option, Some, None, slice_index_or, refl, sym, ap, subst, ◌∙◌, arith}
use Rattle.std.specs.List.{list_any, All, Contains}
use Rattle.std.specs.Str.{bytes_eq}
use Rattle.std.proofs.lemmas.Bool.{ltb-true, ltb-false, eqb-true, eqb-false, and_parts, and_cases, or_cases, or_parts, or_from, or_left, or_right, cases_Bool, and_left, and_right, cond-true, cond-false, both_ways, false_from_ne_true}
use Rattle.std.proofs.lemmas.List.Folds.{list_any_at}
use Rattle.esb_json.specs.declared.value.Json.{Json}
use Rattle.esb_exports.specs.Keys.{base_of, has_star, fits, is_closer, exact, closer, closest, or_else, chosen, is_exact, Takes}

abbrev Member : Type 0
Member = List ℕ × Json

-- ---- pairs of numbers, in order of the first and then of the second

abbrev below : ℕ → ℕ → ℕ → ℕ → Bool
below a b c d = ltb a c || (eqb c a && ltb b d)

below_parts : (a b c d : ℕ) → below a b c d ≡ true → (a < c) ⊎ ((a ≡ c) × (b < d))
below_parts a b c d is = elim (or_cases (ltb a c) (eqb c a && ltb b d) is) [
  | inl less ↦ inl (ltb-true a c less)
  | inr same ↦ let p = and_parts (eqb c a) (ltb b d) same in inr (sym (eqb-true c a p.0), ltb-true b d p.1)
]

not_below_parts : (a b c d : ℕ) → below a b c d ≡ false → (c ≤ a) × (a ≡ c → d ≤ b)
not_below_parts a b c d is =
    let p = or_parts (ltb a c) (eqb c a && ltb b d) is in
    (ltb-false a c p.0, λ same. elim (and_cases (eqb c a) (ltb b d) p.1) [ inl fails ↦ absurd (eqb-false c a fails (sym same)) | inr fails ↦ ltb-false b d fails ])

not_below_from : (a b c d : ℕ) → (below a b c d ≡ true → ⊥) → below a b c d ≡ false
not_below_from a b c d fails = false_from_ne_true (below a b c d) fails

back : (a b c d : ℕ) → below a b c d ≡ true → below c d a b ≡ false
back a b c d is = not_below_from c d a b (λ other. elim (below_parts a b c d is) [
  | inl p ↦ elim (below_parts c d a b other) [ inl q ↦ omega arith | inr q ↦ let e = q.0 in omega arith ]
  | inr p ↦ elim (below_parts c d a b other) [ inl q ↦ let e = p.0 in omega arith | inr q ↦ let e = p.1 in let f = q.1 in omega arith ]
])

-- `one` is not below `two`, which is not below `three`
through : (a b c d e f : ℕ) → below a b c d ≡ false → below c d e f ≡ false → below a b e f ≡ false
through a b c d e f one two = not_below_from a b e f (λ is.
    let p = not_below_parts a b c d one in
    let q = not_below_parts c d e f two in
    let p0 : c ≤ a = p.0 in
    let q0 : e ≤ c = q.0 in
    elim (below_parts a b e f is) [
      | inl r ↦ omega arith
      | inr r ↦
          let r0 : a ≡ e = r.0 in
          let r1 : b < f = r.1 in
          let p1 : d ≤ b = p.1 (omega arith) in
          let q1 : f ≤ d = q.1 (omega arith) in
          omega arith
    ])

-- ---- keys

closer_back : (a b : List ℕ) → is_closer a b ≡ true → is_closer b a ≡ false
unfolding is_closer
closer_back a b is = back (length (base_of b)) (length b) (length (base_of a)) (length a) is

closer_through : (a b c : List ℕ) → is_closer a b ≡ false → is_closer b c ≡ false → is_closer a c ≡ false
unfolding is_closer
closer_through a b c one two = through (length (base_of c)) (length c) (length (base_of b)) (length b) (length (base_of a)) (length a) two one

not_closer : (a : List ℕ) → is_closer a a ≡ false
not_closer a = false_from_ne_true (is_closer a a) (λ is. both_ways (is_closer a a) (closer_back a a is) is)

-- ---- the walk

abbrev passes : List ℕ → Member → Member → Bool
passes path one other = fits other.0 path && is_closer other.0 one.0

record Best (path : List ℕ) (first : Member) (members : List Member) : Type 0 where
  pub best : Member
  pub found : fold (closer path) (Some first) members ≡ Some best
  pub fit : fits best.0 path ≡ true
  pub from_first : is_closer first.0 best.0 ≡ false
  pub none_closer : list_any (passes path best) members ≡ false
  pub stands : (best ≡ first) ⊎ Contains members best

stands_behind : (x : Member) (xs : List Member) (best : Member) → Contains xs best → Contains (x ∷ xs) best
stands_behind x xs best at = (suc at.0, omega (arith, at.1), at.2)

stands_first : (x : Member) (xs : List Member) (best : Member) → best ≡ x → Contains (x ∷ xs) best
stands_first x xs best is = (0, omega arith, sym is)

taken : (path : List ℕ) (first x : Member) (xs : List Member) → (fits x.0 path && is_closer x.0 first.0) ≡ true → Best path x xs → Best path first (x ∷ xs)
unfolding closer
taken path first x xs is b = record {
  best = b.best;
  found = ap (λ (t : Bool). fold (closer path) (cond t (Some x) (Some first)) xs) is ∙ b.found;
  fit = b.fit;
  from_first = closer_through first.0 x.0 b.best.0 (closer_back x.0 first.0 (and_parts (fits x.0 path) (is_closer x.0 first.0) is).1) b.from_first;
  none_closer = or_from (passes path b.best x) (list_any (passes path b.best) xs) (and_right (fits x.0 path) (is_closer x.0 b.best.0) b.from_first) b.none_closer;
  stands = inr (elim b.stands [ inl is ↦ stands_first x xs b.best is | inr at ↦ stands_behind x xs b.best at ]);
}

passed : (path : List ℕ) (first x : Member) (xs : List Member) → (fits x.0 path && is_closer x.0 first.0) ≡ false → Best path first xs → Best path first (x ∷ xs)
unfolding closer
passed path first x xs is b = record {
  best = b.best;
  found = ap (λ (t : Bool). fold (closer path) (cond t (Some x) (Some first)) xs) is ∙ b.found;
  fit = b.fit;
  from_first = b.from_first;
  none_closer = or_from (passes path b.best x) (list_any (passes path b.best) xs)
      (elim (and_cases (fits x.0 path) (is_closer x.0 first.0) is) [
        | inl fails ↦ and_left (fits x.0 path) (is_closer x.0 b.best.0) fails
        | inr fails ↦ and_right (fits x.0 path) (is_closer x.0 b.best.0) (closer_through x.0 first.0 b.best.0 fails b.from_first)
      ]) b.none_closer;
  stands = elim b.stands [ inl is ↦ inl is | inr at ↦ inr (stands_behind x xs b.best at) ];
}

best_of : (path : List ℕ) (first : Member) (members : List Member) → fits first.0 path ≡ true → Best path first members
best_of path first [] fit = record { best = first; found = refl; fit = fit; from_first = not_closer first.0; none_closer = refl; stands = inl refl }
best_of path first (x ∷ xs) fit = elim (cases_Bool (fits x.0 path && is_closer x.0 first.0)) [
  | inl holds ↦ taken path first x xs holds (best_of path x xs (and_parts (fits x.0 path) (is_closer x.0 first.0) holds).0)
  | inr fails ↦ passed path first x xs fails (best_of path first xs fit)
]

record Closest (path : List ℕ) (members : List Member) : Type 0 where
  pub best : Member
  pub found : closest members path ≡ Some best
  pub fit : fits best.0 path ≡ true
  pub none_closer : list_any (passes path best) members ≡ false
  pub stands : Contains members best

abbrev fitting : List ℕ → Member → Bool
fitting path member = fits member.0 path

abbrev Fits : List ℕ → List Member → Type 0
Fits path members = Closest path members ⊎ ((closest members path ≡ None) × (list_any (fitting path) members ≡ false))

begun : (path : List ℕ) (x : Member) (xs : List Member) → fits x.0 path ≡ true → Best path x xs → Closest path (x ∷ xs)
unfolding closer
begun path x xs is b = record {
  best = b.best;
  found = ap (λ (t : Bool). fold (closer path) (cond t (Some x) None) xs) is ∙ b.found;
  fit = b.fit;
  none_closer = or_from (passes path b.best x) (list_any (passes path b.best) xs) (and_right (fits x.0 path) (is_closer x.0 b.best.0) b.from_first) b.none_closer;
  stands = elim b.stands [ inl is ↦ stands_first x xs b.best is | inr at ↦ stands_behind x xs b.best at ];
}

skipped : (path : List ℕ) (x : Member) (xs : List Member) → fits x.0 path ≡ false → Fits path xs → Fits path (x ∷ xs)
unfolding closer
skipped path x xs fails (inl b) = inl (record {
  best = b.best;
  found = ap (λ (t : Bool). fold (closer path) (cond t (Some x) None) xs) fails ∙ b.found;
  fit = b.fit;
  none_closer = or_from (passes path b.best x) (list_any (passes path b.best) xs) (and_left (fits x.0 path) (is_closer x.0 b.best.0) fails) b.none_closer;
  stands = stands_behind x xs b.best b.stands;
})
skipped path x xs fails (inr none) = inr (
  ap (λ (t : Bool). fold (closer path) (cond t (Some x) None) xs) fails ∙ none.0,
  or_from (fits x.0 path) (list_any (fitting path) xs) fails none.1,
)

fits_of : (path : List ℕ) (members : List Member) → Fits path members
fits_of path [] = inr (refl, refl)
fits_of path (x ∷ xs) = elim (cases_Bool (fits x.0 path)) [
  | inl holds ↦ inl (begun path x xs holds (best_of path x xs holds))
  | inr fails ↦ skipped path x xs fails (fits_of path xs)
]

-- ---- exact keys

abbrev same : List ℕ → Member → Bool
same path member = bytes_eq member.0 path

found_some : (path : List ℕ) (members : List Member) (member : Member) → find (same path) members ≡ Some member → (same path member ≡ true) × Contains members member
found_some path [] member is = cc
found_some path (x ∷ xs) member is = elim (cases_Bool (same path x)) [
  | inl holds ↦
      let here : Some x ≡ Some member = sym (cond-true (same path x) (Some x) (find (same path) xs) holds) ∙ is in
      let e : x ≡ member = cc in
      (ap (same path) (sym e) ∙ holds, stands_first x xs member (sym e))
  | inr fails ↦
      let r = found_some path xs member (sym (cond-false (same path x) (Some x) (find (same path) xs) fails) ∙ is) in
      (r.0, stands_behind x xs member r.1)
]

found_none : (path : List ℕ) (members : List Member) → find (same path) members ≡ None → list_any (same path) members ≡ false
found_none path [] is = refl
found_none path (x ∷ xs) is = elim (cases_Bool (same path x)) [
  | inl holds ↦ let here : Some x ≡ None = sym (cond-true (same path x) (Some x) (find (same path) xs) holds) ∙ is in cc
  | inr fails ↦ or_from (same path x) (list_any (same path) xs) fails (found_none path xs (sym (cond-false (same path x) (Some x) (find (same path) xs) fails) ∙ is))
]

-- ---- the member that a path takes

abbrev exactly : List ℕ → Member → Bool
exactly path member = is_exact member.0 path

record Exact (path : List ℕ) (members : List Member) : Type 0 where
  pub first : Member
  pub found : exact members path ≡ Some first
  pub is_it : is_exact first.0 path ≡ true
  pub stands : Contains members first

abbrev IsExact : List ℕ → List Member → Type 0
IsExact path members = Exact path members ⊎ ((exact members path ≡ None) × (list_any (exactly path) members ≡ false))

none_passes : (members : List Member) → list_any (λ (member : Member). false) members ≡ false
none_passes [] = refl
none_passes (x ∷ xs) = none_passes xs

exact_at : (path : List ℕ) (members : List Member) (first : Option Member) → has_star path ≡ false → find (same path) members ≡ first → IsExact path members
unfolding exact
exact_at path members (Some first) fails is =
    let f = found_some path members first is in
    inl (record {
      first = first;
      found = cond-false (has_star path) None (find (same path) members) fails ∙ is;
      is_it = ap (λ (t : Bool). not t && bytes_eq first.0 path) fails ∙ f.0;
      stands = f.1;
    })
exact_at path members None fails is = inr (
  cond-false (has_star path) None (find (same path) members) fails ∙ is,
  ap (λ (t : Bool). list_any (λ (member : Member). not t && bytes_eq member.0 path) members) fails ∙ found_none path members is,
)

no_exact : (path : List ℕ) (members : List Member) → has_star path ≡ true → IsExact path members
unfolding exact
no_exact path members holds = inr (
  cond-true (has_star path) None (find (same path) members) holds,
  ap (λ (t : Bool). list_any (λ (member : Member). not t && bytes_eq member.0 path) members) holds ∙ none_passes members,
)

exact_of : (path : List ℕ) (members : List Member) → IsExact path members
exact_of path members = elim (cases_Bool (has_star path)) [
  | inl holds ↦ no_exact path members holds
  | inr fails ↦ exact_at path members (find (same path) members) fails refl
]

all_fail : (p : Member → Bool) (members : List Member) → list_any p members ≡ false → All (λ (member : Member). p member ≡ false) members
all_fail p members none = λ k d within. false_from_ne_true (p (slice_index_or members k d)) (λ holds. both_ways (list_any p members) none (list_any_at p members k d within holds))

one_of : (b : Bool) (x y : Bool) → (x && y) ≡ false → x ≡ true → y ≡ false
one_of b true y none is = none
one_of b false y none is = cc

by_exact : (members : List Member) (path : List ℕ) (member : Member) → Exact path members → chosen members path ≡ Some member → Takes members path member
unfolding chosen or_else
by_exact members path member e is =
    let first : Some e.first ≡ Some member = sym (ap (λ (o : Option Member). or_else o (closest members path)) e.found) ∙ is in
    let same : e.first ≡ member = cc in
    subst (λ (m : Member). Takes members path m) same (record {
      stands = e.stands;
      goes = or_left (is_exact e.first.0 path) (fits e.first.0 path) e.is_it;
      exact_first = λ some. e.is_it;
      closest = λ fails. absurd (both_ways (is_exact e.first.0 path) fails e.is_it);
    })

by_star : (members : List Member) (path : List ℕ) (member : Member) → exact members path ≡ None → list_any (exactly path) members ≡ false → Fits path members
    → chosen members path ≡ Some member → Takes members path member
unfolding chosen or_else
by_star members path member none no_one (inr nothing) is =
    let e : None ≡ Some member = sym (ap (λ (o : Option Member). or_else o (closest members path)) none ∙ nothing.0) ∙ is in cc
by_star members path member none no_one (inl b) is =
    let found : Some b.best ≡ Some member = sym (ap (λ (o : Option Member). or_else o (closest members path)) none ∙ b.found) ∙ is in
    let same : b.best ≡ member = cc in
    subst (λ (m : Member). Takes members path m) same (record {
      stands = b.stands;
      goes = or_right (is_exact b.best.0 path) (fits b.best.0 path) b.fit;
      exact_first = λ some. absurd (both_ways (list_any (exactly path) members) no_one some);
      closest = λ fails k d within fit. one_of true (fits (slice_index_or members k d).0 path) (is_closer (slice_index_or members k d).0 b.best.0) (all_fail (passes path b.best) members b.none_closer k d within) fit;
    })

pub takes : (members : List Member) (path : List ℕ) (member : Member) → chosen members path ≡ Some member → Takes members path member
takes members path member is = elim (exact_of path members) [
  | inl e ↦ by_exact members path member e is
  | inr none ↦ by_star members path member none.0 none.1 (fits_of path members) is
]

nothing_taken : (members : List Member) (path : List ℕ) → IsExact path members → Fits path members → chosen members path ≡ None
    → All (λ (member : Member). (is_exact member.0 path || fits member.0 path) ≡ false) members
unfolding chosen or_else
nothing_taken members path (inl e) f is = let w : Some e.first ≡ None = sym (ap (λ (o : Option Member). or_else o (closest members path)) e.found) ∙ is in cc
nothing_taken members path (inr none) (inl b) is =
    let w : Some b.best ≡ None = sym (ap (λ (o : Option Member). or_else o (closest members path)) none.0 ∙ b.found) ∙ is in cc
nothing_taken members path (inr none) (inr nothing) is = λ k d within.
    or_from (is_exact (slice_index_or members k d).0 path) (fits (slice_index_or members k d).0 path)
    (all_fail (exactly path) members none.1 k d within) (all_fail (fitting path) members nothing.1 k d within)

pub takes_none : (members : List Member) (path : List ℕ) → chosen members path ≡ None → All (λ (member : Member). (is_exact member.0 path || fits member.0 path) ≡ false) members
takes_none members path is = nothing_taken members path (exact_of path members) (fits_of path members) is
