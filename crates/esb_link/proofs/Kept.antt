-- What outputs have at each path once they are sorted by it.
use Rattle.std.proofs.Common.{◌≡◌, ◌≢◌, ℕ, zero, suc, Bool, true, false, cond, not, List, [], ◌∷◌, ◌++◌, map, Option, None, Some, Contains, slice_get, refl, sym, ap, subst, ◌∙◌, append_assoc, append-nil, true≢false, arith}
use Rattle.std.specs.Prelude.{fold}
use Rattle.std.specs.Cmp.Lexicographic.{slice_cmp}
use Rattle.std.specs.List.{AllByRecursion}
use Rattle.std.specs.Map.{lookup}
use Rattle.std.specs.Ordering.{nat_cmp, match_ordering, is_eq}
use Rattle.std.specs.Str.{bytes_eq}
use Rattle.std.specs.declared.cmp.Ordering.{Ordering}
use Rattle.std.specs.declared.cmp.Ordering.TheVariants.{Less, Equal, Greater}
use Rattle.std.proofs.lemmas.Bool.{cond-true, cond-false}
use Rattle.std.proofs.lemmas.List.Sums.{fold-append}
use Rattle.std.proofs.lemmas.Map.Text.{is_eq-slice_cmp}
use Rattle.std.proofs.lemmas.Map.Views.{Contains-from_lookup}
use Rattle.std.proofs.lemmas.Slice.Eq.{bytes_eq-Decides}
use Rattle.esb_wire.specs.Written.{put_by_key, by_key}
use Rattle.esb_link.specs.SerialLink.{contents_at, is_other, shared_from, shares_path, path_messages}

abbrev Outputs : Type 0
Outputs = List (List ℕ × List ℕ)

abbrev cmp : List ℕ → List ℕ → Ordering
cmp = slice_cmp nat_cmp

match_with : {A : Type 0} (P : A → Type 0) (o : Ordering) (a b c : A) → (o ≡ Less → P a) → (o ≡ Equal → P b) → (o ≡ Greater → P c) → P (match_ordering o a b c)
match_with P Less a b c f g h = f refl
match_with P Equal a b c f g h = g refl
match_with P Greater a b c f g h = h refl

-- whether two paths are one
same-by : (x y : List ℕ) (o : Ordering) → cmp x y ≡ o → bytes_eq x y ≡ is_eq o
same-by x y o e = sym (is_eq-slice_cmp x y) ∙ ap is_eq e

same-refl : (x : List ℕ) → bytes_eq x x ≡ true
same-refl x = (bytes_eq-Decides x x).1 refl

-- ---- one more output

put_same : (o : List ℕ × List ℕ) (sorted : Outputs) → contents_at o.0 (put_by_key sorted o) ≡ Some o.1
put_same o [] = cond-true _ _ _ (same-refl o.0)
put_same o (e ∷ es) =
    match_with (λ (l : Outputs). contents_at o.0 l ≡ Some o.1) (cmp o.0 e.0) (o ∷ e ∷ es) ((e.0, o.1) ∷ es) (e ∷ put_by_key es o)
    (λ lt. cond-true _ _ _ (same-refl o.0))
    (λ eq. cond-true _ _ _ (same-by o.0 e.0 Equal eq))
    (λ gt. cond-false _ _ _ (same-by o.0 e.0 Greater gt) ∙ put_same o es)

put_other : (path : List ℕ) (o : List ℕ × List ℕ) (sorted : Outputs) → bytes_eq path o.0 ≡ false → contents_at path (put_by_key sorted o) ≡ contents_at path sorted
put_other path o [] apart = cond-false _ _ _ apart
put_other path o (e ∷ es) apart =
    match_with (λ (l : Outputs). contents_at path l ≡ contents_at path (e ∷ es)) (cmp o.0 e.0) (o ∷ e ∷ es) ((e.0, o.1) ∷ es) (e ∷ put_by_key es o)
    (λ lt. cond-false _ _ _ apart)
    (λ eq.
    let one : o.0 ≡ e.0 = (bytes_eq-Decides o.0 e.0).0 (same-by o.0 e.0 Equal eq) in
    let far : bytes_eq path e.0 ≡ false = subst (λ (p : List ℕ). bytes_eq path p ≡ false) one apart in
    cond-false _ _ _ far ∙ sym (cond-false _ _ _ far))
    (λ gt. ap (λ (r : Option (List ℕ)). cond (bytes_eq path e.0) (Some e.1) r) (put_other path o es apart))

all_put : (P : List ℕ × List ℕ → Type 0) (o : List ℕ × List ℕ) (sorted : Outputs) → P o → AllByRecursion P sorted → AllByRecursion P (put_by_key sorted o)
all_put P o [] h all = (h, tt)
all_put P o (e ∷ es) h all =
    match_with (λ (l : Outputs). AllByRecursion P l) (cmp o.0 e.0) (o ∷ e ∷ es) ((e.0, o.1) ∷ es) (e ∷ put_by_key es o)
    (λ lt. (h, all))
    (λ eq.
    let one : o.0 ≡ e.0 = (bytes_eq-Decides o.0 e.0).0 (same-by o.0 e.0 Equal eq) in
    (subst (λ (p : List ℕ). P (p, o.1)) one h, all.1))
    (λ gt. (all.0, all_put P o es h all.1))

all_fold : (P : List ℕ × List ℕ → Type 0) (sorted outs : Outputs) → AllByRecursion P sorted → AllByRecursion P outs → AllByRecursion P (fold put_by_key sorted outs)
all_fold P sorted [] all more = all
all_fold P sorted (o ∷ os) all more = all_fold P (put_by_key sorted o) os (all_put P o sorted more.0 all) more.1

-- ---- where no path is shared

nil_parts : {X : Type 0} (xs ys : List X) → xs ++ ys ≡ [] → (xs ≡ []) × (ys ≡ [])
nil_parts [] ys e = (refl, e)
nil_parts (x ∷ xs) ys e = absurd cc

-- the path of an output, where it is shared
abbrev shared_by : Bool → List ℕ → List (List ℕ × Unit {0})
shared_by b path = cond {A = List (List ℕ × Unit {0})} b ((path, tt) ∷ []) []

not-other : (b : Bool) (path : List ℕ) → shared_by b path ≡ [] → b ≡ false
not-other true path e = absurd cc
not-other false path e = refl

kept-same : (c d : List ℕ) → not (bytes_eq c d) ≡ false → c ≡ d
kept-same c d e = (bytes_eq-Decides c d).0 (by (bytes_eq c d) e)
  where
    by : (b : Bool) → not b ≡ false → b ≡ true
    by true f = refl
    by false f = absurd (true≢false f)

-- the contents of a path stay
stays : (path c : List ℕ) (sorted outs : Outputs) → contents_at path sorted ≡ Some c → shared_from sorted outs ≡ [] → contents_at path (fold put_by_key sorted outs) ≡ Some c
stays path c sorted [] e none = e
stays path c sorted (o ∷ os) e none =
    let parts = nil_parts (shared_by (is_other (contents_at o.0 sorted) o.1) o.0) (shared_from (put_by_key sorted o) os) none in
    stays path c (put_by_key sorted o) os (by (bytes_eq path o.0) refl (not-other (is_other (contents_at o.0 sorted) o.1) o.0 parts.0)) parts.1
  where
    by : (b : Bool) → bytes_eq path o.0 ≡ b → is_other (contents_at o.0 sorted) o.1 ≡ false → contents_at path (put_by_key sorted o) ≡ Some c
    by false apart agrees = put_other path o sorted apart ∙ e
    by true same agrees =
        let one : path ≡ o.0 = (bytes_eq-Decides path o.0).0 same in
        let has : contents_at o.0 sorted ≡ Some c = subst (λ (p : List ℕ). contents_at p sorted ≡ Some c) one e in
        let alike : c ≡ o.1 = kept-same c o.1 (ap (λ (r : Option (List ℕ)). is_other r o.1) (sym has) ∙ agrees) in
        subst (λ (p : List ℕ). contents_at p (put_by_key sorted o) ≡ Some c) (sym one) (put_same o sorted ∙ ap Some (sym alike))

-- each output has its contents
has-own : (sorted outs : Outputs) (i : ℕ) (o : List ℕ × List ℕ) → slice_get outs i ≡ Some o → shared_from sorted outs ≡ [] → contents_at o.0 (fold put_by_key sorted outs) ≡ Some o.1
has-own sorted [] i o at none = absurd cc
has-own sorted (p ∷ ps) zero o at none =
    let same : p ≡ o = cc in
    let parts = nil_parts (shared_by (is_other (contents_at p.0 sorted) p.1) p.0) (shared_from (put_by_key sorted p) ps) none in
    subst (λ (q : List ℕ × List ℕ). contents_at q.0 (fold put_by_key (put_by_key sorted p) ps) ≡ Some q.1) same (stays p.0 p.1 (put_by_key sorted p) ps (put_same p sorted) parts.1)
has-own sorted (p ∷ ps) (suc i) o at none =
    let parts = nil_parts (shared_by (is_other (contents_at p.0 sorted) p.1) p.0) (shared_from (put_by_key sorted p) ps) none in
    has-own (put_by_key sorted p) ps i o at parts.1

pub each_kept : (outs : Outputs) (i : ℕ) (o : List ℕ × List ℕ) → slice_get outs i ≡ Some o → shared_from [] outs ≡ [] → Contains (by_key outs) o
each_kept outs i o at none = Contains-from_lookup {eq = bytes_eq} (λ x y e. (bytes_eq-Decides x y).0 e) o.0 o.1 (by_key outs) (has-own [] outs i o at none)

-- ---- no message of a path

some-left : {X : Type 0} (sorted : List (List ℕ × X)) (o : List ℕ × X) → put_by_key sorted o ≢ []
some-left [] o none = cc
some-left {X} (e ∷ es) o none =
    match_with (λ (l : List (List ℕ × X)). l ≡ [] → ⊥) (cmp o.0 e.0) (o ∷ e ∷ es) ((e.0, o.1) ∷ es) (e ∷ put_by_key es o) (λ h f. cc) (λ h f. cc) (λ h f. cc) none

fold-left : {X : Type 0} (sorted outs : List (List ℕ × X)) → sorted ≢ [] → fold put_by_key sorted outs ≢ []
fold-left sorted [] h = h
fold-left sorted (o ∷ os) h = fold-left (put_by_key sorted o) os (some-left sorted o)

none-sorted : {X : Type 0} (outs : List (List ℕ × X)) → by_key outs ≡ [] → outs ≡ []
none-sorted [] e = refl
none-sorted (o ∷ os) e = absurd (fold-left (put_by_key [] o) os (some-left [] o) e)

none-mapped : {X Y : Type 0} (f : X → Y) (xs : List X) → map f xs ≡ [] → xs ≡ []
none-mapped f [] e = refl
none-mapped f (x ∷ xs) e = absurd cc

pub none_shared : (outs : Outputs) → path_messages outs ≡ [] → shared_from [] outs ≡ []
none_shared outs e = none-sorted (shared_from [] outs) (none-mapped (λ (pair : List ℕ × Unit {0}). shares_path pair.0) (by_key (shared_from [] outs)) e)

-- ---- one output more, as the loop adds it

pub shared-push : (sorted outs : Outputs) (o : List ℕ × List ℕ)
    → shared_from sorted (outs ++ o ∷ []) ≡ shared_from sorted outs ++ shared_by (is_other (contents_at o.0 (fold put_by_key sorted outs)) o.1) o.0
shared-push sorted [] o = append-nil (shared_by (is_other (contents_at o.0 sorted) o.1) o.0)
shared-push sorted (p ∷ ps) o =
    let own = shared_by (is_other (contents_at p.0 sorted) p.1) p.0 in
    ap (λ (more : List (List ℕ × Unit {0})). own ++ more) (shared-push (put_by_key sorted p) ps o)
    ∙ sym (append_assoc own (shared_from (put_by_key sorted p) ps) (shared_by (is_other (contents_at o.0 (fold put_by_key (put_by_key sorted p) ps)) o.1) o.0))

-- the paths that are shared once there is one output more
pub by_key-push : (outs : Outputs) (o : List ℕ × List ℕ) (b : Bool) → is_other (contents_at o.0 (by_key outs)) o.1 ≡ b
    → by_key (shared_from [] (outs ++ o ∷ [])) ≡ cond b (put_by_key (by_key (shared_from [] outs)) (o.0, tt)) (by_key (shared_from [] outs))
by_key-push outs o b e = ap by_key (shared-push [] outs o ∙ ap (λ (t : Bool). shared_from [] outs ++ shared_by t o.0) e) ∙ by b
  where
    by : (t : Bool) → by_key (shared_from [] outs ++ shared_by t o.0) ≡ cond t (put_by_key (by_key (shared_from [] outs)) (o.0, tt)) (by_key (shared_from [] outs))
    by true = fold-append put_by_key [] (shared_from [] outs) ((o.0, tt) ∷ [])
    by false = ap by_key (append-nil (shared_from [] outs))

-- what a map tells that compares paths
pub told_by : (path : List ℕ) (sorted : Outputs) → lookup (λ (other : List ℕ). is_eq (cmp path other)) sorted ≡ contents_at path sorted
told_by path sorted = λ i. lookup (λ (other : List ℕ). is_eq-slice_cmp path other i) sorted

-- what the map told of an output's path
pub found_other : (yielded entries : Outputs) (path contents own : List ℕ) (earlier : Option (List ℕ)) (b : Bool) → entries ≡ by_key yielded → earlier ≡ lookup (λ (other : List ℕ). is_eq (cmp path other)) entries → own ≡ contents → is_other earlier own ≡ b
    → is_other (contents_at path (by_key yielded)) contents ≡ b
found_other yielded entries path contents own earlier b sorted old same is =
    let found : contents_at path (by_key yielded) ≡ earlier =
    sym (told_by path (by_key yielded)) ∙ ap (λ (es : Outputs). lookup (λ (other : List ℕ). is_eq (cmp path other)) es) (sym sorted) ∙ sym old in
    ap (λ (o : Option (List ℕ)). is_other o contents) found ∙ ap (λ (d : List ℕ). is_other earlier d) (sym same) ∙ is

-- the outputs by their paths once there is one more
pub sorted-push : (yielded : Outputs) (o : List ℕ × List ℕ) → put_by_key (by_key yielded) o ≡ by_key (yielded ++ o ∷ [])
sorted-push yielded o = sym (fold-append put_by_key [] yielded (o ∷ []))

-- each file is an output
pub each_output : (outs : Outputs) → AllByRecursion (Contains outs) (by_key outs)
each_output outs = all_fold (Contains outs) [] outs tt (along [] outs)
  where
    along : (before more : Outputs) → AllByRecursion (Contains (before ++ more)) more
    along before [] = tt
    along before (o ∷ os) = (there before, subst (λ (l : Outputs). AllByRecursion (Contains l) os) (append_assoc before (o ∷ []) os) (along (before ++ o ∷ []) os))
      where
        there : (xs : Outputs) → Contains (xs ++ o ∷ os) o
        there [] = (0, omega arith, refl)
        there (x ∷ xs) = let h = there xs in (suc h.0, omega (arith, h.1), h.2)
