-- Reading items with white space and commas is exact.
use Rattle.std.proofs.Common.{◌≡◌, ℕ, zero, suc, ◌+◌, ◌<◌, ◌≤◌, Bool, true, false, cond, ◌||◌, ◌⊎◌, eqb, List, [], ◌∷◌, ◌++◌, length, Option, Some, None, refl, sym, ap, subst, ◌∙◌, append_assoc, arith, inl, inr}
use Rattle.std.proofs.lemmas.Bool.{eqb-true}
use Rattle.std.proofs.lemmas.List.{length-append}
use Rattle.esb_json.specs.Grammar.{Each, is_space, Spaced, Items}
use Rattle.esb_json.specs.Reading.{◌>>=◌, Reader, skip, go_on, items_at, list_from, list_at, spaced_at}
use Rattle.esb_json.proofs.Counts.{items_step}
use Rattle.esb_json.proofs.Exact.{bind_some, some_is, chosen, cond_taken, or_true, Apart, Stands, IsExact, skip_takes, skip_again, skip_apart, skip_stays}
use Rattle.esb_json.proofs.Numbers.{is_number_part, EndsNumber}

-- ---- white space

pub space_is : (P : ℕ → Type 0) → P 0x20 → P 0x09 → P 0x0A → P 0x0D → (b : ℕ) → is_space b ≡ true → P b
space_is P p q r s b h =
    elim (or_true (eqb b 0x20 || eqb b 0x09) (eqb b 0x0A || eqb b 0x0D) h) [
      | inl k ↦ elim (or_true (eqb b 0x20) (eqb b 0x09) k) [ inl e ↦ subst P (sym (eqb-true b 0x20 e)) p | inr e ↦ subst P (sym (eqb-true b 0x09 e)) q ]
      | inr k ↦ elim (or_true (eqb b 0x0A) (eqb b 0x0D) k) [ inl e ↦ subst P (sym (eqb-true b 0x0A e)) r | inr e ↦ subst P (sym (eqb-true b 0x0D e)) s ]
    ]

-- what may follow an item with its white space
abbrev pub EndsItem : List ℕ → Type 0
EndsItem rest = Apart is_space rest × EndsNumber rest

pub space_ends : (after rest : List ℕ) → Each is_space after → EndsItem rest → EndsNumber (after ++ rest)
space_ends [] rest h ends = ends.1
space_ends (b ∷ bs) rest h ends = space_is (λ k. is_number_part k ≡ false) refl refl refl refl b h.0

regroup : (a b c d : List ℕ) → a ++ (b ++ (c ++ d)) ≡ (a ++ (b ++ c)) ++ d
regroup a b c d = simp append_assoc

-- how the bytes of an item begin
abbrev pub Starts : ℕ → List ℕ → Type 0
Starts close [] = ⊥
Starts close (b ∷ rest) = (is_space b ≡ false) × (eqb b close ≡ false)

starts_apart : (close : ℕ) (bytes : List ℕ) → Starts close bytes → Apart is_space bytes
starts_apart close [] h = tt
starts_apart close (b ∷ rest) h = h.0

module _ {X : Type 0} (read : Reader X) (P : X → List ℕ → Type 0) (ends : List ℕ → Type 0) (exact : IsExact read P ends)
    (close : ℕ) (starts : (bytes : List ℕ) (x : X × List ℕ) → read bytes ≡ Some x → Starts close bytes)
    (after_ends : (after rest : List ℕ) → Each is_space after → EndsItem rest → ends (after ++ rest)) where
  abbrev pub Item : X → List ℕ → Type 0
  Item x text = Spaced (P x) text

  spaced_takes : (bytes : List ℕ) (x : X × List ℕ) → spaced_at read bytes ≡ Some x → Stands Item bytes x
  unfolding spaced_at
  spaced_takes bytes x e =
      let a = bind_some (read (skip is_space bytes)) (λ y. Some (y.0, skip is_space y.1)) x e in
      let s = skip_takes is_space bytes in
      let r = exact.takes (skip is_space bytes) a.0 a.1 in
      let t = skip_takes is_space a.0.1 in
      let whole : Stands Item bytes (a.0.0, skip is_space a.0.1) = record {
        text = s.text ++ (r.text ++ t.text);
        spelled = record { before = s.text; inner = r.text; after = t.text; space_before = s.spelled; inside = r.spelled; space_after = t.spelled; parts = refl };
        parts = s.parts ∙ ap (λ (k : List ℕ). s.text ++ k) (r.parts ∙ ap (λ (k : List ℕ). r.text ++ k) t.parts) ∙ regroup s.text r.text t.text (skip is_space a.0.1);
      } in
      subst (λ (y : X × List ℕ). Stands Item bytes y) (some_is (a.0.0, skip is_space a.0.1) x a.2) whole

  spaced_again : (x : X) (text rest : List ℕ) → Item x text → EndsItem rest → spaced_at read (text ++ rest) ≡ Some (x, rest)
  unfolding spaced_at
  spaced_again x text rest p h =
      let behind : List ℕ = p.after ++ rest in
      let grouped : text ++ rest ≡ p.before ++ (p.inner ++ behind) = ap (λ (k : List ℕ). k ++ rest) p.parts ∙ sym (regroup p.before p.inner p.after rest) in
      let reads = exact.again x p.inner behind p.inside (after_ends p.after rest p.space_after h) in
      let before : skip is_space (p.before ++ (p.inner ++ behind)) ≡ p.inner ++ behind = skip_again is_space p.before (p.inner ++ behind) p.space_before (starts_apart close (p.inner ++ behind) (starts (p.inner ++ behind) (x, behind) reads)) in
      let after : skip is_space behind ≡ rest = skip_again is_space p.after rest p.space_after h.0 in
      ap (λ (k : List ℕ). read (skip is_space k) >>= λ y. Some (y.0, skip is_space y.1)) grouped
      ∙ ap (λ (k : List ℕ). read k >>= λ y. Some (y.0, skip is_space y.1)) before
      ∙ ap (λ (o : Option (X × List ℕ)). o >>= λ y. Some (y.0, skip is_space y.1)) reads
      ∙ ap (λ (k : List ℕ). Some (x, k)) after

  pub spaced_exact : IsExact (spaced_at read) Item EndsItem
  spaced_exact = record { takes = spaced_takes; again = spaced_again }

  pub spaced_skips : (bytes : List ℕ) → spaced_at read (skip is_space bytes) ≡ spaced_at read bytes
  unfolding spaced_at
  spaced_skips bytes = ap (λ (k : List ℕ). read k >>= λ y. Some (y.0, skip is_space y.1)) (skip_stays is_space (skip is_space bytes) (skip_apart is_space bytes))

  pub spaced_opens : (bytes : List ℕ) (x : X × List ℕ) → spaced_at read bytes ≡ Some x → Starts close (skip is_space bytes)
  unfolding spaced_at
  spaced_opens bytes x e =
      let a = bind_some (read (skip is_space bytes)) (λ y. Some (y.0, skip is_space y.1)) x e in
      starts (skip is_space bytes) a.0 a.1

-- ---- items

module _ {X : Type 0} (read : Reader X) (P : X → List ℕ → Type 0) (exact : IsExact read P EndsItem) (close : ℕ)
    (no_comma : eqb close 0x2C ≡ false) (itself : eqb close close ≡ true) (closes : (rest : List ℕ) → EndsItem (close ∷ rest))
    (skips : (bytes : List ℕ) → read (skip is_space bytes) ≡ read bytes)
    (opens : (bytes : List ℕ) (x : X × List ℕ) → read bytes ≡ Some x → Starts close (skip is_space bytes)) where
  -- items and what closes them, at the front
  record ItemsAt (bytes : List ℕ) (y : List X × List ℕ) : Type 0 where
    first : X
    others : List X
    inner : List ℕ
    are : y.0 ≡ first ∷ others
    inside : Items P (first ∷ others) inner
    parts : bytes ≡ inner ++ close ∷ y.1

  one_item : (x : X) (text : List ℕ) (b : ℕ) (rest : List ℕ) → P x text → b ≡ close → ItemsAt (text ++ b ∷ rest) (x ∷ [], rest)
  one_item x text b rest p is = record { first = x; others = []; inner = text; are = refl; inside = p; parts = ap (λ (k : ℕ). text ++ k ∷ rest) is }

  more_items : (x : X) (text : List ℕ) (b : ℕ) (rest : List ℕ) (z : List X × List ℕ) → P x text → b ≡ 0x2C → ItemsAt rest z → ItemsAt (text ++ b ∷ rest) (x ∷ z.0, z.1)
  more_items x text b rest z p is o = record {
    first = x;
    others = o.first ∷ o.others;
    inner = text ++ 0x2C ∷ o.inner;
    are = ap (λ (k : List X). x ∷ k) o.are;
    inside = (text, o.inner, p, o.inside, refl);
    parts = ap (λ (k : ℕ). text ++ k ∷ rest) is ∙ ap (λ (k : List ℕ). text ++ 0x2C ∷ k) o.parts ∙ sym (append_assoc text (0x2C ∷ o.inner) (close ∷ z.1));
  }

  go_takes : (most : ℕ) → ((bytes : List ℕ) (y : List X × List ℕ) → items_at read close most bytes ≡ Some y → ItemsAt bytes y)
      → (x : X) (text after : List ℕ) (y : List X × List ℕ) → P x text → go_on (items_at read close most) close x after ≡ Some y → ItemsAt (text ++ after) y
  go_takes most before x text [] y p e = absurd cc
  go_takes most before x text (b ∷ rest) y p e =
      elim (chosen (eqb b 0x2C) (items_at read close most rest >>= λ others. Some (x ∷ others.0, others.1)) (cond (eqb b close) (Some (x ∷ [], rest)) None) (Some y) e) [
        | inl q ↦
            let c = bind_some (items_at read close most rest) (λ others. Some (x ∷ others.0, others.1)) y q.1 in
            subst (λ (z : List X × List ℕ). ItemsAt (text ++ b ∷ rest) z) (some_is (x ∷ c.0.0, c.0.1) y c.2) (more_items x text b rest c.0 p (eqb-true b 0x2C q.0) (before rest c.0 c.1))
        | inr q ↦
            let r = cond_taken (eqb b close) (Some (x ∷ [], rest)) y q.1 in
            subst (λ (z : List X × List ℕ). ItemsAt (text ++ b ∷ rest) z) (some_is (x ∷ [], rest) y r.1) (one_item x text b rest p (eqb-true b close r.0))
      ]

  items_takes : (most : ℕ) (bytes : List ℕ) (y : List X × List ℕ) → items_at read close most bytes ≡ Some y → ItemsAt bytes y
  unfolding items_at
  items_takes zero bytes y e = absurd cc
  items_takes (suc most) bytes y e =
      let a = bind_some (read bytes) (λ first. go_on (items_at read close most) close first.0 first.1) y e in
      let r = exact.takes bytes a.0 a.1 in
      subst (λ (k : List ℕ). ItemsAt k y) (sym r.parts) (go_takes most (items_takes most) a.0.0 r.text a.0.1 y r.spelled a.2)

  items_again : (x : X) (xs : List X) (inner rest : List ℕ) (most : ℕ) → Items P (x ∷ xs) inner → length xs < most → items_at read close most (inner ++ close ∷ rest) ≡ Some (x ∷ xs, rest)
  items_again x xs inner rest zero p lt = absurd (omega arith)
  items_again x [] inner rest (suc most) p lt =
      items_step read close most (inner ++ close ∷ rest) x (close ∷ rest) (exact.again x inner (close ∷ rest) p (closes rest)) ∙ rw (no_comma, itself) refl
  items_again x (y ∷ xs) inner rest (suc most) p lt =
      let behind : List ℕ = p.1 ++ close ∷ rest in
      let grouped : inner ++ close ∷ rest ≡ p.0 ++ 0x2C ∷ behind = ap (λ (k : List ℕ). k ++ close ∷ rest) p.4 ∙ append_assoc p.0 (0x2C ∷ p.1) (close ∷ rest) in
      ap (items_at read close (suc most)) grouped
      ∙ items_step read close most (p.0 ++ 0x2C ∷ behind) x (0x2C ∷ behind) (exact.again x p.0 (0x2C ∷ behind) p.2 (refl, refl))
      ∙ ap (λ (o : Option (List X × List ℕ)). o >>= λ others. Some (x ∷ others.0, others.1)) (items_again y xs p.1 rest most p.3 (omega arith))

  -- as many items at most as there are bytes are read as well
  go_fuel : (m n : ℕ) → ((bytes : List ℕ) (y : List X × List ℕ) → items_at read close m bytes ≡ Some y → length bytes ≤ n → items_at read close n bytes ≡ Some y)
      → (x : X) (after : List ℕ) (y : List X × List ℕ) → length after ≤ suc n → go_on (items_at read close m) close x after ≡ Some y → go_on (items_at read close n) close x after ≡ Some y
  go_fuel m n more x [] y le e = absurd cc
  go_fuel m n more x (b ∷ rest) y le e =
      elim (chosen (eqb b 0x2C) (items_at read close m rest >>= λ others. Some (x ∷ others.0, others.1)) (cond (eqb b close) (Some (x ∷ [], rest)) None) (Some y) e) [
        | inl q ↦
            let c = bind_some (items_at read close m rest) (λ others. Some (x ∷ others.0, others.1)) y q.1 in
            ap (λ (t : Bool). cond t (items_at read close n rest >>= λ others. Some (x ∷ others.0, others.1)) (cond (eqb b close) (Some (x ∷ [], rest)) None)) q.0
            ∙ ap (λ (o : Option (List X × List ℕ)). o >>= λ others. Some (x ∷ others.0, others.1)) (more rest c.0 c.1 (omega arith)) ∙ c.2
        | inr q ↦ ap (λ (t : Bool). cond t (items_at read close n rest >>= λ others. Some (x ∷ others.0, others.1)) (cond (eqb b close) (Some (x ∷ [], rest)) None)) q.0 ∙ q.1
      ]

  go_nonempty : (more : List ℕ → Option (List X × List ℕ)) (x : X) (after : List ℕ) (y : List X × List ℕ) → go_on more close x after ≡ Some y → 0 < length after
  go_nonempty more x [] y e = absurd cc
  go_nonempty more x (b ∷ rest) y e = omega arith

  shorter : (bytes : List ℕ) (x : X × List ℕ) → read bytes ≡ Some x → length x.1 ≤ length bytes
  shorter bytes x e =
      let s = exact.takes bytes x e in
      let len = ap length s.parts in
      omega (arith, len, length-append s.text x.1)

  items_fuel : (m n : ℕ) (bytes : List ℕ) (y : List X × List ℕ) → items_at read close m bytes ≡ Some y → length bytes ≤ n → items_at read close n bytes ≡ Some y
  unfolding items_at
  items_fuel zero n bytes y e le = absurd cc
  items_fuel (suc m) zero bytes y e le =
      let a = bind_some (read bytes) (λ first. go_on (items_at read close m) close first.0 first.1) y e in
      absurd (omega (arith, shorter bytes a.0 a.1, go_nonempty (items_at read close m) a.0.0 a.0.1 y a.2))
  items_fuel (suc m) (suc n) bytes y e le =
      let a = bind_some (read bytes) (λ first. go_on (items_at read close m) close first.0 first.1) y e in
      ap (λ (o : Option (X × List ℕ)). o >>= λ first. go_on (items_at read close n) close first.0 first.1) a.1
      ∙ go_fuel m n (items_fuel m n) a.0.0 a.0.1 y (omega (arith, shorter bytes a.0 a.1)) a.2

  -- ---- a list

  -- items or none, and what closes them, at the front
  pub record ListAt (bytes : List ℕ) (y : List X × List ℕ) : Type 0 where
    pub inner : List ℕ
    pub inside : Items P y.0 inner
    pub parts : bytes ≡ inner ++ close ∷ y.1

  items_list : (bytes : List ℕ) (y : List X × List ℕ) → ItemsAt bytes y → ListAt bytes y
  items_list bytes y o = record { inner = o.inner; inside = subst (λ (k : List X). Items P k o.inner) (sym o.are) o.inside; parts = o.parts }

  items_skip : (most : ℕ) (bytes : List ℕ) → items_at read close most (skip is_space bytes) ≡ items_at read close most bytes
  unfolding items_at
  items_skip zero bytes = refl
  items_skip (suc most) bytes = ap (λ (o : Option (X × List ℕ)). o >>= λ first. go_on (items_at read close most) close first.0 first.1) (skips bytes)

  from_takes : (bytes skipped : List ℕ) (y : List X × List ℕ) → skip is_space bytes ≡ skipped → list_from read close skipped ≡ Some y → ListAt bytes y
  from_takes bytes [] y is e = absurd cc
  from_takes bytes (b ∷ rest) y is e =
      elim (chosen (eqb b close) (Some ([], rest)) (items_at read close (length (b ∷ rest)) (b ∷ rest)) (Some y) e) [
        | inl p ↦
            let s = skip_takes is_space bytes in
            let whole : ListAt bytes ([], rest) = record {
              inner = s.text;
              inside = s.spelled;
              parts = s.parts ∙ ap (λ (k : List ℕ). s.text ++ k) (is ∙ ap (λ (k : ℕ). k ∷ rest) (eqb-true b close p.0));
            } in
            subst (λ (z : List X × List ℕ). ListAt bytes z) (some_is ([], rest) y p.1) whole
        | inr p ↦ items_list bytes y (items_takes (length (b ∷ rest)) bytes y (sym (items_skip (length (b ∷ rest)) bytes) ∙ ap (items_at read close (length (b ∷ rest))) is ∙ p.1))
      ]

  pub list_takes : (bytes : List ℕ) (y : List X × List ℕ) → list_at read close bytes ≡ Some y → ListAt bytes y
  unfolding list_at
  list_takes bytes y e = from_takes bytes (skip is_space bytes) y refl e

  opened : (bytes : List ℕ) (y : List X × List ℕ) → Starts close bytes → items_at read close (length bytes) bytes ≡ Some y → list_from read close bytes ≡ Some y
  opened [] y s e = absurd s
  opened (b ∷ rest) y s e = ap (λ (t : Bool). cond t (Some ([], rest)) (items_at read close (length (b ∷ rest)) (b ∷ rest))) s.1 ∙ e

  starts_of : (most : ℕ) (bytes : List ℕ) (y : List X × List ℕ) → items_at read close (suc most) bytes ≡ Some y → Starts close (skip is_space bytes)
  unfolding items_at
  starts_of most bytes y e =
      let a = bind_some (read bytes) (λ first. go_on (items_at read close most) close first.0 first.1) y e in
      opens bytes a.0 a.1

  pub list_again : (xs : List X) (inner rest : List ℕ) → Items P xs inner → list_at read close (inner ++ close ∷ rest) ≡ Some (xs, rest)
  unfolding list_at
  list_again [] inner rest p =
      ap (list_from read close) (skip_again is_space inner (close ∷ rest) p (closes rest).0) ∙ rw itself refl
  list_again (x ∷ xs) inner rest p =
      let whole : List ℕ = inner ++ close ∷ rest in
      let full : items_at read close (suc (length xs)) whole ≡ Some (x ∷ xs, rest) = items_again x xs inner rest (suc (length xs)) p (omega arith) in
      let skipped : items_at read close (suc (length xs)) (skip is_space whole) ≡ Some (x ∷ xs, rest) = items_skip (suc (length xs)) whole ∙ full in
      let enough : items_at read close (length (skip is_space whole)) (skip is_space whole) ≡ Some (x ∷ xs, rest) = items_fuel (suc (length xs)) (length (skip is_space whole)) (skip is_space whole) (x ∷ xs, rest) skipped (omega arith) in
      opened (skip is_space whole) (x ∷ xs, rest) (starts_of (length xs) whole (x ∷ xs, rest) full) enough
