-- Reading so many, as a loop does.
use Rattle.std.proofs.Common.{◌≡◌, ℕ, zero, suc, ◌-◌, ◌+◌, ◌≤◌, ◌<◌, Bool, true, false, cond, eqb, List, [], ◌∷◌, ◌++◌, length, take, Option, Some, None, refl, sym, ap, ◌∙◌, append_assoc, arith, inl, inr}
use Rattle.std.specs.Char.Escape.{encode_utf16}
use Rattle.std.specs.Prelude.{IsUtf8}
use Rattle.std.specs.Str.{is_utf8}
use Rattle.std.proofs.lemmas.Bool.{eqb-true, false_from_ne_true}
use Rattle.std.proofs.lemmas.List.{append-nil}
use Rattle.std.proofs.lemmas.Str.{IsUtf8-from_is_utf8, is_utf8-from_IsUtf8}
use Rattle.esb_json.specs.declared.stop.Stop.{Stop}
use Rattle.esb_json.specs.declared.stop.Stop.TheVariants as stop
use Rattle.esb_json.specs.Reading.{◌>>=◌, Stops, Reader, past_number, number_at, character_at, units_at, go_on, items_at}
use Rattle.esb_json.proofs.Exact.{decided}

-- ---- a number's spelling

pub number_at-utf8 : (bytes rest text : List ℕ) (n : ℕ) → past_number bytes ≡ Some rest → n ≡ length bytes - length rest → text ≡ take n bytes → IsUtf8 (take n bytes) → number_at bytes ≡ Some (text, rest)
unfolding number_at
number_at-utf8 bytes rest text n read n_is text_is utf8 = rw (read, ← n_is, is_utf8-from_IsUtf8 (take n bytes) utf8, ← text_is) refl

pub number_at-other : (bytes rest : List ℕ) (n : ℕ) → past_number bytes ≡ Some rest → n ≡ length bytes - length rest → (IsUtf8 (take n bytes) → ⊥) → number_at bytes ≡ None
unfolding number_at
number_at-other bytes rest n read n_is other = rw (read, ← n_is, false_from_ne_true (is_utf8 (take n bytes)) (λ e. other (IsUtf8-from_is_utf8 (take n bytes) e))) refl

-- ---- what was read before, and what is still read

abbrev pub with_front : {X : Type 0} → List X → Option (List X × List ℕ) → Option (List X × List ℕ)
with_front front read = read >>= λ x. Some (front ++ x.0, x.1)

regroup : {X : Type 0} (front more : List X) (read : Option (List X × List ℕ)) → with_front front (read >>= λ x. Some (more ++ x.0, x.1)) ≡ with_front (front ++ more) read
regroup {X} front more (Some x) = ap (λ (xs : List X). Some (xs, x.1)) (sym (append_assoc front more x.0))
regroup front more None = refl

-- ---- the characters of a string

abbrev quote : ℕ
quote = 0x22

pub units_step : (most b : ℕ) (rest : List ℕ) (x : ℕ × List ℕ) → (b ≡ quote → ⊥) → character_at b rest ≡ Some x → units_at (suc most) (b ∷ rest) ≡ (units_at most x.1 >>= λ others. Some (encode_utf16 x.0 ++ others.0, others.1))
unfolding units_at
units_step most b rest x other e = rw (false_from_ne_true (eqb b quote) (λ p. other (eqb-true b quote p)), e) refl

pub characters_go_on : (front : List ℕ) (count i : ℕ) (bytes : List ℕ) (b : ℕ) (rest : List ℕ) (code : ℕ) (after : List ℕ) (total : Option (List ℕ × List ℕ)) → i < count → bytes ≡ b ∷ rest → (b ≡ quote → ⊥) → character_at b rest ≡ Some (code, after)
    → with_front front (units_at (count - i) bytes) ≡ total → with_front (front ++ encode_utf16 code) (units_at (count - (i + 1)) after) ≡ total
characters_go_on front count i bytes b rest code after total lt are other h so_far =
    let k : count - i ≡ suc (count - (i + 1)) = omega arith in
    let one : with_front front (units_at (count - i) bytes) ≡ with_front (front ++ encode_utf16 code) (units_at (count - (i + 1)) after) = rw (k, are, units_step (count - (i + 1)) b rest (code, after) other h) (regroup front (encode_utf16 code) (units_at (count - (i + 1)) after)) in
    sym one ∙ so_far

units_none : (most b : ℕ) (rest : List ℕ) → (b ≡ quote → ⊥) → character_at b rest ≡ None → units_at (suc most) (b ∷ rest) ≡ None
unfolding units_at
units_none most b rest other e = rw (false_from_ne_true (eqb b quote) (λ p. other (eqb-true b quote p)), e) refl

pub characters_stop : (e : Stop) (front : List ℕ) (count i : ℕ) (bytes : List ℕ) (b : ℕ) (rest : List ℕ) (total : Option (List ℕ × List ℕ)) → i < count → bytes ≡ b ∷ rest → (b ≡ quote → ⊥) → Stops e (character_at b rest)
    → with_front front (units_at (count - i) bytes) ≡ total → Stops e total
characters_stop stop.Memory front count i bytes b rest total lt are other h so_far = tt
characters_stop (stop.Unread left) front count i bytes b rest total lt are other h so_far =
    let k : count - i ≡ suc (count - (i + 1)) = omega arith in
    let one : with_front front (units_at (count - i) bytes) ≡ None = rw (k, are, units_none (count - (i + 1)) b rest other h) refl in
    sym so_far ∙ one

units_nil : (most : ℕ) (bytes : List ℕ) → length bytes ≡ 0 → units_at most bytes ≡ None
unfolding units_at
units_nil zero bytes h = refl
units_nil (suc most) [] h = refl
units_nil (suc most) (b ∷ rest) h = absurd (omega arith)

pub characters_short : (front : List ℕ) (count i : ℕ) (bytes : List ℕ) (total : Option (List ℕ × List ℕ)) → length bytes ≡ 0 → with_front front (units_at (count - i) bytes) ≡ total → total ≡ None
characters_short front count i bytes total h so_far =
    let one : with_front front (units_at (count - i) bytes) ≡ None = rw (units_nil (count - i) bytes h) refl in
    sym so_far ∙ one

pub characters_done : (front : List ℕ) (count i : ℕ) (bytes : List ℕ) (b : ℕ) (after : List ℕ) (total : Option (List ℕ × List ℕ)) → i < count → bytes ≡ b ∷ after → b ≡ quote
    → with_front front (units_at (count - i) bytes) ≡ total → total ≡ Some (front, after)
unfolding units_at
characters_done front count i bytes b after total lt are is so_far =
    let k : count - i ≡ suc (count - (i + 1)) = omega arith in
    let one : with_front front (units_at (count - i) bytes) ≡ Some (front, after) = rw (k, are, is) (ap (λ (xs : List ℕ). Some (xs, after)) (append-nil front)) in
    sym so_far ∙ one

pub characters_out : (front : List ℕ) (count i : ℕ) (bytes : List ℕ) (total : Option (List ℕ × List ℕ)) → count ≤ i → with_front front (units_at (count - i) bytes) ≡ total → total ≡ None
unfolding units_at
characters_out front count i bytes total le so_far =
    let k : count - i ≡ 0 = omega arith in
    let one : with_front front (units_at (count - i) bytes) ≡ None = rw k refl in
    sym so_far ∙ one

-- ---- the items of a list

module _ {X : Type 0} (read : Reader X) (close : ℕ) where
  pub items_step : (most : ℕ) (bytes : List ℕ) (x : X) (after : List ℕ) → read bytes ≡ Some (x, after) → items_at read close (suc most) bytes ≡ go_on (items_at read close most) close x after
  unfolding items_at
  items_step most bytes x after e = rw e refl

  pub items_go_on : (front : List X) (count i : ℕ) (bytes : List ℕ) (x : X) (after : List ℕ) (b : ℕ) (more : List ℕ) (total : Option (List X × List ℕ)) → i < count → read bytes ≡ Some (x, after) → after ≡ b ∷ more → b ≡ 0x2C
      → with_front front (items_at read close (count - i) bytes) ≡ total → with_front (front ++ x ∷ []) (items_at read close (count - (i + 1)) more) ≡ total
  items_go_on front count i bytes x after b more total lt h are is so_far =
      let k : count - i ≡ suc (count - (i + 1)) = omega arith in
      let one : with_front front (items_at read close (count - i) bytes) ≡ with_front (front ++ x ∷ []) (items_at read close (count - (i + 1)) more) = rw (k, items_step (count - (i + 1)) bytes x after h, are, is) (regroup front (x ∷ []) (items_at read close (count - (i + 1)) more)) in
      sym one ∙ so_far

  pub items_done : (front : List X) (count i : ℕ) (bytes : List ℕ) (x : X) (after : List ℕ) (b : ℕ) (rest : List ℕ) (total : Option (List X × List ℕ)) → i < count → eqb close 0x2C ≡ false → eqb close close ≡ true → read bytes ≡ Some (x, after) → after ≡ b ∷ rest → b ≡ close
      → with_front front (items_at read close (count - i) bytes) ≡ total → total ≡ Some (front ++ x ∷ [], rest)
  items_done front count i bytes x after b rest total lt comma same h are is so_far =
      let k : count - i ≡ suc (count - (i + 1)) = omega arith in
      let one : with_front front (items_at read close (count - i) bytes) ≡ Some (front ++ x ∷ [], rest) = rw (k, items_step (count - (i + 1)) bytes x after h, are, is, comma, same) refl in
      sym so_far ∙ one

  go_on_none : (more : List ℕ → Option (List X × List ℕ)) (x : X) (b : ℕ) (rest : List ℕ) → (b ≡ 0x2C → ⊥) → (b ≡ close → ⊥) → go_on more close x (b ∷ rest) ≡ None
  go_on_none more x b rest comma end = rw (false_from_ne_true (eqb b 0x2C) (λ p. comma (eqb-true b 0x2C p)), false_from_ne_true (eqb b close) (λ p. end (eqb-true b close p))) refl

  pub items_fail : (front : List X) (count i : ℕ) (bytes : List ℕ) (x : X) (after : List ℕ) (b : ℕ) (rest : List ℕ) (total : Option (List X × List ℕ)) → i < count → read bytes ≡ Some (x, after) → after ≡ b ∷ rest → (b ≡ 0x2C → ⊥) → (b ≡ close → ⊥)
      → with_front front (items_at read close (count - i) bytes) ≡ total → total ≡ None
  items_fail front count i bytes x after b rest total lt h are comma end so_far =
      let k : count - i ≡ suc (count - (i + 1)) = omega arith in
      let one : with_front front (items_at read close (count - i) bytes) ≡ None = rw (k, items_step (count - (i + 1)) bytes x after h, are, go_on_none (items_at read close (count - (i + 1))) x b rest comma end) refl in
      sym so_far ∙ one

  go_on_nil : (more : List ℕ → Option (List X × List ℕ)) (x : X) (after : List ℕ) → length after ≡ 0 → go_on more close x after ≡ None
  go_on_nil more x [] h = refl
  go_on_nil more x (b ∷ rest) h = absurd (omega arith)

  pub items_short : (front : List X) (count i : ℕ) (bytes : List ℕ) (x : X) (after : List ℕ) (total : Option (List X × List ℕ)) → i < count → read bytes ≡ Some (x, after) → length after ≡ 0
      → with_front front (items_at read close (count - i) bytes) ≡ total → total ≡ None
  items_short front count i bytes x after total lt h short so_far =
      let k : count - i ≡ suc (count - (i + 1)) = omega arith in
      let one : with_front front (items_at read close (count - i) bytes) ≡ None = rw (k, items_step (count - (i + 1)) bytes x after h, go_on_nil (items_at read close (count - (i + 1))) x after short) refl in
      sym so_far ∙ one

  items_none : (most : ℕ) (bytes : List ℕ) → read bytes ≡ None → items_at read close (suc most) bytes ≡ None
  unfolding items_at
  items_none most bytes e = rw e refl

  pub items_stop : (e : Stop) (front : List X) (count i : ℕ) (bytes : List ℕ) (total : Option (List X × List ℕ)) → i < count → Stops e (read bytes)
      → with_front front (items_at read close (count - i) bytes) ≡ total → Stops e total
  items_stop stop.Memory front count i bytes total lt h so_far = tt
  items_stop (stop.Unread left) front count i bytes total lt h so_far =
      let k : count - i ≡ suc (count - (i + 1)) = omega arith in
      let one : with_front front (items_at read close (count - i) bytes) ≡ None = rw (k, items_none (count - (i + 1)) bytes h) refl in
      sym so_far ∙ one

  pub items_out : (front : List X) (count i : ℕ) (bytes : List ℕ) (total : Option (List X × List ℕ)) → count ≤ i → with_front front (items_at read close (count - i) bytes) ≡ total → total ≡ None
  unfolding items_at
  items_out front count i bytes total le so_far =
      let k : count - i ≡ 0 = omega arith in
      let one : with_front front (items_at read close (count - i) bytes) ≡ None = rw k refl in
      sym so_far ∙ one
