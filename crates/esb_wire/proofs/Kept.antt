-- Bytes that stay at the front, and a word that is written over four of them.
use Rattle.std.proofs.Common.{◌≡◌, ℕ, suc, ◌+◌, ◌≤◌, List, [], ◌∷◌, ◌++◌, length, ◌-◌, take, drop, Result, OnErr, refl, sym, ap, ◌∙◌, append_assoc, arith}
use Rattle.std.proofs.Math.ListN.{set}
use Rattle.std.proofs.lemmas.List.{append-nil, take_at, drop_at, length-append}
use Rattle.std.proofs.lemmas.List.Edits.{sets-eq}
use Rattle.std.proofs.lemmas.Result.{on_err_weaker}
use Rattle.esb_wire.specs.Begins.{Begins}

pub kept_same : (old new : List ℕ) → new ≡ old → Begins old new
kept_same old new e = record { rest = []; is = e ∙ sym (append-nil old) }

pub kept_part : (old new part : List ℕ) → new ≡ old ++ part → Begins old new
kept_part old new part e = record { rest = part; is = e }

pub kept_after : (old mid new : List ℕ) → Begins old mid → Begins mid new → Begins old new
kept_after old mid new one other = record {
  rest = one.rest ++ other.rest;
  is = other.is ∙ ap (λ (t : List ℕ). t ++ other.rest) one.is ∙ append_assoc old one.rest other.rest;
}

pub kept_on_err : {T E : Type 0} (r : Result T E) (old mid new part : List ℕ) → mid ≡ old ++ part → OnErr r (Begins mid new) → OnErr r (Begins old new)
kept_on_err r old mid new part e failed = on_err_weaker r (kept_after old mid new (kept_part old mid part e)) failed

pub kept_on_err_same : {T E : Type 0} (r : Result T E) (old mid new part : List ℕ) → mid ≡ old ++ part → OnErr r (new ≡ mid) → OnErr r (Begins old new)
kept_on_err_same r old mid new part e failed =
    on_err_weaker r (λ same. kept_part old new part (same ∙ e)) failed

pub cut_back : (old new : List ℕ) → Begins old new → take (length old) new ≡ old
cut_back old new begins = ap (take (length old)) begins.is ∙ take_at old begins.rest (length old) refl

-- four writes in a row
pub four_set : (bytes : List ℕ) (at a b c d : ℕ) → at + 4 ≤ length bytes → set (set (set (set bytes at a) (at + 1) b) (at + 2) c) (at + 3) d ≡ take at bytes ++ (a ∷ b ∷ c ∷ d ∷ []) ++ drop (at + 4) bytes
four_set bytes at a b c d short =
    let one : at + 1 ≡ suc at = omega arith in
    let two : at + 2 ≡ suc (suc at) = omega arith in
    let three : at + 3 ≡ suc (suc (suc at)) = omega arith in
    rw (one, two, three) (sets-eq (a ∷ b ∷ c ∷ d ∷ []) bytes at short)

pub four_written : (old one two three four : List ℕ) (at a b c d : ℕ) → one ≡ set old at a → two ≡ set one (at + 1) b → three ≡ set two (at + 2) c → four ≡ set three (at + 3) d → at + 4 ≤ length old → four ≡ take at old ++ (a ∷ b ∷ c ∷ d ∷ []) ++ drop (at + 4) old
four_written old one two three four at a b c d e1 e2 e3 e4 short =
    let to_two = e2 ∙ ap (λ (t : List ℕ). set t (at + 1) b) e1 in
    let to_three = e3 ∙ ap (λ (t : List ℕ). set t (at + 2) c) to_two in
    e4 ∙ ap (λ (t : List ℕ). set t (at + 3) d) to_three ∙ four_set old at a b c d short

-- a word over the four bytes that stood in its place
pub patched : (old zero rest mid new word : List ℕ) (at : ℕ) → at ≡ length old → length zero ≡ 4 → mid ≡ (old ++ zero) ++ rest → new ≡ take at mid ++ word ++ drop (at + 4) mid → new ≡ old ++ (word ++ rest)
patched old zero rest mid new word at is four whole written =
    let front : take at mid ≡ old = ap (take at) (whole ∙ append_assoc old zero rest) ∙ take_at old (zero ++ rest) at (sym is) in
    let end : drop (at + 4) mid ≡ rest = ap (drop (at + 4)) whole ∙ drop_at (old ++ zero) rest (at + 4) (omega (arith, length-append old zero)) in
    written ∙ ap (λ (t : List ℕ). t ++ word ++ drop (at + 4) mid) front ∙ ap (λ (t : List ℕ). old ++ word ++ t) end ∙ append_assoc old word rest

-- how long what stands behind the word is
pub rest_len : (old zero rest mid : List ℕ) (at len : ℕ) → at ≡ length old → length zero ≡ 4 → mid ≡ (old ++ zero) ++ rest → len ≡ length mid → len - at - 4 ≡ length rest
rest_len old zero rest mid at len is four whole is_len =
    omega (arith, is, four, is_len, ap length whole, length-append (old ++ zero) rest, length-append old zero)
