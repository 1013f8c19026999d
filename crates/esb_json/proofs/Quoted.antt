-- Reading a string is exact.
use Rattle.std.proofs.Common.{◌≡◌, ℕ, zero, suc, ◌+◌, ◌<◌, ◌≤◌, Bool, true, false, cond, eqb, List, [], ◌∷◌, ◌++◌, length, Option, Some, None, refl, sym, ap, subst, ◌∙◌, append_assoc, arith, inl, inr}
use Rattle.std.specs.Char.Escape.{encode_utf16}
use Rattle.std.specs.List.{flat_map}
use Rattle.std.proofs.lemmas.Bool.{eqb-true}
use Rattle.std.proofs.lemmas.List.{length-append}
use Rattle.std.proofs.lemmas.List.Concat.{flat_map-cons}
use Rattle.esb_json.specs.Grammar.{IsCharacter, Characters, HasUnits, IsString}
use Rattle.esb_json.specs.Reading.{◌>>=◌, past, character_at, units_at, string_at, name_at}
use Rattle.esb_json.proofs.Codes.{Rereads, character_takes, character_reads}
use Rattle.esb_json.proofs.Counts.{units_step}
use Rattle.esb_json.proofs.Exact.{bind_some, some_is, chosen, Stands, IsExact, past_takes, past_again}

-- what stands behind a quotation mark, and the one that ends it
record Body (bytes : List ℕ) (x : List ℕ × List ℕ) : Type 0 where
  inner : List ℕ
  has : HasUnits x.0 inner
  parts : bytes ≡ inner ++ 0x22 ∷ x.1

body_nil : (b : ℕ) (rest : List ℕ) → b ≡ 0x22 → Body (b ∷ rest) ([], rest)
body_nil b rest is = record { inner = []; has = record { characters = []; written = refl; units_are = refl }; parts = ap (λ (k : ℕ). k ∷ rest) is }

body_cons : (bytes : List ℕ) (first : ℕ × List ℕ) (others : List ℕ × List ℕ) → Stands IsCharacter bytes first → Body first.1 others → Body bytes (encode_utf16 first.0 ++ others.0, others.1)
body_cons bytes first others s o = record {
  inner = s.text ++ o.inner;
  has = record {
    characters = first.0 ∷ o.has.characters;
    written = (s.text, o.inner, s.spelled, o.has.written, refl);
    units_are = ap (λ (k : List ℕ). encode_utf16 first.0 ++ k) o.has.units_are ∙ sym (flat_map-cons encode_utf16 first.0 o.has.characters);
  };
  parts = s.parts ∙ ap (λ (k : List ℕ). s.text ++ k) o.parts ∙ sym (append_assoc s.text o.inner (0x22 ∷ others.1));
}

units_takes : (most : ℕ) (bytes : List ℕ) (x : List ℕ × List ℕ) → units_at most bytes ≡ Some x → Body bytes x
unfolding units_at
units_takes zero bytes x e = absurd cc
units_takes (suc most) [] x e = absurd cc
units_takes (suc most) (b ∷ rest) x e =
    elim (chosen (eqb b 0x22) (Some ([], rest)) (character_at b rest >>= λ first. (units_at most first.1 >>= λ others. Some (encode_utf16 first.0 ++ others.0, others.1))) (Some x) e) [
      | inl p ↦ subst (λ (y : List ℕ × List ℕ). Body (b ∷ rest) y) (some_is ([], rest) x p.1) (body_nil b rest (eqb-true b 0x22 p.0))
      | inr p ↦
          let a = bind_some (character_at b rest) (λ first. units_at most first.1 >>= λ others. Some (encode_utf16 first.0 ++ others.0, others.1)) x p.1 in
          let c = bind_some (units_at most a.0.1) (λ others. Some (encode_utf16 a.0.0 ++ others.0, others.1)) x a.2 in
          subst (λ (y : List ℕ × List ℕ). Body (b ∷ rest) y) (some_is (encode_utf16 a.0.0 ++ c.0.0, c.0.1) x c.2)
          (body_cons (b ∷ rest) a.0 c.0 (character_takes b rest a.0 a.1) (units_takes most a.0.1 c.0 c.1))
    ]

units_done : (most : ℕ) (rest : List ℕ) → units_at (suc most) (0x22 ∷ rest) ≡ Some ([], rest)
unfolding units_at
units_done most rest = refl

units_again : (characters inner rest : List ℕ) (most : ℕ) → Characters characters inner → length characters < most → units_at most (inner ++ 0x22 ∷ rest) ≡ Some (flat_map encode_utf16 characters, rest)
units_again characters inner rest zero w lt = absurd (omega arith)
units_again [] inner rest (suc most) w lt = rw w (units_done most rest)
units_again (c ∷ cs) inner rest (suc most) w lt =
    let q : List ℕ = 0x22 ∷ rest in
    let r = character_reads c w.0 (w.1 ++ q) w.2 in
    let grouped : inner ++ q ≡ r.first ∷ (r.tail ++ (w.1 ++ q)) = ap (λ (k : List ℕ). k ++ q) w.4 ∙ append_assoc w.0 w.1 q ∙ ap (λ (k : List ℕ). k ++ (w.1 ++ q)) r.parts in
    ap (units_at (suc most)) grouped
    ∙ units_step most r.first (r.tail ++ (w.1 ++ q)) (c, w.1 ++ q) r.no_quote r.reads
    ∙ ap (λ (o : Option (List ℕ × List ℕ)). o >>= λ others. Some (encode_utf16 c ++ others.0, others.1)) (units_again cs w.1 rest most w.3 (omega arith))
    ∙ ap (λ (k : List ℕ). Some (k, rest)) (sym (flat_map-cons encode_utf16 c cs))

characters_length : (characters inner : List ℕ) → Characters characters inner → length characters ≤ length inner
characters_length [] inner w = omega arith
characters_length (c ∷ cs) inner w =
    let r = character_reads c w.0 [] w.2 in
    let a = ap length r.parts in
    let b = ap length w.4 in
    omega (arith, characters_length cs w.1 w.3, length-append w.0 w.1, a, b)

pub string_takes : (rest : List ℕ) (x : List ℕ × List ℕ) → string_at rest ≡ Some x → Stands IsString (0x22 ∷ rest) x
unfolding string_at
string_takes rest x e =
    let b = units_takes (length rest) rest x e in
    record {
      text = 0x22 ∷ (b.inner ++ 0x22 ∷ []);
      spelled = record { inner = b.inner; inside = b.has; parts = refl };
      parts = ap (λ (k : List ℕ). 0x22 ∷ k) (b.parts ∙ sym (append_assoc b.inner (0x22 ∷ []) x.1));
    }

pub string_again : (units inner rest : List ℕ) → HasUnits units inner → string_at ((inner ++ 0x22 ∷ []) ++ rest) ≡ Some (units, rest)
unfolding string_at
string_again units inner rest h =
    let whole : List ℕ = (inner ++ 0x22 ∷ []) ++ rest in
    let grouped : whole ≡ inner ++ 0x22 ∷ rest = append_assoc inner (0x22 ∷ []) rest in
    let len = ap length grouped in
    ap (units_at (length whole)) grouped
    ∙ units_again h.characters inner rest (length whole) h.written (omega (arith, characters_length h.characters inner h.written, length-append inner (0x22 ∷ rest), len))
    ∙ ap (λ (k : List ℕ). Some (k, rest)) (sym h.units_are)

-- ---- a name

abbrev pub Anything : List ℕ → Type 0
Anything rest = Unit {0}

name_takes : (bytes : List ℕ) (x : List ℕ × List ℕ) → name_at bytes ≡ Some x → Stands IsString bytes x
unfolding name_at
name_takes bytes x e =
    let a = bind_some (past 0x22 bytes) (λ rest. string_at rest) x e in
    subst (λ (k : List ℕ). Stands IsString k x) (sym (past_takes 0x22 bytes a.0 a.1)) (string_takes a.0 x a.2)

name_again : (units text rest : List ℕ) → IsString units text → Anything rest → name_at (text ++ rest) ≡ Some (units, rest)
unfolding name_at
name_again units text rest s h =
    ap (λ (k : List ℕ). past 0x22 (k ++ rest) >>= λ after. string_at after) s.parts
    ∙ ap (λ (o : Option (List ℕ)). o >>= λ after. string_at after) (past_again 0x22 ((s.inner ++ 0x22 ∷ []) ++ rest))
    ∙ string_again units s.inner rest s.inside

pub name_exact : IsExact name_at IsString Anything
name_exact = record { takes = name_takes; again = name_again }
