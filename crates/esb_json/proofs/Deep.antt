-- A text of a value needs one level more than the greatest in the value, and no more.
use Rattle.std.proofs.Common.{◌≡◌, ℕ, zero, suc, ◌+◌, ◌<◌, ◌≤◌, max, eqb, List, [], ◌∷◌, ◌++◌, length, map, Option, Some, None, refl, sym, ap, subst, ◌∙◌, arith, true}
use Rattle.std.specs.List.{AllByRecursion}
use Rattle.std.proofs.lemmas.Bool.{eqb-true}
use Rattle.std.proofs.lemmas.List.{append-nil}
use Rattle.esb_json.specs.declared.value.Json.{Json}
use Rattle.esb_json.specs.declared.value.Json.TheOpen.{Json-F}
use Rattle.esb_json.specs.declared.value.Json.TheViews.{out-Json, roll-Json, roll-out-Json}
use Rattle.esb_json.specs.declared.value.Json.TheFolds.{fold-roll-Json}
use Rattle.esb_json.specs.Grammar.{Spaced, Enclosed, Items, IsMember, NodeText, TextWithin}
use Rattle.esb_json.specs.Reading.{◌>>=◌, spaced_at, value_at, whole_of, json_at}
use Rattle.esb_json.specs.Texts.{one_above, node_levels, levels, most_levels, Spells}
use Rattle.esb_json.proofs.Exact.{bind_some, some_is, cond_taken}
use Rattle.esb_json.proofs.Nodes.{whole_exact}

-- ---- items, one by one

module _ {X : Type 0} where
  items_map : (P Q : X → List ℕ → Type 0) (F : X → Type 0) → ((x : X) (text : List ℕ) → F x → P x text → Q x text)
      → (xs : List X) (text : List ℕ) → AllByRecursion F xs → Items P xs text → Items Q xs text
  items_map P Q F step [] text all p = p
  items_map P Q F step (x ∷ []) text all p = step x text all.0 p
  items_map P Q F step (x ∷ y ∷ xs) text all p = (p.0, p.1, step x p.0 all.0 p.2, items_map P Q F step (y ∷ xs) p.1 all.1 p.3, p.4)

  items_all : (P : X → List ℕ → Type 0) (F : X → Type 0) → ((x : X) (text : List ℕ) → P x text → F x)
      → (xs : List X) (text : List ℕ) → Items P xs text → AllByRecursion F xs
  items_all P F step [] text p = tt
  items_all P F step (x ∷ []) text p = (step x text p, tt)
  items_all P F step (x ∷ y ∷ xs) text p = (step x p.0 p.2, items_all P F step (y ∷ xs) p.1 p.3)

spaced_map : (P Q : List ℕ → Type 0) → ((text : List ℕ) → P text → Q text) → (text : List ℕ) → Spaced P text → Spaced Q text
spaced_map P Q step text p = record {
  before = p.before;
  inner = p.inner;
  after = p.after;
  space_before = p.space_before;
  inside = step p.inner p.inside;
  space_after = p.space_after;
  parts = p.parts;
}

-- ---- the greatest level

module _ {X : Type 0} (f : X → ℕ) where
  above_each : (n : ℕ) (xs : List X) → one_above (map f xs) ≤ n → AllByRecursion (λ x. suc (f x) ≤ n) xs
  above_each n [] h = tt
  above_each n (x ∷ xs) h = (omega arith, above_each n xs (omega arith))

  above_le : (n : ℕ) (xs : List X) → AllByRecursion (λ x. suc (f x) ≤ n) xs → one_above (map f xs) ≤ n
  above_le n [] h = omega arith
  above_le n (x ∷ xs) h = omega (arith, h.0, above_le n xs h.1)

abbrev inside : List ℕ × Json → List ℕ × ℕ
inside member = (member.0, levels member.1)

abbrev member_levels : List ℕ × Json → ℕ
member_levels member = levels member.1

second : (members : List (List ℕ × Json)) → map (λ (part : List ℕ × ℕ). part.1) (map inside members) ≡ map member_levels members
second [] = refl
second (m ∷ ms) = ap (λ (k : List ℕ). levels m.1 ∷ k) (second ms)

levels-Array : (values : List Json) → levels (roll-Json (Json-F.Array values)) ≡ one_above (map levels values)
levels-Array values = fold-roll-Json ℕ node_levels (Json-F.Array values)

levels-Object : (members : List (List ℕ × Json)) → levels (roll-Json (Json-F.Object members)) ≡ one_above (map member_levels members)
levels-Object members = fold-roll-Json ℕ node_levels (Json-F.Object members) ∙ ap one_above (second members)

levels-leaf : (layer : Json-F Json) (n : ℕ) → levels (roll-Json layer) ≡ 0 → levels (roll-Json layer) ≤ n
levels-leaf layer n h = omega arith

-- ---- no more is needed

module _ (depth : ℕ) (before : (value : Json) (text : List ℕ) (n : ℕ) → levels value ≤ n → TextWithin depth value text → TextWithin (suc n) value text) where
  inner_fits : (n : ℕ) (value : Json) (text : List ℕ) → suc (levels value) ≤ n → TextWithin depth value text → TextWithin n value text
  inner_fits zero value text h p = absurd (omega arith)
  inner_fits (suc n) value text h p = before value text n (omega arith) p

  element_fits : (n : ℕ) (value : Json) (text : List ℕ) → suc (levels value) ≤ n → Spaced (TextWithin depth value) text → Spaced (TextWithin n value) text
  element_fits n value text h p = spaced_map (TextWithin depth value) (TextWithin n value) (λ inner q. inner_fits n value inner h q) text p

  member_fits : (n : ℕ) (member : List ℕ × Json) (text : List ℕ) → suc (member_levels member) ≤ n → IsMember (TextWithin depth) member text → IsMember (TextWithin n) member text
  member_fits n member text h p = record { name = p.name; value = p.value; is_name = p.is_name; is_value = element_fits n member.1 p.value h p.is_value; parts = p.parts }

  layer_fits : (n : ℕ) (layer : Json-F Json) (text : List ℕ) → levels (roll-Json layer) ≤ n → NodeText (TextWithin depth) layer text → NodeText (TextWithin n) layer text
  layer_fits n Json-F.Null text h p = p
  layer_fits n (Json-F.Bool b) text h p = p
  layer_fits n (Json-F.Number spelling) text h p = p
  layer_fits n (Json-F.Str units) text h p = p
  layer_fits n (Json-F.Array values) text h p = record {
    inner = p.inner;
    inside = items_map (λ value inner. Spaced (TextWithin depth value) inner) (λ value inner. Spaced (TextWithin n value) inner) (λ value. suc (levels value) ≤ n)
        (element_fits n) values p.inner (above_each levels n values (subst (λ (k : ℕ). k ≤ n) (levels-Array values) h)) p.inside;
    parts = p.parts;
  }
  layer_fits n (Json-F.Object members) text h p = record {
    inner = p.inner;
    inside = items_map (IsMember (TextWithin depth)) (IsMember (TextWithin n)) (λ member. suc (member_levels member) ≤ n)
        (member_fits n) members p.inner (above_each member_levels n members (subst (λ (k : ℕ). k ≤ n) (levels-Object members) h)) p.inside;
    parts = p.parts;
  }

pub fits : (depth : ℕ) (value : Json) (text : List ℕ) (n : ℕ) → levels value ≤ n → TextWithin depth value text → TextWithin (suc n) value text
fits zero value text n h p = absurd p
fits (suc depth) value text n h p =
    layer_fits depth (fits depth) n (out-Json value) text (subst (λ (w : Json). levels w ≤ n) (sym (roll-out-Json value)) h) p

-- ---- no less is enough

module _ (n : ℕ) (before : (value : Json) (text : List ℕ) → TextWithin n value text → suc (levels value) ≤ n) where
  layer_bound : (layer : Json-F Json) (text : List ℕ) → NodeText (TextWithin n) layer text → levels (roll-Json layer) ≤ n
  layer_bound Json-F.Null text p = levels-leaf Json-F.Null n (fold-roll-Json ℕ node_levels Json-F.Null)
  layer_bound (Json-F.Bool b) text p = levels-leaf (Json-F.Bool b) n (fold-roll-Json ℕ node_levels (Json-F.Bool b))
  layer_bound (Json-F.Number spelling) text p = levels-leaf (Json-F.Number spelling) n (fold-roll-Json ℕ node_levels (Json-F.Number spelling))
  layer_bound (Json-F.Str units) text p = levels-leaf (Json-F.Str units) n (fold-roll-Json ℕ node_levels (Json-F.Str units))
  layer_bound (Json-F.Array values) text p =
      subst (λ (k : ℕ). k ≤ n) (sym (levels-Array values)) (above_le levels n values
      (items_all (λ value inner. Spaced (TextWithin n value) inner) (λ value. suc (levels value) ≤ n) (λ value inner q. before value q.inner q.inside) values p.inner p.inside))
  layer_bound (Json-F.Object members) text p =
      subst (λ (k : ℕ). k ≤ n) (sym (levels-Object members)) (above_le member_levels n members
      (items_all (IsMember (TextWithin n)) (λ member. suc (member_levels member) ≤ n) (λ member inner q. before member.1 q.is_value.inner q.is_value.inside) members p.inner p.inside))

pub bound : (n : ℕ) (value : Json) (text : List ℕ) → TextWithin n value text → suc (levels value) ≤ n
bound zero value text p = absurd p
bound (suc n) value text p =
    let whole : levels value ≤ n = subst (λ (w : Json). levels w ≤ n) (roll-out-Json value) (layer_bound n (bound n) (out-Json value) text p) in
    omega arith

-- ---- the whole text

no_rest : (rest : List ℕ) → eqb (length rest) 0 ≡ true → rest ≡ []
no_rest [] h = refl
no_rest (b ∷ rest) h = absurd (omega (arith, eqb-true (length (b ∷ rest)) 0 h))

json_takes : (depth : ℕ) (bytes : List ℕ) (value : Json) → json_at depth bytes ≡ Some value → Spaced (TextWithin depth value) bytes
unfolding json_at
json_takes depth bytes value e =
    let a = bind_some (spaced_at (value_at depth) bytes) whole_of value e in
    let g = cond_taken (eqb (length a.0.1) 0) (Some a.0.0) value a.2 in
    let s = (whole_exact depth).takes bytes a.0 a.1 in
    let whole : bytes ≡ s.text = s.parts ∙ ap (λ (k : List ℕ). s.text ++ k) (no_rest a.0.1 g.0) ∙ append-nil s.text in
    subst (λ (w : Json). Spaced (TextWithin depth w) bytes) (some_is a.0.0 value g.1) (subst (λ (k : List ℕ). Spaced (TextWithin depth a.0.0) k) (sym whole) s.spelled)

json_again : (depth : ℕ) (value : Json) (text : List ℕ) → Spaced (TextWithin depth value) text → json_at depth text ≡ Some value
unfolding json_at
json_again depth value text p =
    ap (λ (k : List ℕ). spaced_at (value_at depth) k >>= whole_of) (sym (append-nil text))
    ∙ ap (λ (o : Option (Json × List ℕ)). o >>= whole_of) ((whole_exact depth).again value text [] p (tt, tt))

pub is_spelled : (text : List ℕ) (value : Json) → json_at 201 text ≡ Some value → Spells value text
is_spelled text value e = record { depth = 201; spaced = json_takes 201 text value e }

pub is_shallow : (text : List ℕ) (value : Json) → json_at 201 text ≡ Some value → levels value ≤ most_levels
is_shallow text value e =
    let p = json_takes 201 text value e in
    let b = bound 201 value p.inner p.inside in
    omega (arith, b)

pub is_read : (text : List ℕ) (value : Json) (n : ℕ) → Spells value text → levels value ≤ n → json_at (suc n) text ≡ Some value
is_read text value n s h =
    json_again (suc n) value text (spaced_map (TextWithin s.depth value) (TextWithin (suc n) value) (λ inner q. fits s.depth value inner n h q) text s.spaced)

pub one_value : (text : List ℕ) (one other : Json) → Spells one text → Spells other text → one ≡ other
one_value text one other p q =
    let n : ℕ = levels one + levels other in
    some_is one other (sym (is_read text one n p (omega arith)) ∙ is_read text other n q (omega arith))

pub same_value : (text : List ℕ) (found value : Json) → json_at 201 text ≡ Some found → Spells value text → levels value ≤ most_levels → found ≡ value
same_value text found value e s h = some_is found value (sym e ∙ is_read text value 200 s h)

pub no_value : {P : Type 0} (text : List ℕ) (value : Json) → json_at 201 text ≡ None → Spells value text → levels value ≤ most_levels → P
no_value text value e s h = let read = is_read text value 200 s h in absurd cc
