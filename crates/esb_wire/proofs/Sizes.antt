-- How long spellings are, and that a short one has no size that does not fit.
use Rattle.std.proofs.Common.{◌≡◌, ℕ, zero, suc, ◌+◌, ◌^◌, ◌<◌, ◌≤◌, List, [], ◌∷◌, ◌++◌, length, min, take, get_or, refl, sym, ap, subst, ◌∙◌, arith}
use Rattle.std.specs.List.{flat_map, AllByRecursion, IsDistinct}
use Rattle.std.proofs.lemmas.List.{length-append}
use Rattle.esb_wire.specs.declared.value.Value.{Value}
use Rattle.esb_wire.specs.declared.value.Value.TheOpen.{Value-F}
use Rattle.esb_wire.specs.declared.value.Value.TheViews.{out-Value, roll-Value, out-roll-Value, roll-out-Value}
use Rattle.esb_wire.specs.declared.value.Value.TheVariants as v
use Rattle.esb_wire.specs.Spelling.{counted, spelling, NodeFits, Fits, PairFits}
use Rattle.esb_wire.specs.Size.{PairIsShaped, NodeIsShaped, IsShaped, pair_spelled}
use Rattle.esb_wire.proofs.Values.{spelling-Null, spelling-Bool, spelling-Number, spelling-Str, spelling-Bytes, spelling-Array, spelling-Map}

-- ---- how long the spelling of each variant is

pub length-spelling-Null : length (spelling v.Null) ≡ 1
length-spelling-Null = ap length spelling-Null

pub length-spelling-Bool : (b : _) → length (spelling (v.Bool b)) ≡ 2
length-spelling-Bool b = ap length (spelling-Bool b)

pub length-spelling-Number : (n : ℕ) → length (spelling (v.Number n)) ≡ 5
length-spelling-Number n = ap length (spelling-Number n)

pub length-spelling-Str : (text : List ℕ) → length (spelling (v.Str text)) ≡ 5 + length text
length-spelling-Str text = omega (arith, ap length (spelling-Str text))

pub length-spelling-Bytes : (bytes : List ℕ) → length (spelling (v.Bytes bytes)) ≡ 5 + length bytes
length-spelling-Bytes bytes = omega (arith, ap length (spelling-Bytes bytes))

pub length-spelling-Array : (values : List Value) → length (spelling (v.Array values)) ≡ 5 + length (flat_map spelling values)
length-spelling-Array values = omega (arith, ap length (spelling-Array values))

pub length-spelling-Map : (pairs : List (List ℕ × Value)) → length (spelling (v.Map pairs)) ≡ 5 + length (flat_map pair_spelled pairs)
length-spelling-Map pairs = omega (arith, ap length (spelling-Map pairs))

layer_some : (layer : Value-F Value) → 0 < length (spelling (roll-Value layer))
layer_some Value-F.Null = rw v.rolls-Null (omega (arith, length-spelling-Null))
layer_some (Value-F.Bool b) = rw (v.rolls-Bool b) (omega (arith, length-spelling-Bool b))
layer_some (Value-F.Number n) = rw (v.rolls-Number n) (omega (arith, length-spelling-Number n))
layer_some (Value-F.Str t) = rw (v.rolls-Str t) (omega (arith, length-spelling-Str t))
layer_some (Value-F.Bytes b) = rw (v.rolls-Bytes b) (omega (arith, length-spelling-Bytes b))
layer_some (Value-F.Array values) = rw (v.rolls-Array values) (omega (arith, length-spelling-Array values))
layer_some (Value-F.Map pairs) = rw (v.rolls-Map pairs) (omega (arith, length-spelling-Map pairs))

-- no spelling is empty
pub spelling_some : (value : Value) → 0 < length (spelling value)
spelling_some value = subst (λ (w : Value). 0 < length (spelling w)) (roll-out-Value value) (layer_some (out-Value value))

pub length-pair_spelled : (pair : List ℕ × Value) → length (pair_spelled pair) ≡ 4 + length pair.0 + length (spelling pair.1)
length-pair_spelled pair = omega (arith, length-append pair.0 (spelling pair.1))

-- ---- a short spelling fits

module _ (depth : ℕ) (fits : (value : Value) → IsShaped depth value → length (spelling value) < 2 ^ 32 → Fits depth value) where
  values_fit : (values : List Value) → AllByRecursion (IsShaped depth) values → length (flat_map spelling values) < 2 ^ 32 → AllByRecursion (Fits depth) values × (length values ≤ length (flat_map spelling values))
  values_fit [] shaped short = (tt, omega arith)
  values_fit (x ∷ xs) shaped short =
      let both = length-append (spelling x) (flat_map spelling xs) in
      let rest = values_fit xs shaped.1 (omega arith) in
      ((fits x shaped.0 (omega arith), rest.0), omega (arith, rest.1, spelling_some x))

  pairs_fit : (pairs : List (List ℕ × Value)) → AllByRecursion (PairIsShaped (IsShaped depth)) pairs → length (flat_map pair_spelled pairs) < 2 ^ 32 → AllByRecursion (PairFits depth) pairs × (length pairs ≤ length (flat_map pair_spelled pairs))
  pairs_fit [] shaped short = (tt, omega arith)
  pairs_fit (x ∷ xs) shaped short =
      let both = length-append (pair_spelled x) (flat_map pair_spelled xs) in
      let one = length-pair_spelled x in
      let rest = pairs_fit xs shaped.1 (omega arith) in
      (((shaped.0.0, omega arith, fits x.1 shaped.0.1 (omega arith)), rest.0), omega (arith, rest.1))

  layer_fits : (layer : Value-F Value) → NodeIsShaped (IsShaped depth) layer → length (spelling (roll-Value layer)) < 2 ^ 32 → NodeFits (Fits depth) layer
  layer_fits Value-F.Null shaped short = tt
  layer_fits (Value-F.Bool b) shaped short = tt
  layer_fits (Value-F.Number n) shaped short = shaped
  layer_fits (Value-F.Str t) shaped short = (shaped, omega (arith, length-spelling-Str t, rw (v.rolls-Str t) at short))
  layer_fits (Value-F.Bytes b) shaped short = omega (arith, length-spelling-Bytes b, rw (v.rolls-Bytes b) at short)
  layer_fits (Value-F.Array values) shaped short =
      let inside : length (flat_map spelling values) < 2 ^ 32 = omega (arith, length-spelling-Array values, rw (v.rolls-Array values) at short) in
      let f = values_fit values shaped inside in
      (f.0, omega (arith, f.1))
  layer_fits (Value-F.Map pairs) shaped short =
      let inside : length (flat_map pair_spelled pairs) < 2 ^ 32 = omega (arith, length-spelling-Map pairs, rw (v.rolls-Map pairs) at short) in
      let f = pairs_fit pairs shaped.0 inside in
      (f.0, shaped.1, omega (arith, f.1))

-- A value that is right but for sizes fits where its spelling is short.
pub fits_short : (depth : ℕ) (value : Value) → IsShaped depth value → length (spelling value) < 2 ^ 32 → Fits depth value
unfolding IsShaped
fits_short zero value shaped short = absurd shaped
fits_short (suc depth) value shaped short =
    layer_fits depth (fits_short depth) (out-Value value) shaped (subst (λ (w : Value). length (spelling w) < 2 ^ 32) (sym (roll-out-Value value)) short)

-- ---- a value of a depth is one of each greater depth

module _ (depth more : ℕ) (deeper : (value : Value) → IsShaped depth value → IsShaped more value) where
  values_deeper : (values : List Value) → AllByRecursion (IsShaped depth) values → AllByRecursion (IsShaped more) values
  values_deeper [] shaped = tt
  values_deeper (x ∷ xs) shaped = (deeper x shaped.0, values_deeper xs shaped.1)

  pairs_deeper : (pairs : List (List ℕ × Value)) → AllByRecursion (PairIsShaped (IsShaped depth)) pairs → AllByRecursion (PairIsShaped (IsShaped more)) pairs
  pairs_deeper [] shaped = tt
  pairs_deeper (x ∷ xs) shaped = ((shaped.0.0, deeper x.1 shaped.0.1), pairs_deeper xs shaped.1)

  layer_deeper : (layer : Value-F Value) → NodeIsShaped (IsShaped depth) layer → NodeIsShaped (IsShaped more) layer
  layer_deeper Value-F.Null shaped = tt
  layer_deeper (Value-F.Bool b) shaped = tt
  layer_deeper (Value-F.Number n) shaped = shaped
  layer_deeper (Value-F.Str t) shaped = shaped
  layer_deeper (Value-F.Bytes b) shaped = tt
  layer_deeper (Value-F.Array values) shaped = values_deeper values shaped
  layer_deeper (Value-F.Map pairs) shaped = (pairs_deeper pairs shaped.0, shaped.1)

pub IsShaped-deeper : (depth more : ℕ) → depth ≤ more → (value : Value) → IsShaped depth value → IsShaped more value
unfolding IsShaped
IsShaped-deeper zero more le value shaped = absurd shaped
IsShaped-deeper (suc depth) zero le value shaped = absurd (omega arith)
IsShaped-deeper (suc depth) (suc more) le value shaped = layer_deeper depth more (IsShaped-deeper depth more (omega arith)) (out-Value value) shaped

-- ---- the shape of each variant

pub shaped_at : (depth : ℕ) (layer : Value-F Value) (value : Value) → roll-Value layer ≡ value → NodeIsShaped (IsShaped depth) layer → IsShaped (suc depth) value
unfolding IsShaped
shaped_at depth layer value is shaped =
    subst (λ (w : Value). IsShaped (suc depth) w) is (subst (λ (l : Value-F Value). NodeIsShaped (IsShaped depth) l) (sym (out-roll-Value layer)) shaped)

-- ---- the length of what is counted in parts

pub array_length : (value : Value) (values inside : List Value) (part total : ℕ) → value ≡ v.Array values → inside ≡ values
    → part ≡ min (length (flat_map spelling inside)) (2 ^ 32) → total ≡ min (5 + part) (2 ^ 32) → total ≡ min (length (spelling value)) (2 ^ 32)
array_length value values inside part total is same parts sum =
    let whole : length (spelling value) ≡ 5 + length (flat_map spelling inside) =
    ap (λ (w : Value). length (spelling w)) is ∙ length-spelling-Array values ∙ ap (λ (vs : List Value). 5 + length (flat_map spelling vs)) (sym same) in
    omega arith

pub map_length : (value : Value) (pairs inside : List (List ℕ × Value)) (part total : ℕ) → value ≡ v.Map pairs → inside ≡ pairs
    → part ≡ min (length (flat_map pair_spelled inside)) (2 ^ 32) → total ≡ min (5 + part) (2 ^ 32) → total ≡ min (length (spelling value)) (2 ^ 32)
map_length value pairs inside part total is same parts sum =
    let whole : length (spelling value) ≡ 5 + length (flat_map pair_spelled inside) =
    ap (λ (w : Value). length (spelling w)) is ∙ length-spelling-Map pairs ∙ ap (λ (ps : List (List ℕ × Value)). 5 + length (flat_map pair_spelled ps)) (sym same) in
    omega arith
