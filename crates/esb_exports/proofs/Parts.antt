-- A path that fits a key is cut in three.
use Rattle.std.proofs.Common.{◌≡◌, ◌≢◌, ℕ, suc, ◌+◌, ◌-◌, ◌≤◌, Bool, true, false, cond, not, ◌&&◌, ◌||◌, leb, eqb, inl, inr, List, [], ◌∷◌, ◌++◌, length, take, drop, refl, sym, ap, ◌∙◌, arith, length-append}
use Rattle.std.specs.List.{position_or_len, starts_with, ends_with}
use Rattle.std.proofs.lemmas.Bool.{or_parts, or_right, and_from, not_from_false, le-leb, and_parts, cases_Bool, leb-true, eqb-true, cond-true}
use Rattle.std.proofs.lemmas.List.Folds.{list_any-append}
use Rattle.std.proofs.Math.Seq.{take-append_seam, drop-append_seam, drop-append-add}
use Rattle.std.proofs.lemmas.List.{take-append-drop, drop-drop}
use Rattle.std.proofs.lemmas.Slice.Eq.{bytes_eq-Decides}
use Rattle.esb_exports.specs.Keys.{is_star, has_star, has_one_star, base_of, trailer_of, fits, match_of}

at_place : (x : ℕ) (xs : List ℕ) (n m : ℕ) → n ≡ suc m → xs ≡ take m xs ++ (42 ∷ drop (m + 1) xs) → x ∷ xs ≡ take n (x ∷ xs) ++ (42 ∷ drop (n + 1) (x ∷ xs))
at_place x xs n m is rest =
    let behind : suc (m + 1) ≡ n + 1 = omega arith in
    ap (λ (t : List ℕ). x ∷ t) rest ∙ ap (λ (k : ℕ). take (suc m) (x ∷ xs) ++ (42 ∷ drop k (x ∷ xs))) behind ∙ ap (λ (k : ℕ). take k (x ∷ xs) ++ (42 ∷ drop (n + 1) (x ∷ xs))) (sym is)

abbrev cut : List ℕ → ℕ → List ℕ
cut key n = take n key ++ (42 ∷ drop (n + 1) key)

pub key_parts : (key : List ℕ) → has_star key ≡ true → key ≡ base_of key ++ (42 ∷ trailer_of key)
key_parts [] some = cc
key_parts (x ∷ xs) some = elim (cases_Bool (is_star x)) [
  | inl holds ↦ ap (λ (n : ℕ). n ∷ xs) (eqb-true x 42 holds) ∙ ap (λ (b : Bool). cut (x ∷ xs) (cond (not b) (1 + position_or_len is_star xs) 0)) (sym holds)
  | inr fails ↦
      let rest : has_star xs ≡ true = ap (λ (b : Bool). b || has_star xs) (sym fails) ∙ some in
      at_place x xs (1 + position_or_len is_star xs) (position_or_len is_star xs) (omega arith) (key_parts xs rest)
      ∙ ap (λ (b : Bool). cut (x ∷ xs) (cond (not b) (1 + position_or_len is_star xs) 0)) (sym fails)
]

record Parts (key path : List ℕ) : Type 0 where
  pub key_is : key ≡ base_of key ++ (42 ∷ trailer_of key)
  pub long : length (base_of key) + 1 + length (trailer_of key) ≤ length path
  pub front : base_of key ≡ take (length (base_of key)) path
  pub back : trailer_of key ≡ drop (length path - length (trailer_of key)) path
  pub match_is : match_of key path ≡ take (length path - length (trailer_of key) - length (base_of key)) (drop (length (base_of key)) path)

parts_of : (key path : List ℕ) → fits key path ≡ true → Parts key path
unfolding fits match_of
parts_of key path fit =
    let one = and_parts (has_one_star key) (leb (length key) (length path) && (starts_with eqb path (base_of key) && ends_with eqb path (trailer_of key))) fit in
    let two = and_parts (leb (length key) (length path)) (starts_with eqb path (base_of key) && ends_with eqb path (trailer_of key)) one.1 in
    let three = and_parts (starts_with eqb path (base_of key)) (ends_with eqb path (trailer_of key)) two.1 in
    let star = and_parts (has_star key) (not (has_star (trailer_of key))) one.0 in
    let is : key ≡ base_of key ++ (42 ∷ trailer_of key) = key_parts key star.0 in
    let sum : length key ≡ length (base_of key) + suc (length (trailer_of key)) = ap length is ∙ length-append (base_of key) (42 ∷ trailer_of key) in
    let within : length key ≤ length path = leb-true (length key) (length path) two.0 in
    record {
      key_is = is;
      long = omega arith;
      front = (bytes_eq-Decides (base_of key) (take (length (base_of key)) path)).0 three.0;
      back = (bytes_eq-Decides (trailer_of key) (drop (length path - length (trailer_of key)) path)).0 three.1;
      match_is = cond-true (has_one_star key) (take (length path - length (trailer_of key) - length (base_of key)) (drop (length (base_of key)) path)) [] one.0;
    }

pub key_is : (key path : List ℕ) → fits key path ≡ true → key ≡ base_of key ++ (42 ∷ trailer_of key)
key_is key path fit = (parts_of key path fit).key_is

joined : (path base matched trailer : List ℕ) (b t : ℕ) → b + 1 + t ≤ length path → base ≡ take b path → trailer ≡ drop (length path - t) path
    → matched ≡ take (length path - t - b) (drop b path) → path ≡ base ++ (matched ++ trailer)
joined path base matched trailer b t long front back middle =
    let n = length path - t - b in
    let place : length path - t ≡ b + n = omega arith in
    let behind : drop n (drop b path) ≡ trailer = drop-drop n b path ∙ ap (λ (k : ℕ). drop k path) (sym place) ∙ sym back in
    let rest : drop b path ≡ matched ++ trailer =
    sym (take-append-drop n (drop b path)) ∙ ap (λ (l : List ℕ). l ++ drop n (drop b path)) (sym middle) ∙ ap (λ (l : List ℕ). matched ++ l) behind in
    sym (take-append-drop b path) ∙ ap (λ (l : List ℕ). l ++ drop b path) (sym front) ∙ ap (λ (l : List ℕ). base ++ l) rest

pub path_is : (key path : List ℕ) → fits key path ≡ true → path ≡ base_of key ++ (match_of key path ++ trailer_of key)
path_is key path fit =
    let p = parts_of key path fit in
    joined path (base_of key) (match_of key path) (trailer_of key) (length (base_of key)) (length (trailer_of key)) p.long p.front p.back p.match_is

pub some_match : (key path : List ℕ) → fits key path ≡ true → match_of key path ≢ []
some_match key path fit none =
    let p = parts_of key path fit in
    let whole : length path ≡ length (base_of key) + length (match_of key path ++ trailer_of key) = ap length (path_is key path fit) ∙ length-append (base_of key) (match_of key path ++ trailer_of key) in
    let short : length (match_of key path ++ trailer_of key) ≡ length (trailer_of key) = ap (λ (l : List ℕ). length (l ++ trailer_of key)) none in
    let long = p.long in
    omega arith

-- ---- every path of this form fits

place_of : (base rest : List ℕ) → has_star base ≡ false → position_or_len is_star (base ++ (42 ∷ rest)) ≡ length base
place_of [] rest none = refl
place_of (x ∷ xs) rest none =
    let p = or_parts (is_star x) (has_star xs) none in
    let one : 1 + length xs ≡ suc (length xs) = omega arith in
    ap (λ (b : Bool). cond (not b) (1 + position_or_len is_star (xs ++ (42 ∷ rest))) 0) p.0 ∙ ap (λ (n : ℕ). 1 + n) (place_of xs rest p.1) ∙ one

some_length : (units : List ℕ) → units ≢ [] → 1 ≤ length units
some_length [] some = absurd (some refl)
some_length (unit ∷ units) some = omega arith

record Whole (base matched trailer : List ℕ) : Type 0 where
  pub base_is : base_of (base ++ (42 ∷ trailer)) ≡ base
  pub trailer_is : trailer_of (base ++ (42 ∷ trailer)) ≡ trailer
  pub one : has_one_star (base ++ (42 ∷ trailer)) ≡ true
  pub key_length : length (base ++ (42 ∷ trailer)) ≡ length base + suc (length trailer)
  pub path_length : length (base ++ (matched ++ trailer)) ≡ length base + (length matched + length trailer)

whole : (base matched trailer : List ℕ) → has_star base ≡ false → has_star trailer ≡ false → Whole base matched trailer
whole base matched trailer plain behind =
    let key = base ++ (42 ∷ trailer) in
    let trailer_is : trailer_of key ≡ trailer = ap (λ (n : ℕ). drop (n + 1) key) (place_of base trailer plain) ∙ drop-append-add base (42 ∷ trailer) 1 in
    record {
      base_is = ap (λ (n : ℕ). take n key) (place_of base trailer plain) ∙ take-append_seam base (42 ∷ trailer);
      trailer_is = trailer_is;
      one = and_from (has_star key) (not (has_star (trailer_of key)))
          (list_any-append is_star base (42 ∷ trailer) ∙ or_right (has_star base) (has_star (42 ∷ trailer)) refl)
          (not_from_false (has_star (trailer_of key)) (ap has_star trailer_is ∙ behind));
      key_length = length-append base (42 ∷ trailer);
      path_length = length-append base (matched ++ trailer) ∙ ap (λ (n : ℕ). length base + n) (length-append matched trailer);
    }

pub fits_so : (base matched trailer : List ℕ) → has_star base ≡ false → has_star trailer ≡ false → matched ≢ [] → fits (base ++ (42 ∷ trailer)) (base ++ (matched ++ trailer)) ≡ true
unfolding fits
fits_so base matched trailer plain behind some =
    let key = base ++ (42 ∷ trailer) in
    let path = base ++ (matched ++ trailer) in
    let w = whole base matched trailer plain behind in
    let key_length : length key ≡ length base + suc (length trailer) = w.key_length in
    let path_length : length path ≡ length base + (length matched + length trailer) = w.path_length in
    let least : 1 ≤ length matched = some_length matched some in
    let within : length key ≤ length path = omega arith in
    let place : length path - length trailer ≡ length base + length matched = omega arith in
    let front : base_of key ≡ take (length (base_of key)) path =
    w.base_is ∙ sym (ap (λ (l : List ℕ). take (length l) path) w.base_is ∙ take-append_seam base (matched ++ trailer)) in
    let back : trailer_of key ≡ drop (length path - length (trailer_of key)) path =
    w.trailer_is ∙ sym (ap (λ (l : List ℕ). drop (length path - length l) path) w.trailer_is ∙ ap (λ (n : ℕ). drop n path) place
    ∙ drop-append-add base (matched ++ trailer) (length matched) ∙ drop-append_seam matched trailer) in
    and_from (has_one_star key) (leb (length key) (length path) && (starts_with eqb path (base_of key) && ends_with eqb path (trailer_of key))) w.one
    (and_from (leb (length key) (length path)) (starts_with eqb path (base_of key) && ends_with eqb path (trailer_of key)) (le-leb (length key) (length path) within)
    (and_from (starts_with eqb path (base_of key)) (ends_with eqb path (trailer_of key))
    ((bytes_eq-Decides (base_of key) (take (length (base_of key)) path)).1 front)
    ((bytes_eq-Decides (trailer_of key) (drop (length path - length (trailer_of key)) path)).1 back)))

pub match_so : (base matched trailer : List ℕ) → has_star base ≡ false → has_star trailer ≡ false → match_of (base ++ (42 ∷ trailer)) (base ++ (matched ++ trailer)) ≡ matched
unfolding match_of
match_so base matched trailer plain behind =
    let key = base ++ (42 ∷ trailer) in
    let path = base ++ (matched ++ trailer) in
    let w = whole base matched trailer plain behind in
    let path_length : length path ≡ length base + (length matched + length trailer) = w.path_length in
    let count : length path - length trailer - length base ≡ length matched = omega arith in
    cond-true (has_one_star key) (take (length path - length (trailer_of key) - length (base_of key)) (drop (length (base_of key)) path)) [] w.one
    ∙ ap (λ (l : List ℕ). take (length path - length l - length (base_of key)) (drop (length (base_of key)) path)) w.trailer_is
    ∙ ap (λ (l : List ℕ). take (length path - length trailer - length l) (drop (length l) path)) w.base_is
    ∙ ap (λ (n : ℕ). take n (drop (length base) path)) count
    ∙ ap (λ (l : List ℕ). take (length matched) l) (drop-append_seam base (matched ++ trailer))
    ∙ take-append_seam matched trailer
