-- Decimal numbers below a limit, read digit by digit.
use Rattle.std.proofs.Common.{◌≡◌, ℕ, zero, suc, ◌+◌, ◌-◌, ◌*◌, ◌<◌, ◌≤◌, Bool, true, false, ◌&&◌, eqb, leb, List, [], ◌∷◌, length, take, drop, get_or, fold, refl, sym, ap, subst, ◌∙◌, arith}
use Rattle.std.specs.List.{list_all}
use Rattle.std.specs.Str.{bytes_eq}
use Rattle.std.proofs.lemmas.Bool.{lt-ltb, le-ltb, lt-leb, eqb-true, eq-eqb, ne_eqb, false≢true}
use Rattle.std.proofs.lemmas.List.{take-append-drop, take_all}
use Rattle.std.proofs.lemmas.List.Sums.{fold-append}
use Rattle.esb_exports.specs.Outcomes.{is_decimal, decimal_value, is_small_decimal, is_array_index}

rises : (name : List ℕ) (n : ℕ) → n ≤ fold (λ value unit. value * 10 + (unit - 48)) n name
rises [] n = omega arith
rises (unit ∷ name) n = omega (arith, rises name (n * 10 + (unit - 48)))

-- what the digits so far tell is no more than the whole
pub decimal_value-take : (name : List ℕ) (i : ℕ) → decimal_value (take i name) ≤ decimal_value name
decimal_value-take name i =
    subst (λ (t : List ℕ). decimal_value (take i name) ≤ decimal_value t) (take-append-drop i name)
    (rw (fold-append (λ value unit. value * 10 + (unit - 48)) 0 (take i name) (drop i name)) (rises (drop i name) (decimal_value (take i name))))

and_false : (b : Bool) → (b && false) ≡ false
and_false true = refl
and_false false = refl

pub all_but_one : (name : List ℕ) (i d : ℕ) → i < length name → is_decimal (get_or name i d) ≡ false → list_all is_decimal name ≡ false
all_but_one [] i d within e = absurd (omega arith)
all_but_one (unit ∷ name) zero d within e = rw e refl
all_but_one (unit ∷ name) (suc i) d within e = rw (all_but_one name i d (omega arith) e) (and_false (is_decimal unit))

pub no_decimal : (name : List ℕ) → list_all is_decimal name ≡ false → is_small_decimal name ≡ false
unfolding is_small_decimal
no_decimal name e = rw e refl

pub too_large : (name : List ℕ) (i : ℕ) → 4294967295 ≤ decimal_value (take i name) → is_small_decimal name ≡ false
unfolding is_small_decimal
too_large name i large =
    rw (le-ltb (decimal_value name) 4294967295 (omega (arith, decimal_value-take name i))) (and_false (list_all is_decimal name))

pub small : (name : List ℕ) (i value : ℕ) → length name ≤ i → list_all is_decimal (take i name) ≡ true → value ≡ decimal_value (take i name) → value < 4294967295 → is_small_decimal name ≡ true
unfolding is_small_decimal
small name i value all digits is less =
    let whole : take i name ≡ name = take_all i name all in
    let e : list_all is_decimal name ≡ true = ap (list_all is_decimal) (sym whole) ∙ digits in
    let v : value ≡ decimal_value name = is ∙ ap decimal_value whole in
    rw (e, lt-ltb (decimal_value name) 4294967295 (omega arith)) refl

nothing_more : (units : List ℕ) → bytes_eq units [] ≡ eqb (length (48 ∷ units)) 1
nothing_more [] = refl
nothing_more (unit ∷ units) = sym (ne_eqb (suc (suc (length units))) 1 (λ e. absurd (omega arith)))

pub index-empty : (name : List ℕ) → length name ≡ 0 → false ≡ is_array_index name
unfolding is_array_index
index-empty [] e = refl
index-empty (unit ∷ units) e = absurd (omega arith)

pub some_left : (r : Bool) (n : ℕ) → r ≡ eqb n 0 → r ≡ false → 0 < n
some_left r zero is full = absurd (false≢true (sym full ∙ is))
some_left r (suc n) is full = omega arith

pub none_left : (r : Bool) (n : ℕ) → r ≡ eqb n 0 → r ≡ true → n ≡ 0
none_left r n is on = eqb-true n 0 (sym is ∙ on)

pub low_unit : (unit : ℕ) → unit < 48 → is_decimal unit ≡ false
low_unit unit less = rw (lt-leb 48 unit less) refl

pub high_unit : (unit : ℕ) → 57 < unit → is_decimal unit ≡ false
high_unit unit more = rw (lt-leb unit 57 more) (and_false (leb 48 unit))

pub index-zero : (name : List ℕ) → 0 < length name → get_or name 0 0 ≡ 48 → is_array_index name ≡ eqb (length name) 1
unfolding is_array_index
index-zero [] some first = absurd (omega arith)
index-zero (unit ∷ units) some first = rw (eq-eqb unit 48 first) (nothing_more units)

pub index-other : (name : List ℕ) → 0 < length name → (get_or name 0 0 ≡ 48 → ⊥) → is_array_index name ≡ is_small_decimal name
unfolding is_array_index
index-other [] some first = absurd (omega arith)
index-other (unit ∷ units) some first = rw (ne_eqb unit 48 first) refl
