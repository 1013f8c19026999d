-- Numeric literals of strict mode (ECMA-262, 11.8.3).
use Rattle.std.specs.Prelude.{ℕ, ◌+◌, Bool, ◌&&◌, ◌||◌, if◌then◌else◌, ◌==◌, nat_lt, nat_le, List, drop, slice_index, Some, None}
use Rattle.std.specs.List.{prefix_len}
use Rattle.esb_token.specs.declared.kind.Kind.{Kind}
use Rattle.esb_token.specs.declared.kind.Kind.TheVariants as k
use Rattle.esb_token.specs.Characters.{is_digit, is_hex_digit}
use Rattle.esb_token.specs.Names.{Piece, identifier_start}

abbrev pub is_octal_digit : ℕ → Bool
is_octal_digit c = nat_le 48 c && nat_le c 55

abbrev pub is_binary_digit : ℕ → Bool
is_binary_digit c = nat_le 48 c && nat_le c 49

-- the decimal digits from a place on
unfoldable pub digits_at : List ℕ → ℕ → ℕ
digits_at text at = prefix_len is_digit (drop at text)

-- a number of this size, or a BigInt where an `n` follows
abbrev pub with_suffix : List ℕ → ℕ → Kind × ℕ
with_suffix text size = if slice_index text size == 110 then (k.BigInt, size + 1) else (k.Number, size)

-- a sign at a place, 0 where none is
abbrev pub sign : List ℕ → ℕ → ℕ
sign text at = if slice_index text at == 43 || slice_index text at == 45 then 1 else 0

-- an exponent from a place on, 0 where none is
unfoldable pub exponent : List ℕ → ℕ → ℕ
exponent text at =
    let sign = sign text (at + 1) in
    let digits = digits_at text (at + 1 + sign) in
    if (slice_index text at == 101 || slice_index text at == 69) && nat_lt 0 digits then 1 + sign + digits else 0

-- the integer part: `0` alone, or digits that begin with another one
unfoldable pub integer_part : List ℕ → ℕ
integer_part text = if slice_index text 0 == 48 then 1 else digits_at text 0

-- a decimal literal or BigInt; where it begins with a `.` it has no integer part
unfoldable pub decimal : List ℕ → Kind × ℕ
decimal text =
    let whole = integer_part text in
    if slice_index text whole == 46 then
    (let fraction = whole + 1 + digits_at text (whole + 1) in (k.Number, fraction + exponent text fraction))
    else if exponent text whole == 0 then with_suffix text whole
    else (k.Number, whole + exponent text whole)

-- a literal in another base, after `0` and the base's letter; without digits it is the `0`
unfoldable pub based : (ℕ → Bool) → List ℕ → Kind × ℕ
based digit text =
    let digits = prefix_len digit (drop 2 text) in
    if digits == 0 then (k.Number, 1) else with_suffix text (digits + 2)

-- the longest literal at the front of a text that begins with a digit, or with a `.` and a digit
unfoldable pub numeric : List ℕ → Kind × ℕ
numeric text =
    let letter = slice_index text 1 in
    if slice_index text 0 == 48 then
    (if letter == 120 || letter == 88 then based is_hex_digit text
    else if letter == 111 || letter == 79 then based is_octal_digit text
    else if letter == 98 || letter == 66 then based is_binary_digit text
    else decimal text)
    else decimal text

-- no identifier start and no digit follows a literal directly
unfoldable pub number : List ℕ → Piece
number text =
    let literal = numeric text in
    let after = drop literal.1 text in
    if is_digit (slice_index after 0) || nat_lt 0 (identifier_start after) then None else Some literal
