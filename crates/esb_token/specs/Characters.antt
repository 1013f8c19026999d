-- Characters of a text in UTF-8, and their classes (ECMA-262, 11.1 to 11.3, 11.6 and 11.8).
use Rattle.std.specs.Prelude.{ℕ, ◌+◌, ◌-◌, ◌*◌, min, Bool, ◌&&◌, ◌||◌, if◌then◌else◌, ◌==◌, nat_lt, nat_le, List, length, slice_index}
use Rattle.unicode_ident.specs.Ident.{is_xid_start, is_xid_continue}

-- how many bytes a character has, by its first byte
abbrev pub width : ℕ → ℕ
width b = if nat_lt b 128 then 1 else if nat_lt b 224 then 2 else if nat_lt b 240 then 3 else 4

-- the bytes of the character at the front of a text, 0 at its end
unfoldable pub character : List ℕ → ℕ
character text = min (width (slice_index text 0)) (length text)

-- the six bits of a byte that goes on with a character
abbrev pub low_bits : List ℕ → ℕ → ℕ
low_bits text at = slice_index text at - 128

-- the code point at the front of a text
unfoldable pub code_point : List ℕ → ℕ
code_point text =
    let b = slice_index text 0 in
    if nat_lt b 128 then b
    else if nat_lt b 224 then (b - 192) * 64 + low_bits text 1
    else if nat_lt b 240 then ((b - 224) * 64 + low_bits text 1) * 64 + low_bits text 2
    else (((b - 240) * 64 + low_bits text 1) * 64 + low_bits text 2) * 64 + low_bits text 3

-- a code point that is no surrogate
abbrev pub is_scalar : ℕ → Bool
is_scalar c = nat_lt c 0xD800 || (nat_le 0xE000 c && nat_le c 0x10FFFF)

abbrev pub is_digit : ℕ → Bool
is_digit c = nat_le 48 c && nat_le c 57

abbrev pub is_letter : ℕ → Bool
is_letter c = (nat_le 97 c && nat_le c 122) || (nat_le 65 c && nat_le c 90)

abbrev pub is_hex_digit : ℕ → Bool
is_hex_digit c = is_digit c || (nat_le 97 c && nat_le c 102) || (nat_le 65 c && nat_le c 70)

-- the number that a hexadecimal digit stands for
abbrev pub hex_digit : ℕ → ℕ
hex_digit c = if nat_le c 57 then c - 48 else if nat_le c 70 then c - 55 else c - 87

-- WhiteSpace: tabs, form feed, space, no-break space, U+FEFF, and the category Zs
abbrev pub is_space : ℕ → Bool
is_space c = if nat_lt c 128 then c == 32 || c == 9 || c == 11 || c == 12
    else c == 0xA0 || c == 0x1680 || (nat_le 0x2000 c && nat_le c 0x200A) || c == 0x202F || c == 0x205F || c == 0x3000 || c == 0xFEFF

-- whether a LineTerminator is at the front of a text: LF, CR, U+2028 or U+2029
abbrev pub is_wide_line_end : ℕ → ℕ → ℕ → Bool
is_wide_line_end a b c = a == 226 && b == 128 && (c == 168 || c == 169)

unfoldable pub at_line_end : List ℕ → Bool
at_line_end text = slice_index text 0 == 10 || slice_index text 0 == 13 || is_wide_line_end (slice_index text 0) (slice_index text 1) (slice_index text 2)

-- the code points with which an identifier name begins, and those with which it goes on
abbrev pub is_identifier_start : ℕ → Bool
is_identifier_start c = if nat_lt c 128 then is_letter c || c == 36 || c == 95 else is_scalar c && is_xid_start c

abbrev pub is_identifier_part : ℕ → Bool
is_identifier_part c = if nat_lt c 128 then is_letter c || is_digit c || c == 36 || c == 95
    else is_scalar c && (is_xid_continue c || c == 0x200C || c == 0x200D)
