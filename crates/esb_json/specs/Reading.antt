-- Reading a value at the front of bytes: the value and the bytes after it, or nothing where none stands there.
use Rattle.std.specs.Prelude.{◌≡◌, ℕ, zero, suc, ◌+◌, ◌-◌, ◌*◌, Bool, true, false, ◌||◌, ◌&&◌, not, if◌then◌else◌, ◌==◌, nat_eq, nat_lt, nat_le, List, [], ◌∷◌, ◌++◌, length, take, drop, Option, Some, None, Result, Ok, Err, codes}
use Rattle.std.specs.Char.{digit_value, is_ascii_digit}
use Rattle.std.specs.Char.Escape.{encode_utf16}
use Rattle.std.specs.Cmp.Lexicographic.{pointwise}
use Rattle.std.specs.Int.{is_in_range}
use Rattle.std.specs.Str.{is_utf8}
use Rattle.esb_json.specs.declared.stop.Stop.{Stop}
use Rattle.esb_json.specs.declared.stop.Stop.TheVariants as stop
use Rattle.esb_json.specs.declared.value.Json.{Json}
use Rattle.esb_json.specs.declared.value.Json.TheVariants as v
use Rattle.esb_json.specs.Grammar.{is_space, is_e, is_sign, escaped}

infixl 10 ◌>>=◌
abbrev pub ◌>>=◌ : {A B : Type 0} → Option A → (A → Option B) → Option B
None >>= f = None
(Some x) >>= f = f x

-- What a stop says of what is read: it is not the bytes' doing where memory was refused.
abbrev pub Stops : {Y : Type 0} → Stop → Option Y → Type 0
Stops (stop.Unread left) read = read ≡ None
Stops stop.Memory read = Unit {0}

-- The result, seen by view, is what is read, unless memory was refused.
abbrev pub Reads : {X Y : Type 0} → (X → Y) → Result X Stop → Option Y → Type 0
Reads view (Ok x) read = read ≡ Some (view x)
Reads view (Err fault) read = Stops fault read

abbrev pub Reader : Type 0 → Type 0
Reader X = List ℕ → Option (X × List ℕ)

-- the bytes from the first that fails the test
abbrev pub skip : (ℕ → Bool) → List ℕ → List ℕ
skip p [] = []
skip p (b ∷ rest) = if p b then skip p rest else b ∷ rest

-- the bytes after this one
unfoldable pub past : ℕ → List ℕ → Option (List ℕ)
past c [] = None
past c (b ∷ rest) = if b == c then Some rest else None

-- the bytes after this word
unfoldable pub past_word : List ℕ → List ℕ → Option (List ℕ)
past_word word bytes = if pointwise nat_eq (take (length word) bytes) word then Some (drop (length word) bytes) else None

-- ---- numbers

unfoldable pub past_minus : List ℕ → List ℕ
past_minus [] = []
past_minus (b ∷ rest) = if b == 0x2D then rest else b ∷ rest

unfoldable pub past_digits : List ℕ → Option (List ℕ)
past_digits [] = None
past_digits (b ∷ rest) = if is_ascii_digit b then Some (skip is_ascii_digit rest) else None

unfoldable pub past_integer : List ℕ → Option (List ℕ)
past_integer [] = None
past_integer (b ∷ rest) = if b == 0x30 then Some rest else (if is_in_range 0x31 0x39 b then Some (skip is_ascii_digit rest) else None)

unfoldable pub past_fraction : List ℕ → Option (List ℕ)
past_fraction [] = Some []
past_fraction (b ∷ rest) = if b == 0x2E then past_digits rest else Some (b ∷ rest)

unfoldable pub past_sign : List ℕ → List ℕ
past_sign [] = []
past_sign (b ∷ rest) = if is_sign b then rest else b ∷ rest

unfoldable pub past_exponent : List ℕ → Option (List ℕ)
past_exponent [] = Some []
past_exponent (b ∷ rest) = if is_e b then past_digits (past_sign rest) else Some (b ∷ rest)

unfoldable pub past_number : List ℕ → Option (List ℕ)
past_number bytes = do
  integer ← past_integer (past_minus bytes)
  fraction ← past_fraction integer
  past_exponent fraction

unfoldable pub number_at : Reader (List ℕ)
number_at bytes = do
  rest ← past_number bytes
  if is_utf8 (take (length bytes - length rest) bytes) then Some (take (length bytes - length rest) bytes, rest) else None

-- ---- strings

-- high, and the six bits of a byte that goes on a character of UTF-8
unfoldable pub more_at : ℕ → Reader ℕ
more_at high [] = None
more_at high (b ∷ rest) = if is_in_range 0x80 0xBF b then Some (high * 64 + (b - 0x80), rest) else None

-- the end of a character of three bytes, and of one of four
unfoldable pub three_at : ℕ → Reader ℕ
three_at high bytes = do
  next ← more_at high bytes
  last ← more_at next.0 next.1
  if nat_lt last.0 0x800 || is_in_range 0xD800 0xDFFF last.0 then None else Some last

unfoldable pub four_at : ℕ → Reader ℕ
four_at high bytes = do
  next ← more_at high bytes
  third ← more_at next.0 next.1
  last ← more_at third.0 third.1
  if is_in_range 0x1_0000 0x10_FFFF last.0 then Some last else None

-- a character past ASCII that begins with this byte
unfoldable pub wide_at : ℕ → Reader ℕ
wide_at b rest =
    if is_in_range 0xC2 0xDF b then more_at (b - 0xC0) rest else
    (if is_in_range 0xE0 0xEF b then three_at (b - 0xE0) rest else
    (if is_in_range 0xF0 0xF4 b then four_at (b - 0xF0) rest else None))

unfoldable pub hex_at : Reader ℕ
hex_at [] = None
hex_at (b ∷ rest) = if nat_lt (digit_value b) 16 then Some (digit_value b, rest) else None

-- four hexadecimal digits
unfoldable pub unit_at : Reader ℕ
unit_at bytes = do
  a ← hex_at bytes
  b ← hex_at a.1
  c ← hex_at b.1
  d ← hex_at c.1
  Some (((a.0 * 16 + b.0) * 16 + c.0) * 16 + d.0, d.1)

-- what stands behind a backslash
unfoldable pub escape_at : Reader ℕ
escape_at [] = None
escape_at (b ∷ rest) = if b == 0x75 then unit_at rest else (escaped b >>= λ code. Some (code, rest))

-- the character of a string that begins with this byte
unfoldable pub character_at : ℕ → Reader ℕ
character_at b rest =
    if b == 0x5C then escape_at rest else
    (if nat_lt b 0x20 || b == 0x22 then None else
    (if nat_lt b 0x80 then Some (b, rest) else wide_at b rest))

-- code units up to the quotation mark, of so many characters at most
unfoldable pub units_at : ℕ → Reader (List ℕ)
units_at zero bytes = None
units_at (suc most) [] = None
units_at (suc most) (b ∷ rest) =
    if b == 0x22 then Some ([], rest) else do
      first ← character_at b rest
      others ← units_at most first.1
      Some (encode_utf16 first.0 ++ others.0, others.1)

-- what stands behind a quotation mark
unfoldable pub string_at : Reader (List ℕ)
string_at bytes = units_at (length bytes) bytes

-- ---- arrays and objects

-- what stands after an item: the end of the list, or a comma and more items
abbrev pub go_on : {X : Type 0} → (List ℕ → Option (List X × List ℕ)) → ℕ → X → List ℕ → Option (List X × List ℕ)
go_on more close x [] = None
go_on more close x (b ∷ rest) =
    if b == 0x2C then (more rest >>= λ others. Some (x ∷ others.0, others.1)) else
    (if b == close then Some (x ∷ [], rest) else None)

-- items with commas between them and the byte that closes them, so many items at most
unfoldable pub items_at : {X : Type 0} → Reader X → ℕ → ℕ → Reader (List X)
items_at read close zero bytes = None
items_at read close (suc most) bytes = do
  first ← read bytes
  go_on (items_at read close most) close first.0 first.1

-- no item, or items
abbrev pub list_from : {X : Type 0} → Reader X → ℕ → Reader (List X)
list_from read close [] = None
list_from read close (b ∷ rest) = if b == close then Some ([], rest) else items_at read close (length (b ∷ rest)) (b ∷ rest)

unfoldable pub list_at : {X : Type 0} → Reader X → ℕ → Reader (List X)
list_at read close bytes = list_from read close (skip is_space bytes)

-- with white space around it
unfoldable pub spaced_at : {X : Type 0} → Reader X → Reader X
spaced_at read bytes = do
  x ← read (skip is_space bytes)
  Some (x.0, skip is_space x.1)

unfoldable pub name_at : Reader (List ℕ)
name_at bytes = do
  rest ← past 0x22 bytes
  string_at rest

unfoldable pub member_at : Reader Json → Reader (List ℕ × Json)
member_at read bytes = do
  name ← spaced_at name_at bytes
  rest ← past 0x3A name.1
  value ← spaced_at read rest
  Some ((name.0, value.0), value.1)

-- ---- values

-- what is made of what was read
abbrev pub made : {X : Type 0} → (X → Json) → Option (X × List ℕ) → Option (Json × List ℕ)
made make read = read >>= λ x. Some (make x.0, x.1)

-- a value that is a word
abbrev pub worded : Json → Option (List ℕ) → Option (Json × List ℕ)
worded value read = read >>= λ rest. Some (value, rest)

-- a value that begins with this byte, where read reads the values inside
unfoldable pub node_at : Reader Json → ℕ → Reader Json
node_at read b rest =
    if b == 0x22 then made v.Str (string_at rest) else
    (if b == 0x5B then made v.Array (list_at (spaced_at read) 0x5D rest) else
    (if b == 0x7B then made v.Object (list_at (member_at read) 0x7D rest) else
    (if b == 0x6E then worded v.Null (past_word (codes "ull") rest) else
    (if b == 0x74 then worded (v.Bool true) (past_word (codes "rue") rest) else
    (if b == 0x66 then worded (v.Bool false) (past_word (codes "alse") rest) else
    made v.Number (number_at (b ∷ rest)))))))

-- a value in which at most so many values stand in one another
unfoldable pub value_at : ℕ → Reader Json
value_at zero bytes = None
value_at (suc depth) [] = None
value_at (suc depth) (b ∷ rest) = node_at (value_at depth) b rest

abbrev pub whole_of : Json × List ℕ → Option Json
whole_of x = if length x.1 == 0 then Some x.0 else None

-- all of the bytes
unfoldable pub json_at : ℕ → List ℕ → Option Json
json_at depth bytes = do
  x ← spaced_at (value_at depth) bytes
  whole_of x
