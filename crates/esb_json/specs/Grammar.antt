-- The texts of a JSON value, by cases on the value (RFC 8259; ECMA-404 has the same texts). A text is its UTF-8 bytes.
use Rattle.std.specs.Prelude.{◌≡◌, ◌≢◌, ℕ, zero, suc, ◌+◌, ◌*◌, ◌<◌, ◌≤◌, Bool, true, ◌==◌, ◌||◌, if◌then◌else◌, ◌⊎◌, List, [], ◌∷◌, ◌++◌, Option, Some, None, encode_utf8, codes}
use Rattle.std.specs.Char.{IsScalar, digit_value, is_ascii_digit}
use Rattle.std.specs.Char.Escape.{encode_utf16}
use Rattle.std.specs.Int.{is_in_range}
use Rattle.std.specs.List.{flat_map, AllByRecursion}
use Rattle.esb_json.specs.declared.value.Json.{Json, out-Json}
use Rattle.esb_json.specs.declared.value.Json.TheOpen.{Json-F}

-- Each byte passes the test.
abbrev pub Each : (ℕ → Bool) → List ℕ → Type 0
Each p text = AllByRecursion (λ b. p b ≡ true) text

-- Section 2. A space, a tab, a line feed or a carriage return
abbrev pub is_space : ℕ → Bool
is_space b = (b == 0x20 || b == 0x09) || (b == 0x0A || b == 0x0D)

-- what P says, with white space around it
pub record Spaced (P : List ℕ → Type 0) (text : List ℕ) : Type 0 where
  pub before : List ℕ
  pub inner : List ℕ
  pub after : List ℕ
  pub space_before : Each is_space before
  pub inside : P inner
  pub space_after : Each is_space after
  pub parts : text ≡ before ++ (inner ++ after)

-- what P says, between two bytes
pub record Enclosed (left right : ℕ) (P : List ℕ → Type 0) (text : List ℕ) : Type 0 where
  pub inner : List ℕ
  pub inside : P inner
  pub parts : text ≡ left ∷ (inner ++ right ∷ [])

-- ---- Section 6, numbers

abbrev pub IsMinus : List ℕ → Type 0
IsMinus [] = Unit {0}
IsMinus (b ∷ bs) = (b ≡ 0x2D) × (bs ≡ [])

-- one digit or more
abbrev pub IsDigits : List ℕ → Type 0
IsDigits [] = ⊥
IsDigits (d ∷ ds) = (is_ascii_digit d ≡ true) × Each is_ascii_digit ds

-- 0, or digits that do not begin with 0
abbrev pub IsInteger : List ℕ → Type 0
IsInteger [] = ⊥
IsInteger (d ∷ ds) = ((d ≡ 0x30) × (ds ≡ [])) ⊎ ((is_in_range 0x31 0x39 d ≡ true) × Each is_ascii_digit ds)

-- nothing, or a point and digits
abbrev pub IsFraction : List ℕ → Type 0
IsFraction [] = Unit {0}
IsFraction (b ∷ ds) = (b ≡ 0x2E) × IsDigits ds

abbrev pub is_e : ℕ → Bool
is_e b = b == 0x65 || b == 0x45

abbrev pub is_sign : ℕ → Bool
is_sign b = b == 0x2B || b == 0x2D

-- digits, with a sign before them or not
abbrev pub IsSigned : List ℕ → Type 0
IsSigned [] = ⊥
IsSigned (b ∷ ds) = ((is_sign b ≡ true) × IsDigits ds) ⊎ IsDigits (b ∷ ds)

-- nothing, or an e and digits
abbrev pub IsExponent : List ℕ → Type 0
IsExponent [] = Unit {0}
IsExponent (b ∷ text) = (is_e b ≡ true) × IsSigned text

pub record IsNumber (text : List ℕ) : Type 0 where
  pub minus : List ℕ
  pub integer : List ℕ
  pub fraction : List ℕ
  pub exponent : List ℕ
  pub is_minus : IsMinus minus
  pub is_integer : IsInteger integer
  pub is_fraction : IsFraction fraction
  pub is_exponent : IsExponent exponent
  pub parts : text ≡ minus ++ (integer ++ (fraction ++ exponent))

-- ---- Section 7, strings

-- a character that stands for itself: none below U+0020, no quotation mark and no backslash
pub record IsPlain (code : ℕ) (text : List ℕ) : Type 0 where
  pub scalar : IsScalar code
  pub no_control : 0x20 ≤ code
  pub no_quote : code ≢ 0x22
  pub no_backslash : code ≢ 0x5C
  pub parts : text ≡ encode_utf8 code

-- what the letter behind a backslash stands for: \" \\ \/ \b \f \n \r \t
abbrev pub escaped : ℕ → Option ℕ
escaped letter =
    if letter == 0x22 then Some 0x22 else
    (if letter == 0x5C then Some 0x5C else
    (if letter == 0x2F then Some 0x2F else
    (if letter == 0x62 then Some 0x08 else
    (if letter == 0x66 then Some 0x0C else
    (if letter == 0x6E then Some 0x0A else
    (if letter == 0x72 then Some 0x0D else
    (if letter == 0x74 then Some 0x09 else None)))))))

pub record IsEscape (code : ℕ) (text : List ℕ) : Type 0 where
  pub letter : ℕ
  pub means : escaped letter ≡ Some code
  pub parts : text ≡ 0x5C ∷ letter ∷ []

-- \u and four hexadecimal digits in either case, which are one code unit of UTF-16, a surrogate or not
pub record IsUnit (code : ℕ) (text : List ℕ) : Type 0 where
  pub a : ℕ
  pub b : ℕ
  pub c : ℕ
  pub d : ℕ
  pub a_is : digit_value a < 16
  pub b_is : digit_value b < 16
  pub c_is : digit_value c < 16
  pub d_is : digit_value d < 16
  pub means : code ≡ ((digit_value a * 16 + digit_value b) * 16 + digit_value c) * 16 + digit_value d
  pub parts : text ≡ 0x5C ∷ 0x75 ∷ a ∷ b ∷ c ∷ d ∷ []

abbrev pub IsCharacter : ℕ → List ℕ → Type 0
IsCharacter code text = IsPlain code text ⊎ (IsEscape code text ⊎ IsUnit code text)

-- characters, one after another
abbrev pub Characters : List ℕ → List ℕ → Type 0
Characters [] text = text ≡ []
Characters (code ∷ others) text = (first : List ℕ) × (rest : List ℕ) × IsCharacter code first × Characters others rest × (text ≡ first ++ rest)

-- characters that have these code units: a character past U+FFFF has two
pub record HasUnits (units text : List ℕ) : Type 0 where
  pub characters : List ℕ
  pub written : Characters characters text
  pub units_are : units ≡ flat_map encode_utf16 characters

abbrev pub IsString : List ℕ → List ℕ → Type 0
IsString units text = Enclosed 0x22 0x22 (HasUnits units) text

-- ---- Sections 4 and 5, objects and arrays

-- white space, or these items with commas between them
abbrev pub Items : {X : Type 0} → (X → List ℕ → Type 0) → List X → List ℕ → Type 0
Items P [] text = Each is_space text
Items P (x ∷ []) text = P x text
Items P (x ∷ y ∷ xs) text = (first : List ℕ) × (rest : List ℕ) × P x first × Items P (y ∷ xs) rest × (text ≡ first ++ 0x2C ∷ rest)

-- a name, a colon and a value that T says the text of
pub record IsMember (T : Json → List ℕ → Type 0) (member : List ℕ × Json) (text : List ℕ) : Type 0 where
  pub name : List ℕ
  pub value : List ℕ
  pub is_name : Spaced (IsString member.0) name
  pub is_value : Spaced (T member.1) value
  pub parts : text ≡ name ++ 0x3A ∷ value

-- ---- Section 3, values

-- the text of one value, where T says the texts of the values inside
abbrev pub NodeText : (Json → List ℕ → Type 0) → Json-F Json → List ℕ → Type 0
NodeText T Json-F.Null text = text ≡ codes "null"
NodeText T (Json-F.Bool b) text = text ≡ (if b then codes "true" else codes "false")
NodeText T (Json-F.Number spelling) text = IsNumber spelling × (text ≡ spelling)
NodeText T (Json-F.Str units) text = IsString units text
NodeText T (Json-F.Array values) text = Enclosed 0x5B 0x5D (Items (λ value. Spaced (T value)) values) text
NodeText T (Json-F.Object members) text = Enclosed 0x7B 0x7D (Items (IsMember T) members) text

-- The text is the value's, and so many values at most stand in one another.
abbrev pub TextWithin : ℕ → Json → List ℕ → Type 0
TextWithin zero value text = ⊥
TextWithin (suc depth) value text = NodeText (TextWithin depth) (out-Json value) text
