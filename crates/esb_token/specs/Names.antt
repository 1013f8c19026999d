-- Identifier names and reserved words (ECMA-262, 11.6), with the escapes of 11.8.4 that may stand in them.
use Rattle.std.specs.Prelude.{ℕ, ◌+◌, ◌*◌, Bool, ◌&&◌, if◌then◌else◌, ◌==◌, nat_lt, nat_le, nat_eq, List, [], ◌∷◌, take, drop, slice_index, fold, Option, Some, None, codes}
use Rattle.std.specs.List.{prefix_len}
use Rattle.std.specs.Cmp.Lexicographic.{pointwise}
use Rattle.esb_token.specs.declared.kind.Kind.{Kind}
use Rattle.esb_token.specs.declared.kind.Kind.TheVariants as k
use Rattle.esb_token.specs.Characters.{character, code_point, is_hex_digit, hex_digit, is_identifier_start, is_identifier_part}
use Rattle.esb_token.specs.Runs.{run}

-- the number that hexadecimal digits spell
abbrev pub hex_value : List ℕ → ℕ
hex_value digits = fold (λ value c. 16 * value + hex_digit c) 0 digits

-- a code point, and how many bytes spell it
abbrev pub Escape : Type 0
Escape = Option (ℕ × ℕ)

-- `\uXXXX`, from its backslash
unfoldable pub four_digits : List ℕ → Escape
four_digits text =
    if is_hex_digit (slice_index text 2) && is_hex_digit (slice_index text 3) && is_hex_digit (slice_index text 4) && is_hex_digit (slice_index text 5)
    then Some (((hex_digit (slice_index text 2) * 16 + hex_digit (slice_index text 3)) * 16 + hex_digit (slice_index text 4)) * 16 + hex_digit (slice_index text 5), 6)
    else None

-- `\u{X}` with one digit or more, of a value up to 10FFFF
unfoldable pub braced_digits : List ℕ → Escape
braced_digits text =
    let digits = prefix_len is_hex_digit (drop 3 text) in
    if nat_lt 0 digits && slice_index text (3 + digits) == 125 && nat_le (hex_value (take digits (drop 3 text))) 0x10FFFF
    then Some (hex_value (take digits (drop 3 text)), digits + 4)
    else None

unfoldable pub unicode_escape : List ℕ → Escape
unicode_escape text =
    if slice_index text 0 == 92 && slice_index text 1 == 117
    then (if slice_index text 2 == 123 then braced_digits text else four_digits text)
    else None

-- the length of an escape whose code point passes a test
abbrev pub escape_passing : (ℕ → Bool) → Escape → ℕ
escape_passing test None = 0
escape_passing test (Some escape) = if test escape.0 then escape.1 else 0

-- a piece of an identifier name, 0 where none is: a character that passes a test, or an escape of one
abbrev pub name_piece : (ℕ → Bool) → List ℕ → ℕ
name_piece test text =
    if slice_index text 0 == 92 then escape_passing test (unicode_escape text)
    else if test (code_point text) then character text else 0

unfoldable pub identifier_start : List ℕ → ℕ
identifier_start text = name_piece is_identifier_start text

unfoldable pub identifier_part : List ℕ → ℕ
identifier_part text = name_piece is_identifier_part text

-- the same without escapes, as in the flags of a regular expression
unfoldable pub identifier_character : List ℕ → ℕ
identifier_character text = if is_identifier_part (code_point text) then character text else 0

-- the reserved words by their first byte, with those that strict mode and modules reserve
abbrev pub words_from : ℕ → List (List ℕ × Kind)
words_from b =
    if b == 97 then (codes "await", k.Await) ∷ []
    else if b == 98 then (codes "break", k.Break) ∷ []
    else if b == 99 then (codes "case", k.Case) ∷ (codes "catch", k.Catch) ∷ (codes "class", k.Class) ∷ (codes "const", k.Const) ∷ (codes "continue", k.Continue) ∷ []
    else if b == 100 then (codes "debugger", k.Debugger) ∷ (codes "default", k.Default) ∷ (codes "delete", k.Delete) ∷ (codes "do", k.Do) ∷ []
    else if b == 101 then (codes "else", k.Else) ∷ (codes "enum", k.Enum) ∷ (codes "export", k.Export) ∷ (codes "extends", k.Extends) ∷ []
    else if b == 102 then (codes "false", k.False) ∷ (codes "finally", k.Finally) ∷ (codes "for", k.For) ∷ (codes "function", k.Function) ∷ []
    else if b == 105 then (codes "if", k.If) ∷ (codes "implements", k.Implements) ∷ (codes "import", k.Import) ∷ (codes "in", k.In) ∷ (codes "instanceof", k.Instanceof) ∷ (codes "interface", k.Interface) ∷ []
    else if b == 108 then (codes "let", k.Let) ∷ []
    else if b == 110 then (codes "new", k.New) ∷ (codes "null", k.Null) ∷ []
    else if b == 112 then (codes "package", k.Package) ∷ (codes "private", k.Private) ∷ (codes "protected", k.Protected) ∷ (codes "public", k.Public) ∷ []
    else if b == 114 then (codes "return", k.Return) ∷ []
    else if b == 115 then (codes "static", k.Static) ∷ (codes "super", k.Super) ∷ (codes "switch", k.Switch) ∷ []
    else if b == 116 then (codes "this", k.This) ∷ (codes "throw", k.Throw) ∷ (codes "true", k.True) ∷ (codes "try", k.Try) ∷ (codes "typeof", k.Typeof) ∷ []
    else if b == 118 then (codes "var", k.Var) ∷ (codes "void", k.Void) ∷ []
    else if b == 119 then (codes "while", k.While) ∷ (codes "with", k.With) ∷ []
    else if b == 121 then (codes "yield", k.Yield) ∷ []
    else []

-- the kind of the first entry that a word equals
abbrev pub word_in : List (List ℕ × Kind) → List ℕ → Option Kind
word_in [] word = None
word_in (entry ∷ more) word = if pointwise nat_eq word entry.0 then Some entry.1 else word_in more word

unfoldable pub reserved : List ℕ → Option Kind
reserved word = word_in (words_from (slice_index word 0)) word

abbrev pub word_kind : Option Kind → Kind
word_kind None = k.Name
word_kind (Some kind) = kind

-- a kind, and how many bytes the token has
abbrev pub Piece : Type 0
Piece = Option (Kind × ℕ)

-- the name at the front; one with an escape is spelled as no reserved word
unfoldable pub name : List ℕ → Piece
name text =
    let start = identifier_start text in
    let size = start + run identifier_part (drop start text) in
    if start == 0 then None else Some (word_kind (reserved (take size text)), size)
