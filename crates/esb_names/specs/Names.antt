-- Names by the code points that they stand for (ECMA-262, 11.6.1.2).
use Rattle.std.specs.Prelude.{ℕ, zero, suc, ◌-◌, ◌≤◌, ◌==◌, if◌then◌else◌, Bool, false, ◌||◌, nat_eq, List, [], ◌∷◌, length, take, drop, slice_index, Some, None}
use Rattle.std.specs.Cmp.Lexicographic.{pointwise}
use Rattle.esb_token.specs.declared.token.Token.{Token}
use Rattle.esb_token.specs.Characters.{character, code_point}
use Rattle.esb_token.specs.Names.{Escape, unicode_escape}

-- a value, with a length of one byte or more that the text has
abbrev pub IsPiece : List ℕ → ℕ × ℕ → Type 0
IsPiece text piece = (1 ≤ piece.1) × (piece.1 ≤ length text)

-- the code point of an escape; a backslash that begins none stands for itself
abbrev pub escaped_point : Escape → ℕ
escaped_point None = 92
escaped_point (Some escape) = escape.0

abbrev pub escaped_length : Escape → ℕ
escaped_length None = 1
escaped_length (Some escape) = escape.1

-- the first code point of a name
unfoldable pub first_point : List ℕ → ℕ
first_point name = if slice_index name 0 == 92 then escaped_point (unicode_escape name) else code_point name

-- and how many bytes stand for it
unfoldable pub first_length : List ℕ → ℕ
first_length name = if slice_index name 0 == 92 then escaped_length (unicode_escape name) else character name

-- the code points of a name, behind bytes that were read
abbrev pub points_behind : ℕ → List ℕ → List ℕ
points_behind inside [] = []
points_behind (suc inside) (b ∷ rest) = points_behind inside rest
points_behind zero (b ∷ rest) = first_point (b ∷ rest) ∷ points_behind (first_length (b ∷ rest) - 1) rest

-- the code points of a name (StringValue)
unfoldable pub points : List ℕ → List ℕ
points name = points_behind 0 name

-- the bytes of a token
abbrev pub bytes_of : List ℕ → Token → List ℕ
bytes_of text t = take (t.end - t.start) (drop t.start text)

-- whether a name is written with an escape
abbrev pub has_escape : List ℕ → Bool
has_escape [] = false
has_escape (b ∷ rest) = b == 92 || has_escape rest

-- whether a token is this name
unfoldable pub is_spelled : List ℕ → List ℕ → Token → Bool
is_spelled text word t = pointwise nat_eq (points (bytes_of text t)) (points word)

-- whether two tokens are the same name
unfoldable pub is_same_name : List ℕ → Token → Token → Bool
is_same_name text a b = pointwise nat_eq (points (bytes_of text a)) (points (bytes_of text b))
