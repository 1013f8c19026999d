-- Tokens at the front of a text.
use Rattle.std.specs.Prelude.{ℕ, ◌≤◌, Bool, ◌&&◌, ◌||◌, ◌==◌, List, length, slice_index}
use Rattle.esb_token.specs.Characters.{is_digit}

-- a kind or a value, with a length of one byte or more that the text has
abbrev pub IsPiece : {K : Type 0} → List ℕ → K × ℕ → Type 0
IsPiece text piece = (1 ≤ piece.1) × (piece.1 ≤ length text)

-- whether a digit is at the front, or a `.` and a digit
abbrev pub begins_number : List ℕ → Bool
begins_number text = is_digit (slice_index text 0) || (slice_index text 0 == 46 && is_digit (slice_index text 1))
