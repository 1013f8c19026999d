-- Which of the tokens at a place is read: the longest.
use Rattle.std.specs.Prelude.{◌≡◌, ℕ, ◌-◌, ◌<◌, ◌≤◌, Bool, true, false, ◌&&◌, ◌||◌, ◌==◌, List, ◌++◌, length, drop, slice_index}
use Rattle.esb_token.specs.declared.kind.Kind.{Kind}
use Rattle.esb_token.specs.declared.token.Token.{Token}
use Rattle.esb_token.specs.declared.goal.Goal.{Goal}
use Rattle.esb_token.specs.Grammar.{IsToken, ends_before}
use Rattle.esb_token.specs.Characters.{is_digit}

-- no token of a goal at the front of a text has more bytes than these
abbrev pub NoneIsLonger : Goal → List ℕ → ℕ → Type 0
NoneIsLonger g text size = (kind : Kind) (bytes after : List ℕ) → text ≡ bytes ++ after → IsToken g kind bytes after → length bytes ≤ size

-- a token that no other at its place is longer than
abbrev pub IsLongest : Goal → List ℕ → Token → Type 0
IsLongest g contents token = NoneIsLonger g (drop token.start contents) (token.end - token.start)

-- a digit, or a `.` and a digit
abbrev pub begins_number : List ℕ → Bool
begins_number text = is_digit (slice_index text 0) || (slice_index text 0 == 46 && is_digit (slice_index text 1))

-- Neither the end nor a token stands at a place: the longest token there, if there is one, is a number that may not stand before what follows it.
abbrev pub IsNoToken : Goal → List ℕ → ℕ → Type 0
IsNoToken g contents at =
    (at < length contents)
    × ((kind : Kind) (bytes after : List ℕ) → drop at contents ≡ bytes ++ after → IsToken g kind bytes after → NoneIsLonger g (drop at contents) (length bytes)
    → (begins_number (drop at contents) ≡ true) × (ends_before after ≡ false))

-- The bytes of a token are one of its kind, and where a number begins there, it may stand before what follows it.
abbrev pub IsTokenAt : Goal → List ℕ → Token → Type 0
IsTokenAt g contents token =
    (bytes : List ℕ) × (after : List ℕ)
    × (drop token.start contents ≡ bytes ++ after)
    × (length bytes ≡ token.end - token.start)
    × IsToken g token.kind bytes after
    × (begins_number (drop token.start contents) ≡ true → ends_before after ≡ true)
