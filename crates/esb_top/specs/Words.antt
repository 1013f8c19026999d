-- The words of the command line.
use Rattle.std.specs.Prelude.{ℕ, ◌+◌, ◌^◌, nat_le, true, if◌then◌else◌, List, [], ◌∷◌, ◌++◌, length, take, drop, codes, Option, Some, None, is_some, unwrap_or}
use Rattle.std.specs.Str.{bytes_eq}
use Rattle.esb_wire.specs.Spelling.{counted}
use Rattle.esb_top.specs.declared.words.Words.{Words}
use Rattle.esb_top.specs.declared.words.Words.TheVariants as words

-- what a handshake word begins with: its text follows
abbrev pub front : List ℕ
front = codes "--handshake="

abbrev pub if_short : List ℕ → Option (List ℕ)
if_short text = if nat_le (length text) (2 ^ 28) then Some text else None

-- the text of a handshake word: it may be empty, and has at most 2^28 bytes
unfoldable pub text_of : List ℕ → Option (List ℕ)
text_of word = if bytes_eq (take (length front) word) front then if_short (drop (length front) word) else None

abbrev pub bad_fourth : List (List ℕ) → Option ℕ
bad_fourth [] = None
bad_fourth (fourth ∷ rest) = Some 3

abbrev pub bad_third : List (List ℕ) → Option ℕ
bad_third [] = None
bad_third (third ∷ rest) = if is_some (text_of third) then bad_fourth rest else Some 2

abbrev pub bad_second : List (List ℕ) → Option ℕ
bad_second [] = Some 1
bad_second (second ∷ rest) = if bytes_eq second (codes "--serial") then bad_third rest else Some 1

-- the place of the first word that is wrong, or that is missing: the words are `service --serial`, and then at most one handshake word
abbrev pub bad_place : List (List ℕ) → Option ℕ
bad_place [] = Some 0
bad_place (first ∷ rest) = if bytes_eq first (codes "service") then bad_second rest else Some 0

-- the place of the handshake word
abbrev pub handshake_place : List (List ℕ) → Option ℕ
handshake_place (service ∷ serial ∷ handshake ∷ rest) = Some 2
handshake_place words = None

-- the service on one thread: one worker with its host, and no door
abbrev pub serial_service : Option ℕ → Words
serial_service handshake = words.Service true handshake 1 1 0

-- the line that tells a bad word
abbrev pub bad_word_line : ℕ → List ℕ
bad_word_line place = codes "esb: bad word " ++ (48 + place) ∷ 10 ∷ []

-- the text of the handshake word
abbrev pub handshake_text : List (List ℕ) → Option (List ℕ)
handshake_text (service ∷ serial ∷ handshake ∷ rest) = text_of handshake
handshake_text words = None

abbrev pub first_text : List (List ℕ) → List ℕ
first_text words = unwrap_or (handshake_text words) (codes "esb-profile-1")

-- what the service sends first: the length of a text as one number of 32 bits, and the text, which is that of the handshake word or else the version text
abbrev pub greeting : List (List ℕ) → List ℕ
greeting words = counted (first_text words)
