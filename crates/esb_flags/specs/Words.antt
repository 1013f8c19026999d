-- Words, their fronts and their backs.
use Rattle.std.specs.Prelude.{ℕ, ◌-◌, ◌==◌, Bool, not, ◌&&◌, if◌then◌else◌, nat_eq, List, length, take, drop, Option, Some, None}
use Rattle.std.specs.List.{list_any, starts_with, ends_with}

abbrev pub slash : ℕ
slash = 47

abbrev pub dot : ℕ
dot = 46

abbrev pub holds : ℕ → List ℕ → Bool
holds byte chars = list_any (λ b. b == byte) chars

-- not empty, without a dot and without a slash
abbrev pub is_word : List ℕ → Bool
is_word chars = not (length chars == 0) && not (holds dot chars) && not (holds slash chars)

abbrev pub if_word : List ℕ → Option (List ℕ)
if_word chars = if is_word chars then Some chars else None

-- what stands behind the front, and before the back
unfoldable pub behind : List ℕ → List ℕ → Option (List ℕ)
behind front chars = if starts_with nat_eq chars front then Some (drop (length front) chars) else None

unfoldable pub before : List ℕ → List ℕ → Option (List ℕ)
before back chars = if ends_with nat_eq chars back then Some (take (length chars - length back) chars) else None
