-- Which member of an object a path takes: an exact key, or else the closest key with one star.
use Rattle.std.specs.Prelude.{ℕ, ◌-◌, Bool, ◌==◌, ◌&&◌, ◌||◌, not, nat_lt, nat_le, nat_eq, if◌then◌else◌, List, [], length, take, drop, fold, find, Option, Some, None, IsTrue, ◌≡◌, false}
use Rattle.std.specs.List.{list_any, All, Contains, starts_with, ends_with, before_first, after_first}
use Rattle.std.specs.Str.{bytes_eq}
use Rattle.esb_json.specs.declared.value.Json.{Json}

abbrev pub is_star : ℕ → Bool
is_star unit = unit == 42

abbrev pub has_star : List ℕ → Bool
has_star units = list_any is_star units

-- the part of a key up to its star, and the part behind it
abbrev pub base_of : List ℕ → List ℕ
base_of key = before_first is_star key

abbrev pub trailer_of : List ℕ → List ℕ
trailer_of key = after_first is_star key

abbrev pub has_one_star : List ℕ → Bool
has_one_star key = has_star key && not (has_star (trailer_of key))

-- The path is the key with one unit or more in place of its one star.
unfoldable pub fits : List ℕ → List ℕ → Bool
fits key path = has_one_star key && (nat_le (length key) (length path)
    && (starts_with nat_eq path (base_of key) && ends_with nat_eq path (trailer_of key)))

-- what stands in the path in place of the key's star, and nothing for a key without one
unfoldable pub match_of : List ℕ → List ℕ → List ℕ
match_of key path = if has_one_star key
    then take (length path - length (trailer_of key) - length (base_of key)) (drop (length (base_of key)) path) else []

-- The one key is closer than the other: the part up to its star is longer, or as long while the whole key is longer.
unfoldable pub is_closer : List ℕ → List ℕ → Bool
is_closer one other = nat_lt (length (base_of other)) (length (base_of one))
    || ((length (base_of one) == length (base_of other)) && nat_lt (length other) (length one))

-- the first member with this key, if the path has no star
unfoldable pub exact : List (List ℕ × Json) → List ℕ → Option (List ℕ × Json)
exact members path = if has_star path then None else find (λ member. bytes_eq member.0 path) members

-- the closer of the best so far and a member
unfoldable pub closer : List ℕ → Option (List ℕ × Json) → List ℕ × Json → Option (List ℕ × Json)
closer path None member = if fits member.0 path then Some member else None
closer path (Some best) member = if fits member.0 path && is_closer member.0 best.0 then Some member else Some best

-- the closest member whose key the path fits: the first of those that are as close
abbrev pub closest : List (List ℕ × Json) → List ℕ → Option (List ℕ × Json)
closest members path = fold (closer path) None members

unfoldable pub or_else : {X : Type 0} → Option X → Option X → Option X
or_else None other = other
or_else (Some x) other = Some x

-- the member that the path takes
unfoldable pub chosen : List (List ℕ × Json) → List ℕ → Option (List ℕ × Json)
chosen members path = or_else (exact members path) (closest members path)

-- the path is the key, and has no star
abbrev pub is_exact : List ℕ → List ℕ → Bool
is_exact key path = not (has_star path) && bytes_eq key path

-- The path takes this member, as Node tells it (PATTERN_KEY_COMPARE): an exact key goes before one with a star, and of these no
-- key that the path fits is closer.
pub record Takes (members : List (List ℕ × Json)) (path : List ℕ) (member : List ℕ × Json) : Type 0 where
  pub stands : Contains members member
  pub goes : IsTrue (is_exact member.0 path || fits member.0 path)
  pub exact_first : IsTrue (list_any (λ other. is_exact other.0 path) members) → IsTrue (is_exact member.0 path)
  pub closest : is_exact member.0 path ≡ false → All (λ other. IsTrue (fits other.0 path) → is_closer other.0 member.0 ≡ false) members
