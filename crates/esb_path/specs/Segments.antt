-- A path as the list of its segments, which stand between slashes.
use Rattle.std.specs.Prelude.{ℕ, ◌-◌, Bool, ◌==◌, ◌||◌, if◌then◌else◌, List, [], ◌∷◌, ◌++◌, length, take, fold, codes}
use Rattle.std.specs.List.{slice_split}
use Rattle.std.specs.Str.{bytes_eq}

abbrev pub slash : ℕ
slash = 47

-- what stands before, between and behind the slashes of a text
abbrev pub segments : List ℕ → List (List ℕ)
segments path = slice_split (λ byte. byte == slash) path

-- nothing, or one dot: the same folder
abbrev pub is_here : List ℕ → Bool
is_here segment = bytes_eq segment [] || bytes_eq segment (codes ".")

-- two dots: the folder above
abbrev pub is_up : List ℕ → Bool
is_up segment = bytes_eq segment (codes "..")

-- Where one segment leads from the place that these names lead to from the root. Above the root is the root.
unfoldable pub entered : List (List ℕ) → List ℕ → List (List ℕ)
entered names segment = if is_here segment then names
    else (if is_up segment then take (length names - 1) names else names ++ segment ∷ [])

-- where a path leads from there
abbrev pub walked : List (List ℕ) → List ℕ → List (List ℕ)
walked names path = fold entered names (segments path)
