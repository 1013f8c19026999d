-- Clean absolute paths, and the four calls on paths.
use Rattle.std.specs.Prelude.{◌≡◌, ◌≢◌, ℕ, suc, ◌-◌, ◌==◌, if◌then◌else◌, List, [], ◌∷◌, ◌++◌, length, take, drop, map, codes, slice_index}
use Rattle.std.specs.List.{AllByRecursion, flat_map, join_with_byte}
use Rattle.std.specs.Str.{bytes_eq}
use Rattle.esb_path.specs.Segments.{slash, walked}

-- the names that lead from the root to the path
abbrev pub names_of : List ℕ → List (List ℕ)
names_of path = walked [] path

-- each name behind a slash, or the slash of the root alone
abbrev pub absolute : List (List ℕ) → List ℕ
absolute [] = slash ∷ []
absolute (name ∷ names) = flat_map (λ segment. slash ∷ segment) (name ∷ names)

-- the path, read as standing below the root
unfoldable pub clean_path : List ℕ → List ℕ
clean_path path = absolute (names_of path)

-- the rest, seen from the folder
unfoldable pub joined_path : List ℕ → List ℕ → List ℕ
joined_path folder rest = if slice_index rest 0 == slash then clean_path rest
    else clean_path (folder ++ slash ∷ rest)

-- the path without its last name
unfoldable pub parent_path : List ℕ → List ℕ
parent_path path = let names = names_of path in absolute (take (length names - 1) names)

-- how many names two lists share at their fronts
abbrev pub shared_count : List (List ℕ) → List (List ℕ) → ℕ
shared_count [] others = 0
shared_count (name ∷ names) [] = 0
shared_count (name ∷ names) (other ∷ others) = if bytes_eq name other then suc (shared_count names others) else 0

-- a step up for each name that is not shared, and the other names
abbrev pub way : List (List ℕ) → List (List ℕ) → List (List ℕ)
way folder path = let shared = shared_count folder path in
    map (λ _. codes "..") (drop shared folder) ++ drop shared path

-- the shortest text that leads from the folder to the path
unfoldable pub relative_path : List ℕ → List ℕ → List ℕ
relative_path folder path = join_with_byte slash (way (names_of folder) (names_of path))

-- what a folder or a file may be called in a clean path
pub record IsName (name : List ℕ) : Type 0 where
  pub no_slash : AllByRecursion (λ byte. byte ≢ slash) name
  pub not_empty : name ≢ []
  pub not_here : name ≢ codes "."
  pub not_up : name ≢ codes ".."

-- A path from the root by names.
pub record IsClean (path : List ℕ) : Type 0 where
  pub names : List (List ℕ)
  pub are_names : AllByRecursion IsName names
  pub spelled : path ≡ absolute names
