-- Paths of files.
use Rattle.std.specs.Prelude.{ℕ, List, ◌∷◌, ◌++◌}

-- the path of a name in a folder
abbrev pub below : List ℕ → List ℕ → List ℕ
below folder name = folder ++ 47 ∷ name
