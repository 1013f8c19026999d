-- What strings stand for, by their first code units.
use Rattle.std.specs.Prelude.{ℕ, List, [], ◌∷◌, Option, Some, None}

abbrev pub first_unit : List ℕ → Option ℕ
first_unit [] = None
first_unit (unit ∷ units) = Some unit
