-- What stands at the front of a list that grew.
use Rattle.std.specs.Prelude.{◌≡◌, ℕ, List, ◌++◌}

-- The new bytes are the old ones and more.
pub record Begins (old new : List ℕ) : Type 0 where
  pub rest : List ℕ
  pub is : new ≡ old ++ rest
