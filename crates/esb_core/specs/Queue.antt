-- What is owed, and room for more.
use Rattle.std.specs.Prelude.{ℕ, List}
use Rattle.esb_core.specs.declared.out.Out.{Out}

pub record Queue : Type 0 where
  -- what is owed, in order
  pub owed : List Out
  -- for how many more there is room
  pub promised : ℕ
