-- What a table of contexts is seen as.
use Rattle.std.specs.Prelude.{ℕ, List}
use Rattle.esb_flags.specs.declared.options.Options.{Options}

pub record Known : Type 0 where
  -- the contexts by their keys, in the order in which they were made
  pub contexts : List (ℕ × Options)
  -- the keys of those that are disposed, and whose build isn't closed
  pub retired : List ℕ
  -- the builds that aren't closed, by the keys of their contexts
  pub active : List (ℕ × ℕ)
