-- Where a comma stands.
use Rattle.std.specs.Prelude.{ℕ, Bool}
use Rattle.esb_reader.specs.Places.{Text}
use Rattle.esb_reader.specs.Parts.{behind}
use Rattle.esb_value_laws.specs.Commas.{begins_comma}

unfoldable pub at_comma : Text → ℕ → Bool
at_comma text i = begins_comma (behind text i)
