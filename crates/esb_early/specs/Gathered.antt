-- What a step of the walk that gathers names adds.
use Rattle.std.specs.Prelude.{◌≡◌, false, List, ◌++◌}
use Rattle.esb_token.specs.declared.token.Token.{Token}
use Rattle.esb_early.specs.declared.gathered.Names.{Names}

-- Where memory was not refused by the end of a step, it was not before, and the names of the part stand behind those before.
unfoldable pub Gathers : List Token → Names → Names → Type 0
Gathers more before after = after.refused ≡ false → (before.refused ≡ false) × (after.list ≡ before.list ++ more)
