-- What a step adds to the tokens that are gathered.
use Rattle.std.specs.Prelude.{◌≡◌, ◌++◌, false}
use Rattle.esb_tree.specs.declared.gathered.Gathered.{Gathered}
use Rattle.esb_tree.specs.Yields.{Tokens}

-- Where memory was not refused by the end of the step, it was not before, and these tokens stand behind the others.
unfoldable pub Adds : Tokens → Gathered → Gathered → Type 0
Adds ts before after = after.refused ≡ false → (before.refused ≡ false) × (after.tokens ≡ before.tokens ++ ts)
