-- What holds of each event of a list, with the events before it.
use Rattle.std.specs.Prelude.{List, [], ◌∷◌, ◌++◌}
use Rattle.esb_core.specs.declared.event.Event.{Event}

abbrev pub Each-from : (List Event → Event → Type 0) → List Event → List Event → Type 0
Each-from P before [] = Unit {0}
Each-from P before (e ∷ es) = P before e × Each-from P (before ++ e ∷ []) es

abbrev pub Each : (List Event → Event → Type 0) → List Event → Type 0
Each P events = Each-from P [] events
