use Rattle.std.proofs.Common.{◌≡◌, drop}
use Rattle.esb_literal_laws.specs.ElementLists.{all_placed}
use Rattle.esb_values.specs.Within.{covers_element}
use Rattle.esb_values.proofs.covers.+covers.Given as goal

abbrev pub invariant-rest_covers-loop-turn : goal.invariant-rest_covers-loop-turn
invariant-rest_covers-loop-turn l = all_placed (covers_element l.braces l.below) l.rest ≡ all_placed (covers_element l.braces l.below) (drop l.turn l.rest)
