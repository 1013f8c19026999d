use Rattle.std.proofs.Common.{◌≡◌, ◌+◌, ◌-◌, ◌≤◌, length}
use Rattle.esb_turns.specs.Passes.{own_of, shares_of, IsPassOf}
use Rattle.esb_turns.proofs.tests.note_all.Given as goal

abbrev pub invariant-loop-noted : goal.invariant-loop-noted
invariant-loop-noted g l = record {
  few : l.noted ≤ 1000;
  lock : IsPassOf l.lock l.pass;
  shares : shares_of l.pass ≡ shares_of l.initial.pass;
  own : length (own_of l.pass) ≡ length (own_of l.initial.pass) + l.noted;
}

abbrev pub decreases-loop-noted : goal.decreases-loop-noted
decreases-loop-noted g l = 1000 - l.noted
