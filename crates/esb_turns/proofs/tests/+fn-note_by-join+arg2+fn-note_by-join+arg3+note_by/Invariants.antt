use Rattle.esb_turns.proofs.tests.+fn-note_by-join+arg2+fn-note_by-join+arg3+note_by.Given as goal

abbrev pub decreases-join+arg2 : goal.decreases-join+arg2
decreases-join+arg2 g l = l.rest

abbrev pub decreases-join+arg3 : goal.decreases-join+arg3
decreases-join+arg3 g l = l.half

abbrev pub decreases-note_by : goal.decreases-note_by
decreases-note_by g l = l.callers
