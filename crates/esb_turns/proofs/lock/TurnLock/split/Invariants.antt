use Rattle.esb_turns.proofs.lock.TurnLock.split.Given as goal

abbrev pub ghosts-cut : goal.ghosts-cut
ghosts-cut g a = record { amount = a.right }
