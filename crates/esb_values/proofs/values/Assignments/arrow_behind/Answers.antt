use Rattle.esb_values.proofs.values.Assignments.arrow_behind.Goals as goal

pub arrow_behind-requires : goal.arrow_behind-requires
arrow_behind-requires g c = record { inner = c.requires.owed.inner; blocks = c.requires.owed.blocks; fits = c.requires.fits }
