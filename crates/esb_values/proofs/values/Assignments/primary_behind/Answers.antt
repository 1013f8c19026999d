use Rattle.esb_values.proofs.values.Assignments.primary_behind.Goals as goal

pub links_behind-requires : goal.links_behind-requires
links_behind-requires g c = record { inner = c.requires.owed.inner; lists = c.requires.owed.lists; templates = c.requires.owed.templates; fits = c.requires.fits }
