use Rattle.esb_values.proofs.values.Assignments.call_behind.Goals as goal

pub links_behind_call-requires : goal.links_behind_call-requires
links_behind_call-requires g c = record { inner = c.requires.owed.inner; lists = c.requires.owed.lists; templates = c.requires.owed.templates; fits = c.requires.fits; seen = c.requires.seen; read = c.requires.read }
