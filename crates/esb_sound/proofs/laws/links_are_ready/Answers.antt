use Rattle.esb_sound.proofs.Links.{links_are_complete}
use Rattle.esb_sound.proofs.laws.links_are_ready.Goals as goal

pub returns : goal.returns
returns c = links_are_complete
