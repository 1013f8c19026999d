use Rattle.esb_wire.proofs.Sizes.{fits_short}
use Rattle.esb_wire.proofs.size.short_spelling_fits.Goals as goal

pub returns : goal.returns
returns c = fits_short
