use Rattle.esb_exports.proofs.Parts.{key_is, path_is, some_match, fits_so, match_so}
use Rattle.esb_exports.proofs.laws.matches.Goals as goal

pub returns-clause-key : goal.returns-clause-key
returns-clause-key c = key_is

pub returns-clause-path : goal.returns-clause-path
returns-clause-path c = path_is

pub returns-clause-something : goal.returns-clause-something
returns-clause-something c = some_match

pub returns-clause-fits : goal.returns-clause-fits
returns-clause-fits c = fits_so

pub returns-clause-matched : goal.returns-clause-matched
returns-clause-matched c = match_so
