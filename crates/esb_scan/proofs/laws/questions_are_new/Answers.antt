use Rattle.esb_scan.proofs.Runs.{asks_new}
use Rattle.esb_scan.proofs.laws.questions_are_new.Goals as goal

pub returns-clause-new : goal.returns-clause-new
returns-clause-new c = λ options table job asked e. (asks_new options table job asked e).new

pub returns-clause-last : goal.returns-clause-last
returns-clause-last c = λ options table job asked e. (asks_new options table job asked e).is_trail

pub returns-clause-fits : goal.returns-clause-fits
returns-clause-fits c = λ options table job asked e. (asks_new options table job asked e).fits
