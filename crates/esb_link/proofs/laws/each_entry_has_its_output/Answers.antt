use Rattle.esb_link.proofs.Outputs.{one_file, copied_file}
use Rattle.esb_link.proofs.laws.each_entry_has_its_output.Goals as goal

pub returns-clause-one : goal.returns-clause-one
returns-clause-one c = one_file

pub returns-clause-contents : goal.returns-clause-contents
returns-clause-contents c = copied_file
