use Rattle.esb_link.proofs.Outputs.{output_is, file_is}
use Rattle.esb_link.proofs.laws.files_are_the_outputs.Goals as goal

pub returns-clause-each : goal.returns-clause-each
returns-clause-each c = output_is

pub returns-clause-none_else : goal.returns-clause-none_else
returns-clause-none_else c = file_is
