use Rattle.esb_link.proofs.Outputs.{out_files_ascend}
use Rattle.esb_link.proofs.laws.outputs_ascend.Goals as goal

pub returns : goal.returns
returns c = out_files_ascend
