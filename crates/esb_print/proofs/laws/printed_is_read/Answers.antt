use Rattle.esb_print.proofs.Rereading.{printed-is_read}
use Rattle.esb_print.proofs.laws.printed_is_read.Goals as goal

pub returns : goal.returns
returns c = printed-is_read
