use Rattle.esb_flags.proofs.Says.{says, reads}
use Rattle.esb_flags.proofs.laws.said_commands.Goals as goal

pub returns-clause-said : goal.returns-clause-said
returns-clause-said c = says

pub returns-clause-read : goal.returns-clause-read
returns-clause-read c = reads
