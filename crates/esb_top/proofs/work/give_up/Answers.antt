use Rattle.esb_core.specs.History.{replay}
use Rattle.esb_top.proofs.Working.{may-give_up}
use Rattle.esb_top.proofs.work.give_up.Goals as goal

pub settle-requires-clause-may : goal.settle-requires-clause-may
settle-requires-clause-may c = may-give_up (replay c.args.history.now.events) c.args.build c.args.task.now c.requires.at

pub settle-requires-clause-may_refuse : goal.settle-requires-clause-may_refuse
settle-requires-clause-may_refuse c = may-give_up (replay c.args.history.now.events) c.args.build c.args.task.now c.requires.at
