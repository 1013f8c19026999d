use Rattle.esb_ask.specs.declared.outcome.Outcome.TheVariants as outcomes
use Rattle.esb_core.specs.State.{build_at}
use Rattle.esb_core.specs.History.{replay}
use Rattle.esb_top.proofs.Working.{linked-by, may-settle}
use Rattle.esb_top.proofs.work.link_build.Goals as goal

pub settle-requires-clause-may : goal.settle-requires-clause-may
settle-requires-clause-may c = may-settle (replay c.args.history.now.events) c.args.build c.outcome_of-outcome.result _ _ c.requires.at c.outcome_of-outcome.ensures

pub settle-requires-clause-may_refuse : goal.settle-requires-clause-may_refuse
settle-requires-clause-may_refuse c =
    may-settle (replay c.args.history.now.events) c.args.build outcomes.Memory (build_at (replay c.args.history.now.events).builds c.args.build).options (build_at (replay c.args.history.now.events).builds c.args.build).table c.requires.at tt

pub returns : goal.returns
returns c = linked-by c.args.history.now c.settle.new.self c.args.build c.outcome_of-outcome.result c.is_legal.ensures c.outcome_of-outcome.ensures c.settle.ensures
