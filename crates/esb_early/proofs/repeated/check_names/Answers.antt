use Rattle.std.proofs.Common.{[], drop}
use Rattle.std.specs.Vec.{vec_items}
use Rattle.esb_early.specs.Parameters.{repeated_behind}
use Rattle.esb_early_checks.proofs.Steps.{finds_is, finds_nothing}
use Rattle.esb_early.proofs.RepeatedSteps.{holds_none, repeated_turn, repeated_end, repeated_few}
use Rattle.esb_early.proofs.repeated.check_names.Goals as goal

pub returns-then-names-lt2 : goal.returns-then-names-lt2
returns-then-names-lt2 c = finds_is _ _ _ _ (repeated_few c.args.text.now c.args.names.now c.if-names-lt2.true) (finds_nothing _)

pub loop-name-init : goal.loop-name-init
loop-name-init c = ([], holds_none vec_items c.args.text.now _ c.new-seen.ensures.empty, λ end rest. rest)

pub loop-name-preserved : goal.loop-name-preserved
loop-name-preserved c = repeated_turn vec_items c.args.text.now c.args.names.now c.loop-name.name-index _ c.loop-name.invariant.0 _ _ _ _ _ _ c.loop-name.invariant.1 c.in-Ok.ensures c.loop-name-test.true c.loop-name.invariant.2 c.report_if.ensures

pub returns-in-Err : goal.returns-in-Err
returns-in-Err c = c.loop-name.invariant.2 _ (c.refuse.ensures (repeated_behind c.args.text.now c.loop-name.invariant.0 (drop c.loop-name.name-index c.args.names.now)))

pub returns : goal.returns
returns c = repeated_end c.args.text.now c.args.names.now c.loop-name.name-index c.loop-name.invariant.0 _ _ c.loop-name-test.false (c.loop-name.invariant.2 _)
