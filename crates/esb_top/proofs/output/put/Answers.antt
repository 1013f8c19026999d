use Rattle.std.proofs.Common.{◌++◌, Bool, sym, subst}
use Rattle.esb_top.specs.Output.{IsWritten}
use Rattle.esb_top.proofs.Outputs.{wrote-more}
use Rattle.esb_top.proofs.output.put.Goals as goal

pub returns-then-whole-clause-wrote : goal.returns-then-whole-clause-wrote
returns-then-whole-clause-wrote g c =
    λ before so_far w t.
    subst (λ (b : Bool). IsWritten before (g.K.Sink.holds c.write.new.self) (so_far ++ c.args.bytes.now) b) (sym c.is_ok.ensures.value)
    (wrote-more before (g.K.Sink.holds c.args.sink.now) (g.K.Sink.holds c.write.new.self) so_far c.args.bytes.now c.write.result
    (subst (λ (b : Bool). IsWritten before (g.K.Sink.holds c.args.sink.now) so_far b) c.if-whole.true (w t)) (c.write.ensures.all t) (c.write.ensures.some t))
