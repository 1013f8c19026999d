use Rattle.std.proofs.Common.{ℕ, List, [], ◌++◌, subst}
use Rattle.esb_top.specs.Output.{Wrote}
use Rattle.esb_top.proofs.Sessions.{wrote-nothing}
use Rattle.esb_top.proofs.run.greet.Goals as goal

pub returns-clause-wrote : goal.returns-clause-wrote
returns-clause-wrote g c =
    subst (λ (front : List ℕ). Wrote g.K.Sink.tells (g.K.Sink.holds c.args.sink.now) (g.K.Sink.holds c.put.new.sink) (front ++ c.args.text.now) c.put.result) c.to_le_bytes-length.ensures
    (c.put.ensures.wrote _ c.to_le_bytes-length.result (c.put-whole.ensures.wrote _ [] (λ t. wrote-nothing _)))
