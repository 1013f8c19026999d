use Rattle.std.proofs.Common.{ℕ, List, [], sym, subst, arith}
use Rattle.esb_top.specs.Output.{Wrote}
use Rattle.std.proofs.lemmas.Bool.{false≢true}
use Rattle.esb_top.proofs.Sessions.{wrote-nothing}
use Rattle.esb_top.proofs.run.put_line.Goals as goal

pub returns : goal.returns
returns g c = record {
  whole = c.put.result;
  wrote = subst (λ (bytes : List ℕ). Wrote g.K.Sink.tells (g.K.Sink.holds c.args.sink.now) (g.K.Sink.holds c.put.new.sink) bytes c.put.result) c.bad_word_line.ensures (c.put.ensures.wrote _ [] (λ t. wrote-nothing _));
  failed = c.put.ensures.failed _ (omega arith) (λ e. absurd (false≢true (sym e)));
}
