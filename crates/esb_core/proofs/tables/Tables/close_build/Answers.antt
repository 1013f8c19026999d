use Rattle.std.proofs.Common.{refl, ap, ◌∙◌}
use Rattle.esb_core.specs.Kept.{state_of}
use Rattle.esb_core.specs.Known.{Known}
use Rattle.esb_core.specs.Moves.{remove}
use Rattle.esb_core.specs.State.{State}
use Rattle.esb_core.specs.Steps.{moved, active_of}
use Rattle.esb_core.proofs.Keeping.{kept-builds}
use Rattle.esb_core.proofs.Lookups.{without-same}
use Rattle.esb_core.proofs.Orders.{moved-ordered, ordered-as}
use Rattle.esb_core.proofs.tables.Tables.close_build.Goals as goal

pub returns-then-not-stays-clause-kept : goal.returns-then-not-stays-clause-kept
returns-then-not-stays-clause-kept c =
    let idle = ap (λ (s : State). active_of s c.args.key) c.close.ensures.state ∙ without-same c.args.key c.args.self.now.contexts.active in
    let gone = moved-ordered (state_of c.close.new.self) (remove c.args.key) idle c.close.ensures.kept.ordered in
    kept-builds c.close.new.self _ refl refl c.close.ensures.kept.room
    (ordered-as (moved (state_of c.close.new.self) (remove c.args.key)) _ (ap (λ (k : Known). k.contexts) c.remove.ensures) (ap (λ (k : Known). k.active) c.remove.ensures) refl gone)
    c.close.ensures.kept
