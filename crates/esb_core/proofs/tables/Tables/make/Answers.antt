use Rattle.std.proofs.Common.{refl, ap, arith}
use Rattle.esb_core.specs.Known.{Known}
use Rattle.esb_core.specs.Kept.{state_of}
use Rattle.esb_core.specs.Moves.{make}
use Rattle.esb_core.specs.Steps.{moved}
use Rattle.esb_core.specs.Queue.{Queue}
use Rattle.esb_core.proofs.Keeping.{kept-builds}
use Rattle.esb_core.proofs.Orders.{moved-ordered, ordered-as}
use Rattle.esb_core.proofs.tables.Tables.make.Goals as goal

pub returns-clause-kept : goal.returns-clause-kept
returns-clause-kept c =
    let more = ap (λ (q : Queue). q.promised) c.in_ok-promise.ensures.ok in
    let less = ap (λ (q : Queue). q.promised) c.owe.ensures in
    let room = c.requires.kept.room in
    let made = moved-ordered (state_of c.args.self.now) (make c.args.key c.in_ok-options.options) c.requires.new c.requires.kept.ordered in
    kept-builds c.args.self.now _ refl refl (omega (arith, more, less, room))
    (ordered-as (moved (state_of c.args.self.now) (make c.args.key c.in_ok-options.options)) _ (ap (λ (k : Known). k.contexts) c.in_ok-make.ensures.ok) (ap (λ (k : Known). k.active) c.in_ok-make.ensures.ok) refl made)
    c.requires.kept
