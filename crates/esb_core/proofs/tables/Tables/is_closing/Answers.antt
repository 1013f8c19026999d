use Rattle.std.proofs.Common.{◌&&◌, List, drop, ap, sym, ◌∙◌}
use Rattle.std.specs.List.{list_all}
use Rattle.std.proofs.lemmas.List.{take_rest}
use Rattle.esb_core.specs.State.{Building}
use Rattle.esb_core.specs.Allowed.{is_closed}
use Rattle.esb_core.proofs.Jobs.{closed_past}
use Rattle.esb_core.proofs.Keeping.{shut-first}
use Rattle.esb_core.proofs.tables.Tables.is_closing.Goals as goal

pub returns-then-self : goal.returns-then-self
returns-then-self c =
    let past = closed_past c.args.self.now.passed c.args.self.now.builds.items c.requires.passed (shut-first c.args.self.now c.requires) in
    c.are_closed.ensures ∙ ap (λ (bs : List Building). list_all is_closed bs) (take_rest c.deref.result.now c.args.self.now.passed)
    ∙ ap (λ (bs : List Building). list_all is_closed (drop c.args.self.now.passed bs)) c.deref.ensures.value
    ∙ sym past ∙ ap (λ b. b && list_all is_closed c.args.self.now.builds.items) (sym c.if-self.true)
