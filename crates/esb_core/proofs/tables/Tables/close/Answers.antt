use Rattle.std.proofs.Common.{refl, ap, ◌∙◌, ◌-◌, length, Bool, List, ℕ}
use Rattle.esb_core.specs.Known.{Known}
use Rattle.esb_core.specs.State.{Building}
use Rattle.esb_core.specs.Queue.{Queue}
use Rattle.esb_core.proofs.Keeping.{kept-closed, at-index}
use Rattle.esb_core.proofs.tables.Tables.close.Goals as goal

pub pass_over-requires : goal.pass_over-requires
pass_over-requires c =
    let ids = c.waiting.ensures ∙ ap (λ (b : Building). b.waiting) (at-index c.args.self.now.builds.items c.args.build c.index.result.now c.requires.over.active.begun c.index.ensures) in
    kept-closed c.args.self.now _ c.args.key c.args.build c.close-2.new.self c.index_mut.result.now c.requires.over c.index_mut.ensures.value c.close-2.ensures (ap (λ (k : Known). k.contexts) c.close.ensures)
    (ap (λ (k : Known). k.active) c.close.ensures) refl refl
    (ap (λ (q : Queue). q.promised) c.owe_results.ensures ∙ ap (λ (xs : List (ℕ × Bool)). c.args.self.now.replies.promised - length xs) ids) c.requires.kept
