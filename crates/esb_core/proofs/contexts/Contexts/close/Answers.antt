use Rattle.std.proofs.Common.{ℕ, List, ap, ◌∙◌}
use Rattle.esb_core.proofs.Entries.{removed}
use Rattle.esb_core.proofs.contexts.Contexts.close.Goals as goal

pub returns : goal.returns
returns c = rw (← c.self.view_is)
    (ap (λ (es : List (ℕ × ℕ)). record { contexts = c.self.inside.options.entries; retired = c.self.inside.retired.items; active = es }) (c.shift_remove.ensures.entries ∙ removed c.args.key c.self.inside.active.entries c.len.ensures.unique))
