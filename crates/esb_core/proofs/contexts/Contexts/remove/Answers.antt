use Rattle.std.proofs.Common.{ℕ, List, ap, ◌∙◌}
use Rattle.esb_flags.specs.declared.options.Options.{Options}
use Rattle.esb_core.specs.Steps.{without}
use Rattle.esb_core.proofs.Entries.{removed}
use Rattle.esb_core.proofs.contexts.Contexts.remove.Goals as goal

pub returns : goal.returns
returns c = rw (← c.self.view_is)
    (ap (λ (es : List (ℕ × Options)). record { contexts = es; retired = c.forget.new.keys.items; active = c.self.inside.active.entries }) (c.shift_remove.ensures.entries ∙ removed c.args.key c.self.inside.options.entries c.len.ensures.unique)
    ∙ ap (λ (ks : List ℕ). record { contexts = without c.args.key c.self.inside.options.entries; retired = ks; active = c.self.inside.active.entries }) c.forget.ensures)
