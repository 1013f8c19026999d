use Rattle.std.proofs.Common.{ℕ, List, nat_eq, ap, ◌∙◌}
use Rattle.std.specs.Map.{lookup}
use Rattle.esb_flags.specs.declared.options.Options.{Options}
use Rattle.esb_core.specs.Known.{Known}
use Rattle.esb_core.proofs.Entries.{inserted}
use Rattle.esb_core.proofs.contexts.Contexts.make.Goals as goal

pub returns-clause-ok : goal.returns-clause-ok
returns-clause-ok c = rw (← c.self.view_is)
    (ap (λ (es : List (ℕ × Options)). record { contexts = es; retired = c.self.inside.retired.items; active = c.self.inside.active.entries })
    (c.in_ok-insert.ensures.entries ∙ inserted c.args.key c.args.options c.self.inside.options.entries (ap (λ (k : Known). lookup (nat_eq c.args.key) k.contexts) c.self.view_is ∙ c.requires)))
