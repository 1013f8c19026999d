use Rattle.std.proofs.Common.{sym, ◌∙◌}
use Rattle.esb_core.proofs.tables.Tables.cancel_active.Goals as goal

pub end_build-requires-clause-active : goal.end_build-requires-clause-active
end_build-requires-clause-active c = c.requires.kept.ordered.active c.args.key c.in-Some.build (sym c.active.ensures ∙ c.in-Some.is)
