use Rattle.std.proofs.Common.{ap, ◌∙◌}
use Rattle.esb_early.specs.Parameters.{repeated_breaches}
use Rattle.esb_early_checks.proofs.Steps.{finds_of}
use Rattle.esb_early.proofs.repeated.check_gathered.Goals as goal

pub returns-then-names : goal.returns-then-names
returns-then-names c list same = c.refuse.ensures (repeated_breaches c.args.text.now list)

pub returns-else-names : goal.returns-else-names
returns-else-names c list same = finds_of (repeated_breaches c.args.text.now) _ _ _ _ (c.as_slice.ensures ∙ same c.if-names.false) c.check_names.ensures
