use Rattle.std.proofs.Common.{ap}
use Rattle.esb_early.specs.Items as spec
use Rattle.esb_early_checks.proofs.Steps.{finds_none, finds_is}
use Rattle.esb_early.proofs.items.walk_specifier.Goals as goal

pub returns-in-NoSpecifier : goal.returns-in-NoSpecifier
returns-in-NoSpecifier c = finds_is _ _ _ _ (ap (spec.breaches_of_specifier c.args.text.now c.args.is_import) c.in-NoSpecifier.is) (finds_none _)

pub returns-in-Same : goal.returns-in-Same
returns-in-Same c = finds_is _ _ _ _ (ap (spec.breaches_of_specifier c.args.text.now c.args.is_import) c.in-Same.is) c.check_name.ensures

pub returns-in-Renamed : goal.returns-in-Renamed
returns-in-Renamed c = finds_is _ _ _ _ (ap (spec.breaches_of_specifier c.args.text.now c.args.is_import) c.in-Renamed.is) c.check_name-in-Renamed.ensures
