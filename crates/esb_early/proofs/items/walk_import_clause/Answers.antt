use Rattle.std.proofs.Common.{ap}
use Rattle.esb_early.specs.Items as spec
use Rattle.esb_early_checks.proofs.Steps.{finds_none, finds_then, finds_is}
use Rattle.esb_early.proofs.items.walk_import_clause.Goals as goal

pub returns-in-DefaultBinding : goal.returns-in-DefaultBinding
returns-in-DefaultBinding c = finds_is _ _ _ _ (ap (spec.breaches_of_import_clause c.args.text.now) c.in-DefaultBinding.is) c.check_bound.ensures

pub returns-in-NameSpace : goal.returns-in-NameSpace
returns-in-NameSpace c = finds_is _ _ _ _ (ap (spec.breaches_of_import_clause c.args.text.now) c.in-NameSpace.is) c.check_bound-in-NameSpace.ensures

pub returns-in-Names : goal.returns-in-Names
returns-in-Names c = finds_is _ _ _ _ (ap (spec.breaches_of_import_clause c.args.text.now) c.in-Names.is) c.walk_specifiers.ensures

pub returns-in-DefaultAndNameSpace : goal.returns-in-DefaultAndNameSpace
returns-in-DefaultAndNameSpace c = finds_is _ _ _ _ (ap (spec.breaches_of_import_clause c.args.text.now) c.in-DefaultAndNameSpace.is) (finds_then _ _ _ _ _ c.check_bound-in-DefaultAndNameSpace.ensures (finds_then _ _ _ _ _ c.check_bound-in-DefaultAndNameSpace-2.ensures (finds_none _)))

pub returns-in-DefaultAndNames : goal.returns-in-DefaultAndNames
returns-in-DefaultAndNames c = finds_is _ _ _ _ (ap (spec.breaches_of_import_clause c.args.text.now) c.in-DefaultAndNames.is) (finds_then _ _ _ _ _ c.check_bound-in-DefaultAndNames.ensures (finds_then _ _ _ _ _ c.walk_specifiers-in-DefaultAndNames.ensures (finds_none _)))
