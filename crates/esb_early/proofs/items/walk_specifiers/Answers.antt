use Rattle.esb_early.specs.Items as spec
use Rattle.esb_early_checks.proofs.Steps.{finds_none, finds_then, finds_of}
use Rattle.esb_early.proofs.items.walk_specifiers.Goals as goal

pub returns : goal.returns
returns c = finds_then _ _ _ _ _ c.walk_specifier.ensures (finds_then _ _ _ _ _ (finds_of (spec.nexts_breaches c.args.text.now c.args.is_import) _ _ _ _ c.as_slice.ensures c.walk_next_specifiers.ensures) (finds_none _))
