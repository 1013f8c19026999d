use Rattle.std.proofs.Common.{rules, tests}
use Rattle.std.proofs.lemmas.Iterator.Search.{any_from_yields_List}
use Rattle.std.proofs.lemmas.Iterator.Splits.{YieldsList-from_slice_split}
use Rattle.esb_exports.specs.Segments.{is_separator, is_bad, has_bad}
use Rattle.esb_exports.proofs.segments.has_bad.Goals as goal

pub returns : goal.returns
unfolding has_bad
returns c =
    any_from_yields_List is_bad _ _ c.any.result c.any.ensures.ran
    (YieldsList-from_slice_split _ is_separator c.args.units.now c.split.ensures.rest c.split.ensures.done c.split.ensures.closure (λ x r q k. search (rules, tests)))
    (λ x b q k. search rules)
