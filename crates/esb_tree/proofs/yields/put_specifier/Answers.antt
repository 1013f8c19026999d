use Rattle.std.proofs.Common.{refl, ap}
use Rattle.std.specs.List.{flat_map}
use Rattle.esb_tree.specs.Trees.{completed}
use Rattle.esb_tree.specs.Modules as spec
use Rattle.esb_tree.proofs.Adding.{adds_none, adds_then, adds_is, adds_of, adds_next, adds_all}
use Rattle.esb_tree.proofs.yields.put_specifier.Goals as goal

pub returns-in-NoSpecifier : goal.returns-in-NoSpecifier
returns-in-NoSpecifier c = adds_is _ _ _ _ (adds_none _) (ap (spec.tokens_of_specifier) c.in-NoSpecifier.is)

pub returns-in-Same : goal.returns-in-Same
returns-in-Same c = adds_is _ _ _ _ c.put.ensures (ap (spec.tokens_of_specifier) c.in-Same.is)

pub returns-in-Renamed : goal.returns-in-Renamed
returns-in-Renamed c = adds_is _ _ _ _ (adds_then _ _ _ _ _ c.put-in-Renamed.ensures (adds_then _ _ _ _ _ c.put-in-Renamed-2.ensures c.put-in-Renamed-3.ensures)) (ap (spec.tokens_of_specifier) c.in-Renamed.is)
