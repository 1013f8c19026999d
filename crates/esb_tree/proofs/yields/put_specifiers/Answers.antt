use Rattle.std.proofs.Common.{refl, ap}
use Rattle.std.specs.List.{flat_map}
use Rattle.esb_tree.specs.Trees.{completed}
use Rattle.esb_tree.specs.Modules as spec
use Rattle.esb_tree.proofs.Adding.{adds_none, adds_then, adds_is, adds_of, adds_next, adds_all}
use Rattle.esb_tree.proofs.yields.put_specifiers.Goals as goal

pub returns : goal.returns
returns c = adds_is _ _ _ _ (adds_then _ _ _ _ _ c.put.ensures (adds_then _ _ _ _ _ c.put_specifier.ensures (adds_then _ _ _ _ _ (adds_of (flat_map spec.tokens_of_next_specifier) _ _ _ _ c.as_slice.ensures c.put_next_specifiers.ensures) c.put-2.ensures))) refl
