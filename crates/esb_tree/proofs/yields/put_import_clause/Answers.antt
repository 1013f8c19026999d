use Rattle.std.proofs.Common.{refl, ap}
use Rattle.std.specs.List.{flat_map}
use Rattle.esb_tree.specs.Trees.{completed}
use Rattle.esb_tree.specs.Modules as spec
use Rattle.esb_tree.proofs.Adding.{adds_none, adds_then, adds_is, adds_of, adds_next, adds_all}
use Rattle.esb_tree.proofs.yields.put_import_clause.Goals as goal

pub returns-in-DefaultBinding : goal.returns-in-DefaultBinding
returns-in-DefaultBinding c = adds_is _ _ _ _ c.put.ensures (ap (spec.tokens_of_import_clause) c.in-DefaultBinding.is)

pub returns-in-NameSpace : goal.returns-in-NameSpace
returns-in-NameSpace c = adds_is _ _ _ _ (adds_then _ _ _ _ _ c.put-in-NameSpace.ensures (adds_then _ _ _ _ _ c.put-in-NameSpace-2.ensures c.put-in-NameSpace-3.ensures)) (ap (spec.tokens_of_import_clause) c.in-NameSpace.is)

pub returns-in-Names : goal.returns-in-Names
returns-in-Names c = adds_is _ _ _ _ c.put_specifiers.ensures (ap (spec.tokens_of_import_clause) c.in-Names.is)

pub returns-in-DefaultAndNameSpace : goal.returns-in-DefaultAndNameSpace
returns-in-DefaultAndNameSpace c = adds_is _ _ _ _ (adds_then _ _ _ _ _ c.put-in-DefaultAndNameSpace.ensures (adds_then _ _ _ _ _ c.put-in-DefaultAndNameSpace-2.ensures (adds_then _ _ _ _ _ c.put-in-DefaultAndNameSpace-3.ensures (adds_then _ _ _ _ _ c.put-in-DefaultAndNameSpace-4.ensures c.put-in-DefaultAndNameSpace-5.ensures)))) (ap (spec.tokens_of_import_clause) c.in-DefaultAndNameSpace.is)

pub returns-in-DefaultAndNames : goal.returns-in-DefaultAndNames
returns-in-DefaultAndNames c = adds_is _ _ _ _ (adds_then _ _ _ _ _ c.put-in-DefaultAndNames.ensures (adds_then _ _ _ _ _ c.put-in-DefaultAndNames-2.ensures c.put_specifiers-in-DefaultAndNames.ensures)) (ap (spec.tokens_of_import_clause) c.in-DefaultAndNames.is)
