use Rattle.std.proofs.Common.{refl, ap}
use Rattle.std.specs.List.{flat_map}
use Rattle.esb_tree.specs.Trees.{completed}
use Rattle.esb_tree.specs.Modules as spec
use Rattle.esb_tree.proofs.Adding.{adds_none, adds_then, adds_is, adds_of, adds_next, adds_all}
use Rattle.esb_tree.proofs.yields.put_item.Goals as goal

pub returns-in-Item : goal.returns-in-Item
returns-in-Item c = adds_is _ _ _ _ c.put_statement.ensures (ap (spec.tokens_of_item completed) c.in-Item.is)

pub returns-in-ImportModule : goal.returns-in-ImportModule
returns-in-ImportModule c = adds_is _ _ _ _ (adds_then _ _ _ _ _ c.put.ensures (adds_then _ _ _ _ _ c.put-in-ImportModule.ensures c.put_end.ensures)) (ap (spec.tokens_of_item completed) c.in-ImportModule.is)

pub returns-in-Import : goal.returns-in-Import
returns-in-Import c = adds_is _ _ _ _ (adds_then _ _ _ _ _ c.put-in-Import.ensures (adds_then _ _ _ _ _ c.put_import_clause.ensures (adds_then _ _ _ _ _ c.put-in-Import-2.ensures (adds_then _ _ _ _ _ c.put-in-Import-3.ensures c.put_end-in-Import.ensures)))) (ap (spec.tokens_of_item completed) c.in-Import.is)

pub returns-in-ExportAll : goal.returns-in-ExportAll
returns-in-ExportAll c = adds_is _ _ _ _ (adds_then _ _ _ _ _ c.put-in-ExportAll.ensures (adds_then _ _ _ _ _ c.put-in-ExportAll-2.ensures (adds_then _ _ _ _ _ c.put-in-ExportAll-3.ensures (adds_then _ _ _ _ _ c.put-in-ExportAll-4.ensures c.put_end-in-ExportAll.ensures)))) (ap (spec.tokens_of_item completed) c.in-ExportAll.is)

pub returns-in-ExportAllAs : goal.returns-in-ExportAllAs
returns-in-ExportAllAs c = adds_is _ _ _ _ (adds_then _ _ _ _ _ c.put-in-ExportAllAs.ensures (adds_then _ _ _ _ _ c.put-in-ExportAllAs-2.ensures (adds_then _ _ _ _ _ c.put-in-ExportAllAs-3.ensures (adds_then _ _ _ _ _ c.put-in-ExportAllAs-4.ensures (adds_then _ _ _ _ _ c.put-in-ExportAllAs-5.ensures (adds_then _ _ _ _ _ c.put-in-ExportAllAs-6.ensures c.put_end-in-ExportAllAs.ensures)))))) (ap (spec.tokens_of_item completed) c.in-ExportAllAs.is)

pub returns-in-ExportFrom : goal.returns-in-ExportFrom
returns-in-ExportFrom c = adds_is _ _ _ _ (adds_then _ _ _ _ _ c.put-in-ExportFrom.ensures (adds_then _ _ _ _ _ c.put_specifiers.ensures (adds_then _ _ _ _ _ c.put-in-ExportFrom-2.ensures (adds_then _ _ _ _ _ c.put-in-ExportFrom-3.ensures c.put_end-in-ExportFrom.ensures)))) (ap (spec.tokens_of_item completed) c.in-ExportFrom.is)

pub returns-in-ExportNames : goal.returns-in-ExportNames
returns-in-ExportNames c = adds_is _ _ _ _ (adds_then _ _ _ _ _ c.put-in-ExportNames.ensures (adds_then _ _ _ _ _ c.put_specifiers-in-ExportNames.ensures c.put_end-in-ExportNames.ensures)) (ap (spec.tokens_of_item completed) c.in-ExportNames.is)

pub returns-in-ExportDeclaration : goal.returns-in-ExportDeclaration
returns-in-ExportDeclaration c = adds_is _ _ _ _ (adds_then _ _ _ _ _ c.put-in-ExportDeclaration.ensures c.put_statement-in-ExportDeclaration.ensures) (ap (spec.tokens_of_item completed) c.in-ExportDeclaration.is)

pub returns-in-ExportDefaultDeclaration : goal.returns-in-ExportDefaultDeclaration
returns-in-ExportDefaultDeclaration c = adds_is _ _ _ _ (adds_then _ _ _ _ _ c.put-in-ExportDefaultDeclaration.ensures (adds_then _ _ _ _ _ c.put-in-ExportDefaultDeclaration-2.ensures c.put_statement-in-ExportDefaultDeclaration.ensures)) (ap (spec.tokens_of_item completed) c.in-ExportDefaultDeclaration.is)

pub returns-in-ExportDefault : goal.returns-in-ExportDefault
returns-in-ExportDefault c = adds_is _ _ _ _ (adds_then _ _ _ _ _ c.put-in-ExportDefault.ensures (adds_then _ _ _ _ _ c.put-in-ExportDefault-2.ensures (adds_then _ _ _ _ _ c.put_expression.ensures c.put_end-in-ExportDefault.ensures))) (ap (spec.tokens_of_item completed) c.in-ExportDefault.is)
