use Rattle.std.proofs.Common.{ap}
use Rattle.esb_early.specs.Items as spec
use Rattle.esb_early.specs.Rules.{breaches_of_statement, breaches_of_expression}
use Rattle.esb_early_checks.specs.declared.roles.Role.TheVariants as r
use Rattle.esb_early_checks.proofs.Steps.{finds_none, finds_is, finds_of}
use Rattle.esb_early.proofs.items.walk_item.Goals as goal

pub returns-in-Item : goal.returns-in-Item
returns-in-Item c = finds_is _ _ _ _ (ap (spec.breaches_of_item c.args.text.now) c.in-Item.is) (finds_of (λ s. breaches_of_statement c.in-Item.x c.args.text.now s) _ _ _ _ c.of_module.ensures c.walk_statement.ensures)

pub returns-in-ImportModule : goal.returns-in-ImportModule
returns-in-ImportModule c = finds_is _ _ _ _ (ap (spec.breaches_of_item c.args.text.now) c.in-ImportModule.is) (finds_none _)

pub returns-in-Import : goal.returns-in-Import
returns-in-Import c = finds_is _ _ _ _ (ap (spec.breaches_of_item c.args.text.now) c.in-Import.is) c.walk_import_clause.ensures

pub returns-in-ExportAll : goal.returns-in-ExportAll
returns-in-ExportAll c = finds_is _ _ _ _ (ap (spec.breaches_of_item c.args.text.now) c.in-ExportAll.is) (finds_none _)

pub returns-in-ExportAllAs : goal.returns-in-ExportAllAs
returns-in-ExportAllAs c = finds_is _ _ _ _ (ap (spec.breaches_of_item c.args.text.now) c.in-ExportAllAs.is) (finds_none _)

pub returns-in-ExportFrom : goal.returns-in-ExportFrom
returns-in-ExportFrom c = finds_is _ _ _ _ (ap (spec.breaches_of_item c.args.text.now) c.in-ExportFrom.is) (finds_none _)

pub returns-in-ExportNames : goal.returns-in-ExportNames
returns-in-ExportNames c = finds_is _ _ _ _ (ap (spec.breaches_of_item c.args.text.now) c.in-ExportNames.is) c.walk_specifiers.ensures

pub returns-in-ExportDeclaration : goal.returns-in-ExportDeclaration
returns-in-ExportDeclaration c = finds_is _ _ _ _ (ap (spec.breaches_of_item c.args.text.now) c.in-ExportDeclaration.is) (finds_of (λ s. breaches_of_statement c.in-ExportDeclaration.x c.args.text.now s) _ _ _ _ c.of_module-in-ExportDeclaration.ensures c.walk_statement-in-ExportDeclaration.ensures)

pub returns-in-ExportDefaultDeclaration : goal.returns-in-ExportDefaultDeclaration
returns-in-ExportDefaultDeclaration c = finds_is _ _ _ _ (ap (spec.breaches_of_item c.args.text.now) c.in-ExportDefaultDeclaration.is) (finds_of (λ s. breaches_of_statement c.in-ExportDefaultDeclaration.x c.args.text.now s) _ _ _ _ c.of_module-in-ExportDefaultDeclaration.ensures c.walk_statement-in-ExportDefaultDeclaration.ensures)

pub returns-in-ExportDefault : goal.returns-in-ExportDefault
returns-in-ExportDefault c = finds_is _ _ _ _ (ap (spec.breaches_of_item c.args.text.now) c.in-ExportDefault.is) (finds_of (λ s. breaches_of_expression c.in-ExportDefault.x c.args.text.now s r.Value) _ _ _ _ c.of_module-in-ExportDefault.ensures c.walk_expression.ensures.breaches)
