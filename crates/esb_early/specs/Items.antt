-- The breaches of early rules in the items of a module (ECMA-262, 15.2).
use Rattle.std.specs.Prelude.{ℕ, Bool, true, false, if◌then◌else◌, List, [], ◌∷◌, ◌++◌}
use Rattle.esb_token.specs.declared.token.Token.{Token}
use Rattle.esb_tree.specs.declared.modules.ImportClause.{ImportClause}
use Rattle.esb_tree.specs.declared.modules.ImportClause.TheVariants as i
use Rattle.esb_tree.specs.declared.modules.ModuleItem.{ModuleItem}
use Rattle.esb_tree.specs.declared.modules.ModuleItem.TheVariants as m
use Rattle.esb_tree.specs.declared.modules.NextSpecifier.{NextSpecifier}
use Rattle.esb_tree.specs.declared.modules.Specifier.{Specifier}
use Rattle.esb_tree.specs.declared.modules.Specifier.TheVariants as p
use Rattle.esb_tree.specs.declared.modules.Specifiers.{Specifiers}
use Rattle.esb_tree.specs.declared.modules.Tree.{Tree}
use Rattle.esb_early_checks.specs.declared.breach.Breach.{Breach}
use Rattle.esb_early_checks.specs.declared.roles.Role.TheVariants as r
use Rattle.esb_early_checks.specs.Findings.{Finding, together}
use Rattle.esb_early.specs.Rules.{breaches_of_statement, breaches_of_expression}
use Rattle.esb_early_checks.specs.Settings.{of_module}
use Rattle.esb_early_checks.specs.Tests.{bound_breaches, reference_breaches}

-- the name that an import binds, which is the other one (15.2.2), or that an export without a module uses (15.2.3.1)
abbrev pub name_breaches : List ℕ → Bool → Token → Token → Finding
name_breaches text is_import name other = if is_import then bound_breaches text other else reference_breaches text name

abbrev pub breaches_of_specifier : List ℕ → Bool → Specifier → Finding
breaches_of_specifier text is_import p.NoSpecifier = together []
breaches_of_specifier text is_import (p.Same name) = name_breaches text is_import name name
breaches_of_specifier text is_import (p.Renamed name word other) = name_breaches text is_import name other

abbrev pub nexts_breaches : List ℕ → Bool → List NextSpecifier → Finding
nexts_breaches text is_import [] labels = []
nexts_breaches text is_import (x ∷ xs) labels = breaches_of_specifier text is_import x.specifier labels ++ nexts_breaches text is_import xs labels

abbrev pub breaches_of_specifiers : List ℕ → Bool → Specifiers → Finding
breaches_of_specifiers text is_import x = together (breaches_of_specifier text is_import x.first ∷ nexts_breaches text is_import x.rest ∷ [])

abbrev pub breaches_of_import_clause : List ℕ → ImportClause → Finding
breaches_of_import_clause text (i.DefaultBinding name) = bound_breaches text name
breaches_of_import_clause text (i.NameSpace star word name) = bound_breaches text name
breaches_of_import_clause text (i.Names list) = breaches_of_specifiers text true list
breaches_of_import_clause text (i.DefaultAndNameSpace default comma star word name) = together (bound_breaches text default ∷ bound_breaches text name ∷ [])
breaches_of_import_clause text (i.DefaultAndNames default comma list) = together (bound_breaches text default ∷ breaches_of_specifiers text true list ∷ [])

abbrev pub breaches_of_item : List ℕ → ModuleItem → Finding
breaches_of_item text (m.Item x) = breaches_of_statement x text of_module
breaches_of_item text (m.ImportModule word source end) = together []
breaches_of_item text (m.Import word clause from source end) = breaches_of_import_clause text clause
breaches_of_item text (m.ExportAll word star from source end) = together []
breaches_of_item text (m.ExportAllAs word star as_word name from source end) = together []
breaches_of_item text (m.ExportFrom word list from source end) = together []
breaches_of_item text (m.ExportNames word list end) = breaches_of_specifiers text false list
breaches_of_item text (m.ExportDeclaration word x) = breaches_of_statement x text of_module
breaches_of_item text (m.ExportDefaultDeclaration word default x) = breaches_of_statement x text of_module
breaches_of_item text (m.ExportDefault word default x end) = breaches_of_expression x text of_module r.Value

abbrev pub breaches_of_items : List ℕ → List ModuleItem → Finding
breaches_of_items text [] labels = []
breaches_of_items text (x ∷ xs) labels = breaches_of_item text x labels ++ breaches_of_items text xs labels

-- the breaches in a module, with no label round its items
unfoldable pub breaches : List ℕ → Tree → List Breach
breaches text tree = breaches_of_items text tree.items []
