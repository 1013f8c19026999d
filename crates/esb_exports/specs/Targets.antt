-- What a package's exports and imports lead to (Node.js, PACKAGE_EXPORTS_RESOLVE and PACKAGE_IMPORTS_RESOLVE).
use Rattle.std.specs.Prelude.{◌≡◌, ℕ, IsTrue, Bool, true, false, ◌==◌, ◌||◌, not, if◌then◌else◌, List, [], slice_index, Option, Some, None, Result, Ok, Err, codes}
use Rattle.std.specs.List.{list_any}
use Rattle.std.specs.Str.{bytes_eq}
use Rattle.esb_json.specs.declared.value.Json.{Json, out-Json}
use Rattle.esb_json.specs.declared.value.Json.TheOpen.{Json-F}
use Rattle.esb_exports.specs.declared.fault.TargetFault.{TargetFault}
use Rattle.esb_exports.specs.declared.fault.TargetFault.TheVariants as fault
use Rattle.esb_exports.specs.declared.outcome.Target.{Target}
use Rattle.esb_exports.specs.declared.outcome.Target.TheVariants.{File, Bare}
use Rattle.esb_exports.specs.declared.outcome.Outcome.{Outcome}
use Rattle.esb_exports.specs.declared.outcome.Outcome.TheVariants.{Undefined, Nothing, Found, BadTarget, BadConfig, BadSpecifier}
use Rattle.esb_exports.specs.Units.{units_of, active_names}
use Rattle.esb_exports.specs.Keys.{match_of, chosen}
use Rattle.esb_exports.specs.Outcomes.{begins, target_outcome}

-- what an outcome is answered by
unfoldable pub answer_of : Outcome → Result Target TargetFault
answer_of Undefined = Err fault.NotExported
answer_of Nothing = Err fault.NotExported
answer_of (Found target) = Ok target
answer_of BadTarget = Err fault.BadTarget
answer_of BadConfig = Err fault.BadConfig
answer_of BadSpecifier = Err fault.BadSpecifier

unfoldable pub member_outcome : Bool → List (List ℕ) → List ℕ → Option (List ℕ × Json) → Outcome
member_outcome imports active path None = Undefined
member_outcome imports active path (Some member) = target_outcome imports (match_of member.0 path) active member.1

-- what the member that the path takes comes to
unfoldable pub keyed_outcome : Bool → List (List ℕ) → List (List ℕ × Json) → List ℕ → Outcome
keyed_outcome imports active members path = member_outcome imports active path (chosen members path)

abbrev pub has_dot : List ℕ × Json → Bool
has_dot member = slice_index member.0 0 == 46

-- A value without subpaths is the target of the package itself.
unfoldable pub main_outcome : List (List ℕ) → Json → List ℕ → Outcome
main_outcome active exports path = if bytes_eq path (codes ".") then target_outcome false [] active exports else Undefined

-- an object: conditions of the package itself, or subpaths, and never both
unfoldable pub object_exports : List (List ℕ) → Json → List (List ℕ × Json) → List ℕ → Outcome
object_exports active exports members path = if list_any has_dot members
    then (if list_any (λ member. not (has_dot member)) members then BadConfig else keyed_outcome false active members path)
    else main_outcome active exports path

unfoldable pub open_exports : List (List ℕ) → Json → List ℕ → Json-F Json → Outcome
open_exports active exports path Json-F.Null = Undefined
open_exports active exports path (Json-F.Bool flag) = Undefined
open_exports active exports path (Json-F.Number spelling) = Undefined
open_exports active exports path (Json-F.Str units) = main_outcome active exports path
open_exports active exports path (Json-F.Array items) = main_outcome active exports path
open_exports active exports path (Json-F.Object members) = object_exports active exports members path

-- what the subpath of the package with these exports leads to
unfoldable pub exports_target : Json → List ℕ → List (List ℕ) → Result Target TargetFault
exports_target exports subpath conditions = answer_of (open_exports (active_names conditions) exports (units_of subpath) (out-Json exports))

unfoldable pub open_imports : List (List ℕ) → List ℕ → Json-F Json → Outcome
open_imports active path Json-F.Null = Undefined
open_imports active path (Json-F.Bool flag) = Undefined
open_imports active path (Json-F.Number spelling) = Undefined
open_imports active path (Json-F.Str units) = Undefined
open_imports active path (Json-F.Array items) = Undefined
open_imports active path (Json-F.Object members) = keyed_outcome true active members path

-- what the specifier leads to in the package with these imports
unfoldable pub imports_target : Json → List ℕ → List (List ℕ) → Result Target TargetFault
imports_target imports spec conditions = if bytes_eq spec (codes "#") || begins spec (codes "#/") then Err fault.BadSpecifier
    else answer_of (open_imports (active_names conditions) (units_of spec) (out-Json imports))

-- The answer is the one that is due, or memory was refused.
abbrev pub Answers : Result Target TargetFault → Result Target TargetFault → Type 0
Answers (Ok target) due = due ≡ Ok target
Answers (Err fault.Memory) due = Unit {0}
Answers (Err fault.NotExported) due = due ≡ Err fault.NotExported
Answers (Err fault.BadTarget) due = due ≡ Err fault.BadTarget
Answers (Err fault.BadConfig) due = due ≡ Err fault.BadConfig
Answers (Err fault.BadSpecifier) due = due ≡ Err fault.BadSpecifier

-- a file of the package, told from its folder, and no other package
abbrev pub IsFile : Target → Type 0
IsFile (File text) = IsTrue (begins text (codes "./"))
IsFile (Bare text) = ⊥
