use Rattle.std.proofs.Common.{◌≡◌, ◌||◌, List, ℕ, true, false, Err, codes, sym, ap, ◌∙◌}
use Rattle.std.specs.Str.{bytes_eq}
use Rattle.std.proofs.lemmas.Bool.{cond-true, cond-false}
use Rattle.esb_json.specs.declared.value.Json.{Json, out-Json}
use Rattle.esb_exports.specs.declared.fault.TargetFault.TheVariants as fault
use Rattle.esb_exports.specs.Units.{units_of, active_names}
use Rattle.esb_exports.specs.Outcomes.{begins}
use Rattle.esb_exports.specs.Targets.{answer_of, open_imports, imports_target}
use Rattle.esb_exports.proofs.Opened.{answers_due}
use Rattle.esb_exports.proofs.target.imports_of.Goals as goal

target-nameless : (imports : Json) (spec : List ℕ) (conditions : List (List ℕ)) → (bytes_eq spec (codes "#") || begins spec (codes "#/")) ≡ true
    → imports_target imports spec conditions ≡ Err fault.BadSpecifier
unfolding imports_target
target-nameless imports spec conditions e = cond-true (bytes_eq spec (codes "#") || begins spec (codes "#/")) (Err fault.BadSpecifier) (answer_of (open_imports (active_names conditions) (units_of spec) (out-Json imports))) e

target-named : (imports : Json) (spec : List ℕ) (conditions : List (List ℕ)) → (bytes_eq spec (codes "#") || begins spec (codes "#/")) ≡ false
    → imports_target imports spec conditions ≡ answer_of (open_imports (active_names conditions) (units_of spec) (out-Json imports))
unfolding imports_target
target-named imports spec conditions e = cond-false (bytes_eq spec (codes "#") || begins spec (codes "#/")) (Err fault.BadSpecifier) (answer_of (open_imports (active_names conditions) (units_of spec) (out-Json imports))) e

pub returns-then-is_nameless : goal.returns-then-is_nameless
returns-then-is_nameless c =
    target-nameless c.args.imports.now c.args.spec.now c.args.conditions.now (ap (λ spec. bytes_eq spec (codes "#") || begins spec (codes "#/")) (sym c.as_str.ensures) ∙ sym c.is_nameless.ensures ∙ c.if-is_nameless.true)

pub returns : goal.returns
returns c =
    let value = c.args.imports.now in
    let named = ap (λ spec. bytes_eq spec (codes "#") || begins spec (codes "#/")) (sym c.as_str.ensures) ∙ sym c.is_nameless.ensures ∙ c.if-is_nameless.false in
    let names = c.as_slice.ensures ∙ c.in_ok-active.ensures in
    let path = c.as_slice-2.ensures ∙ c.in_ok-path.ensures ∙ ap units_of c.as_str-2.ensures in
    answers_due c.answer_of.result _ (c.answer_of.ensures ∙ ap answer_of (c.in_ok-outcome.ensures
    ∙ ap (λ active. open_imports active c.as_slice-2.result.now (out-Json value)) names
    ∙ ap (λ units. open_imports (active_names c.args.conditions.now) units (out-Json value)) path)
    ∙ sym (target-named value c.args.spec.now c.args.conditions.now named))
