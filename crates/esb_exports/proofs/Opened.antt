-- Exports and imports at each variant of a value, and the answers to what is due.
use Rattle.std.proofs.Common.{◌≡◌, ℕ, Bool, true, false, not, List, Result, Ok, Err, refl, sym, ap, ◌∙◌}
use Rattle.std.specs.List.{list_any}
use Rattle.esb_json.specs.declared.value.Json.{Json, out-Json}
use Rattle.esb_json.specs.declared.value.Json.TheOpen.{Json-F}
use Rattle.esb_json.specs.declared.value.Json.TheViews.{roll-Json, out-roll-Json}
use Rattle.esb_json.specs.declared.value.Json.TheVariants as v
use Rattle.esb_exports.specs.declared.fault.TargetFault.{TargetFault}
use Rattle.esb_exports.specs.declared.fault.TargetFault.TheVariants as fault
use Rattle.esb_exports.specs.declared.outcome.Target.{Target}
use Rattle.esb_exports.specs.declared.outcome.Outcome.TheVariants.{Undefined, BadConfig}
use Rattle.esb_exports.specs.Targets.{has_dot, main_outcome, object_exports, keyed_outcome, open_exports, open_imports, Answers}

opened : (layer : Json-F Json) (value : Json) → value ≡ roll-Json layer → out-Json value ≡ layer
opened layer value is = ap out-Json is ∙ out-roll-Json layer

module _ (active : List (List ℕ)) (value : Json) (path : List ℕ) where
  pub exports-Null : value ≡ v.Null → open_exports active value path (out-Json value) ≡ Undefined
  unfolding open_exports
  exports-Null is = ap (open_exports active value path) (opened Json-F.Null value (is ∙ sym v.rolls-Null))

  pub exports-Bool : (flag : Bool) → value ≡ v.Bool flag → open_exports active value path (out-Json value) ≡ Undefined
  unfolding open_exports
  exports-Bool flag is = ap (open_exports active value path) (opened (Json-F.Bool flag) value (is ∙ sym (v.rolls-Bool flag)))

  pub exports-Number : (spelling : List ℕ) → value ≡ v.Number spelling → open_exports active value path (out-Json value) ≡ Undefined
  unfolding open_exports
  exports-Number spelling is = ap (open_exports active value path) (opened (Json-F.Number spelling) value (is ∙ sym (v.rolls-Number spelling)))

  pub exports-Str : (units : List ℕ) → value ≡ v.Str units → open_exports active value path (out-Json value) ≡ main_outcome active value path
  unfolding open_exports
  exports-Str units is = ap (open_exports active value path) (opened (Json-F.Str units) value (is ∙ sym (v.rolls-Str units)))

  pub exports-Array : (items : List Json) → value ≡ v.Array items → open_exports active value path (out-Json value) ≡ main_outcome active value path
  unfolding open_exports
  exports-Array items is = ap (open_exports active value path) (opened (Json-F.Array items) value (is ∙ sym (v.rolls-Array items)))

  pub exports-Object : (members : List (List ℕ × Json)) → value ≡ v.Object members → open_exports active value path (out-Json value) ≡ object_exports active value members path
  unfolding open_exports
  exports-Object members is = ap (open_exports active value path) (opened (Json-F.Object members) value (is ∙ sym (v.rolls-Object members)))

  pub imports-Null : value ≡ v.Null → open_imports active path (out-Json value) ≡ Undefined
  unfolding open_imports
  imports-Null is = ap (open_imports active path) (opened Json-F.Null value (is ∙ sym v.rolls-Null))

  pub imports-Bool : (flag : Bool) → value ≡ v.Bool flag → open_imports active path (out-Json value) ≡ Undefined
  unfolding open_imports
  imports-Bool flag is = ap (open_imports active path) (opened (Json-F.Bool flag) value (is ∙ sym (v.rolls-Bool flag)))

  pub imports-Number : (spelling : List ℕ) → value ≡ v.Number spelling → open_imports active path (out-Json value) ≡ Undefined
  unfolding open_imports
  imports-Number spelling is = ap (open_imports active path) (opened (Json-F.Number spelling) value (is ∙ sym (v.rolls-Number spelling)))

  pub imports-Str : (units : List ℕ) → value ≡ v.Str units → open_imports active path (out-Json value) ≡ Undefined
  unfolding open_imports
  imports-Str units is = ap (open_imports active path) (opened (Json-F.Str units) value (is ∙ sym (v.rolls-Str units)))

  pub imports-Array : (items : List Json) → value ≡ v.Array items → open_imports active path (out-Json value) ≡ Undefined
  unfolding open_imports
  imports-Array items is = ap (open_imports active path) (opened (Json-F.Array items) value (is ∙ sym (v.rolls-Array items)))

  pub imports-Object : (members : List (List ℕ × Json)) → value ≡ v.Object members → open_imports active path (out-Json value) ≡ keyed_outcome true active members path
  unfolding open_imports
  imports-Object members is = ap (open_imports active path) (opened (Json-F.Object members) value (is ∙ sym (v.rolls-Object members)))

-- an object of conditions, of both, and of subpaths
module _ (active : List (List ℕ)) (value : Json) (members : List (List ℕ × Json)) (path : List ℕ) where
  pub object-main : list_any has_dot members ≡ false → object_exports active value members path ≡ main_outcome active value path
  unfolding object_exports
  object-main none = rw none refl

  pub object-mixed : list_any has_dot members ≡ true → list_any (λ member. not (has_dot member)) members ≡ true → object_exports active value members path ≡ BadConfig
  unfolding object_exports
  object-mixed dots others = rw (dots, others) refl

  pub object-keyed : list_any has_dot members ≡ true → list_any (λ member. not (has_dot member)) members ≡ false → object_exports active value members path ≡ keyed_outcome false active members path
  unfolding object_exports
  object-keyed dots none = rw (dots, none) refl

-- what is due answers
pub answers_due : (result due : Result Target TargetFault) → result ≡ due → Answers result due
answers_due (Ok target) due is = sym is
answers_due (Err fault.Memory) due is = tt
answers_due (Err fault.NotExported) due is = sym is
answers_due (Err fault.BadTarget) due is = sym is
answers_due (Err fault.BadConfig) due is = sym is
answers_due (Err fault.BadSpecifier) due is = sym is
