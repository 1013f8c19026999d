-- What a call answers, beside what is asked. It is free where memory was refused.
use Rattle.std.specs.Prelude.{◌≡◌, ℕ, List, ◌++◌, codes, Option, Some, None, Result, Ok, Err}
use Rattle.esb_flags.specs.declared.command.CommandFault.{CommandFault}
use Rattle.esb_flags.specs.declared.command.CommandFault.TheVariants as faults
use Rattle.esb_flags.specs.declared.fault.FlagFault.{FlagFault}
use Rattle.esb_flags.specs.declared.fault.FlagFault.TheVariants as flag_faults
use Rattle.esb_flags.specs.declared.shapes.Misfit.{Misfit}
use Rattle.esb_flags.specs.declared.shapes.Misfit.TheVariants as misfit
use Rattle.esb_flags.specs.Fields.{Answer}
use Rattle.esb_flags.specs.Flags.{refusal}

abbrev pub Misfits : {Y : Type 0} → Misfit → Option Y → Type 0
Misfits misfit.Shape read = read ≡ None
Misfits misfit.Memory read = Unit {0}

-- the result, seen by view, is what is read
abbrev pub Reads : {X Y : Type 0} → (X → Y) → Result X Misfit → Option Y → Type 0
Reads view (Ok x) read = read ≡ Some (view x)
Reads view (Err fault) read = Misfits fault read

abbrev pub Refuses : {X : Type 0} → Answer X → CommandFault → Type 0
Refuses asked (faults.Refused text) = asked ≡ Err text
Refuses asked faults.Memory = Unit {0}

abbrev pub Answers : {X : Type 0} → Result X CommandFault → Answer X → Type 0
Answers (Ok x) asked = asked ≡ Ok x
Answers (Err fault) asked = Refuses asked fault

-- a refusal with this text
abbrev pub IsRefusal : List ℕ → CommandFault → Type 0
IsRefusal chars (faults.Refused text) = text ≡ chars
IsRefusal chars faults.Memory = Unit {0}

-- why the field was not read
abbrev pub IsUnfit : List ℕ → Misfit → CommandFault → Type 0
IsUnfit name misfit.Shape fault = IsRefusal (codes "Missing field: " ++ name) fault
IsUnfit name misfit.Memory fault = fault ≡ faults.Memory

-- the refusal for a fault of these flags
abbrev pub IsFlagRefusal : List (List ℕ) → FlagFault → CommandFault → Type 0
IsFlagRefusal words flag_faults.Memory fault = fault ≡ faults.Memory
IsFlagRefusal words wrong fault = IsRefusal (refusal words wrong) fault
