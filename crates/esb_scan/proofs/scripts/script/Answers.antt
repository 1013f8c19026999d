use Rattle.std.proofs.Common.{◌≡◌, ℕ, Bool, true, false, List, IfOk, Result, Ok, Err, refl, sym, ap, subst, ◌∙◌}
use Rattle.std.specs.Str.{IsUtf8, is_utf8}
use Rattle.std.proofs.lemmas.Bool.{cond-true, cond-false, false_from_ne_true}
use Rattle.std.proofs.lemmas.Str.{IsUtf8-from_is_utf8, is_utf8-from_IsUtf8}
use Rattle.esb_base.specs.declared.file_name.FileName.{FileName}
use Rattle.esb_base.specs.declared.memory.Memory.{Memory}
use Rattle.esb_ask.specs.declared.message.Message.{Message}
use Rattle.esb_ask.specs.declared.product.Loaded.{Loaded}
use Rattle.esb_ask.specs.declared.product.Loaded.TheVariants as loaded
use Rattle.esb_module.specs.Files.{module_of}
use Rattle.esb_scan.specs.Likeness.{normal_loaded, normal_message}
use Rattle.esb_scan.specs.Messages.{not_utf8}
use Rattle.esb_scan.specs.Scripts.{script_by, script}
use Rattle.esb_scan.proofs.scripts.script.Goals as goal

-- contents that are a text give what the text gives
of_text : (cwd : List ℕ) (name : FileName) (contents text : List ℕ) (r : Result Loaded Memory) → text ≡ contents → is_utf8 contents ≡ true → IfOk r (λ given. normal_loaded given ≡ script_by cwd name text (module_of text))
    → IfOk r (λ given. normal_loaded given ≡ script cwd name contents)
of_text cwd name contents text (Ok given) same utf8 h = h ∙ ap (λ (t : List ℕ). script_by cwd name t (module_of t)) same ∙ sym (cond-true (is_utf8 contents) _ _ utf8)
of_text cwd name contents text (Err refused) same utf8 h = tt

-- and others are refused
of_bytes : (cwd : List ℕ) (name : FileName) (contents : List ℕ) (message : Message) → message ≡ not_utf8 cwd name → is_utf8 contents ≡ false → loaded.Refused (normal_message message) ≡ script cwd name contents
of_bytes cwd name contents message is bytes = ap (λ (m : Message). loaded.Refused (normal_message m)) is ∙ sym (cond-false (is_utf8 contents) _ _ bytes)

pub returns-in_ok-text-in-Ok-clause-alike : goal.returns-in_ok-text-in-Ok-clause-alike
returns-in_ok-text-in-Ok-clause-alike c =
    of_text c.args.cwd.now c.args.name.now c.args.contents.now c.in_ok-text-in-Ok.text c.script_by.result
    (c.in_ok-text-in-Ok.ensures ∙ c.in-Ok.ensures.cases.0 ∙ c.as_slice.ensures)
    (is_utf8-from_IsUtf8 c.args.contents.now (subst IsUtf8 c.as_slice.ensures c.in-Ok.ensures.cases.1))
    c.script_by.ensures.alike

pub returns-in_ok-not_utf8-in-Err-clause-alike : goal.returns-in_ok-not_utf8-in-Err-clause-alike
returns-in_ok-not_utf8-in-Err-clause-alike c =
    of_bytes c.args.cwd.now c.args.name.now c.args.contents.now c.in_ok-not_utf8-in-Err.field-0 c.in_ok-not_utf8-in-Err.ensures
    (false_from_ne_true (is_utf8 c.args.contents.now) (λ e. c.in-Err.ensures.cases.0 (subst IsUtf8 (sym c.as_slice.ensures) (IsUtf8-from_is_utf8 c.args.contents.now e))))
