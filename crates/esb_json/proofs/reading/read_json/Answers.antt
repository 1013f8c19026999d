use Rattle.std.proofs.Common.{sym, ap, ◌∙◌}
use Rattle.esb_json.specs.Reading.{json_at}
use Rattle.esb_json.proofs.Deep.{is_spelled, is_shallow, same_value, no_value}
use Rattle.esb_json.proofs.reading.read_json.Goals as goal

pub returns-in-Ok-clause-found : goal.returns-in-Ok-clause-found
returns-in-Ok-clause-found c = is_spelled c.args.contents.now c.in-Ok.value (sym (ap (json_at 201) c.as_bytes-bytes.ensures.value) ∙ c.in-Ok.ensures)

pub returns-in-Ok-clause-shallow : goal.returns-in-Ok-clause-shallow
returns-in-Ok-clause-shallow c = is_shallow c.args.contents.now c.in-Ok.value (sym (ap (json_at 201) c.as_bytes-bytes.ensures.value) ∙ c.in-Ok.ensures)

pub returns-in-Ok-clause-only : goal.returns-in-Ok-clause-only
returns-in-Ok-clause-only c = λ value spelled shallow. same_value c.args.contents.now c.in-Ok.value value (sym (ap (json_at 201) c.as_bytes-bytes.ensures.value) ∙ c.in-Ok.ensures) spelled shallow

pub returns-in-Err-Unread-clause-only : goal.returns-in-Err-Unread-clause-only
returns-in-Err-Unread-clause-only c = λ value spelled shallow. no_value c.args.contents.now value (sym (ap (json_at 201) c.as_bytes-bytes.ensures.value) ∙ rw c.in-Err-Unread.field-0-is at c.in-Err-Unread.ensures) spelled shallow

pub returns-in-Err-Unread-clause-none : goal.returns-in-Err-Unread-clause-none
returns-in-Err-Unread-clause-none c = λ value spelled shallow. no_value c.args.contents.now value (sym (ap (json_at 201) c.as_bytes-bytes.ensures.value) ∙ rw c.in-Err-Unread.field-0-is at c.in-Err-Unread.ensures) spelled shallow
