use Rattle.std.proofs.Common.{◌∙◌, arith}
use Rattle.esb_json.proofs.Counts.{number_at-utf8, number_at-other}
use Rattle.esb_json.proofs.number.number_of.Goals as goal

pub returns-in_ok-of-in-Ok : goal.returns-in_ok-of-in-Ok
returns-in_ok-of-in-Ok c =
    number_at-utf8 c.args.bytes.now c.in_ok-rest.rest.now c.in_ok-of-in-Ok.field-0 c.saturating_sub-len.result c.in_ok-rest.ensures (omega arith) (c.in_ok-of-in-Ok.ensures ∙ c.in-Ok.ensures.cases.0) c.in-Ok.ensures.cases.1

pub returns-in-Err : goal.returns-in-Err
returns-in-Err c = number_at-other c.args.bytes.now c.in_ok-rest.rest.now c.saturating_sub-len.result c.in_ok-rest.ensures (omega arith) c.in-Err.ensures.cases.0
