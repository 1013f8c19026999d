use Rattle.std.proofs.Common.{◌≡◌, sym, subst}
use Rattle.std.specs.Prelude.{IfOk}
use Rattle.std.specs.Option.{option_copied}
use Rattle.esb_ask.specs.declared.outcome.Outcome.{Outcome}
use Rattle.esb_reply.specs.Reply.{outcome_value}
use Rattle.esb_reply.proofs.reply.outcome_value.Goals as goal

pub returns-in-Canceled-clause-value : goal.returns-in-Canceled-clause-value
returns-in-Canceled-clause-value c =
    subst (λ (outcome : Outcome). IfOk c.lone_message.result (λ value. value ≡ outcome_value c.args.write (option_copied c.args.failed) outcome)) (sym c.in-Canceled.is) c.lone_message.ensures.value

pub returns-in-Memory-clause-value : goal.returns-in-Memory-clause-value
returns-in-Memory-clause-value c =
    subst (λ (outcome : Outcome). IfOk c.lone_message-in-Memory.result (λ value. value ≡ outcome_value c.args.write (option_copied c.args.failed) outcome)) (sym c.in-Memory.is) c.lone_message-in-Memory.ensures.value
