use Rattle.std.proofs.Common.{◌≡◌, sym, subst, rules}
use Rattle.esb_wire.specs.declared.value.Value.{Value}
use Rattle.esb_wire.specs.declared.value.Value.TheVariants as values
use Rattle.esb_wire.specs.Size.{IsShaped}
use Rattle.esb_reply.specs.Reply.{message_value}
use Rattle.esb_reply.proofs.Shapes.{message_shaped}
use Rattle.esb_reply.proofs.shown.message_value.Goals as goal

pub returns-clause-shaped : goal.returns-clause-shaped
returns-clause-shaped c =
    let same : values.Map c.from_vec.result ≡ message_value c.args.message.now = search rules in
    subst (λ (w : Value). IsShaped 2 w) (sym same) (message_shaped c.args.message.now c.text_value.ensures.utf8 c.text_value-2.ensures.utf8 c.number_value.ensures.fits c.number_value-2.ensures.fits c.number_value-3.ensures.fits)
