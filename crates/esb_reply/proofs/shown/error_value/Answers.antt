use Rattle.std.proofs.Common.{◌≡◌, sym, subst, rules}
use Rattle.esb_wire.specs.declared.value.Value.{Value}
use Rattle.esb_wire.specs.declared.value.Value.TheVariants as values
use Rattle.esb_wire.specs.Size.{IsShaped}
use Rattle.esb_reply.specs.Reply.{error_value}
use Rattle.esb_reply.proofs.Shapes.{error_shaped}
use Rattle.esb_reply.proofs.shown.error_value.Goals as goal

pub returns-clause-shaped : goal.returns-clause-shaped
returns-clause-shaped c =
    let same : values.Map c.from_vec.result ≡ error_value c.args.text.now = search rules in
    subst (λ (w : Value). IsShaped 4 w) (sym same) (error_shaped c.args.text.now c.text_value.ensures.utf8)
