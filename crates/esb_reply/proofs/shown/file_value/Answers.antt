use Rattle.std.proofs.Common.{◌≡◌, sym, subst, rules}
use Rattle.esb_wire.specs.declared.value.Value.{Value}
use Rattle.esb_wire.specs.declared.value.Value.TheVariants as values
use Rattle.esb_wire.specs.Size.{IsShaped}
use Rattle.esb_reply.specs.Reply.{file_value}
use Rattle.esb_reply.proofs.Shapes.{file_shaped}
use Rattle.esb_reply.proofs.shown.file_value.Goals as goal

pub returns-clause-shaped : goal.returns-clause-shaped
returns-clause-shaped c =
    let same : values.Map c.from_vec.result ≡ file_value c.args.file.now = search rules in
    subst (λ (w : Value). IsShaped 2 w) (sym same) (file_shaped c.args.file.now c.text_value.ensures.utf8)
