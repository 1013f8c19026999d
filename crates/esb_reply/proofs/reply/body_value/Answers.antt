use Rattle.std.proofs.Common.{ℕ, List, sym, subst}
use Rattle.esb_wire.specs.declared.value.Value.{Value}
use Rattle.esb_wire.specs.declared.value.Value.TheVariants as values
use Rattle.esb_wire.specs.Size.{IsShaped}
use Rattle.esb_reply.proofs.Shapes.{empty_shaped}
use Rattle.esb_reply.proofs.reply.body_value.Goals as goal

pub returns-in-Empty-clause-shaped : goal.returns-in-Empty-clause-shaped
returns-in-Empty-clause-shaped c =
    subst (λ (pairs : List (List ℕ × Value)). IsShaped 4 (values.Map pairs)) (sym c.new.ensures) empty_shaped
