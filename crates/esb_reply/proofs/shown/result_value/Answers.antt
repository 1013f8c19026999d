use Rattle.std.proofs.Common.{◌≡◌, [], ◌∷◌, sym, ap, subst, ◌∙◌}
use Rattle.esb_wire.specs.declared.value.Value.{Value}
use Rattle.esb_wire.specs.declared.value.Value.TheVariants as values
use Rattle.esb_wire.specs.Size.{IsShaped}
use Rattle.esb_reply.specs.Reply.{result_map}
use Rattle.esb_reply.proofs.Shapes.{result_shaped}
use Rattle.esb_reply.proofs.shown.result_value.Goals as goal

both_are : {A : Type 0} (x y a b : A) → x ≡ a → y ≡ b → x ∷ y ∷ [] ≡ a ∷ b ∷ []
both_are x y a b p q = cc

pub returns-clause-value : goal.returns-clause-value
returns-clause-value c =
    ap values.Map (c.from_vec.ensures ∙ c.in_ok-pairs.ensures.items ∙ both_are c.in_ok-entry.field-0 c.in_ok-entry-2.field-0 _ _ c.in_ok-entry.ensures c.in_ok-entry-2.ensures)

pub returns-clause-shaped : goal.returns-clause-shaped
returns-clause-shaped c =
    let same : values.Map c.from_vec.result ≡ result_map c.args.errors c.args.files =
    ap values.Map (c.from_vec.ensures ∙ c.in_ok-pairs.ensures.items ∙ both_are c.in_ok-entry.field-0 c.in_ok-entry-2.field-0 _ _ c.in_ok-entry.ensures c.in_ok-entry-2.ensures) in
    subst (λ (w : Value). IsShaped 4 w) (sym same) (result_shaped c.args.errors c.args.files c.requires.errors c.requires.files)
