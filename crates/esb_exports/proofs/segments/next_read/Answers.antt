use Rattle.std.proofs.Common.{◌∷◌, get_or, List, ℕ, refl, sym, ap, ◌∙◌}
use Rattle.std.proofs.lemmas.List.{take_rest}
use Rattle.esb_exports.specs.Segments.{unescaped}
use Rattle.esb_exports.proofs.Escapes.{unescaped-escape, unescaped-plain}
use Rattle.esb_exports.proofs.segments.next_read.Goals as goal

pub returns-in-Some : goal.returns-in-Some
returns-in-Some c =
    unescaped-escape c.args.units.now _ _ _ c.in-Some.byte c.if-units-lt3.false refl refl refl c.in-Some.ensures.0 c.in-Some.ensures.1
    ∙ ap (λ (t : List ℕ). c.in-Some.byte ∷ unescaped t) (sym (take_rest c.args.units.now 3))

pub returns-in-None : goal.returns-in-None
returns-in-None c =
    unescaped-plain c.args.units.now _ _ _ c.if-units-lt3.false refl refl refl c.in-None.ensures
    ∙ ap (λ (t : List ℕ). get_or c.args.units.now 0 0 ∷ unescaped t) (sym (take_rest c.args.units.now 1))
