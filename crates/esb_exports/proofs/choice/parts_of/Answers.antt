use Rattle.std.proofs.Common.{◌≡◌, ◌+◌, ◌-◌, length, take, drop, true, false, sym, ap, ◌∙◌}
use Rattle.std.proofs.lemmas.List.{take_rest}
use Rattle.esb_exports.specs.Keys.{has_star, trailer_of}
use Rattle.esb_exports.proofs.Stars.{no_star, star_at, one_star}
use Rattle.esb_exports.proofs.choice.parts_of.Goals as goal

pub returns-in_err-at : goal.returns-in_err-at
returns-in_err-at c = rw c.from_residual.ensures (no_star c.args.key.now c.in_err-at.ensures)

pub returns-then-has_star : goal.returns-then-has_star
returns-then-has_star c =
    let key = c.args.key.now in
    let at = c.in_ok-at.at in
    let s = star_at key at c.in_ok-at.ensures in
    let behind : take (length key - (at + 1)) (drop (at + 1) key) ≡ trailer_of key = take_rest key (at + 1) ∙ ap (λ n. drop (n + 1) key) s.is in
    one_star key true s.some (ap has_star (sym behind) ∙ sym c.has_star.ensures ∙ c.if-has_star.true)

pub returns-else-has_star : goal.returns-else-has_star
returns-else-has_star c =
    let key = c.args.key.now in
    let at = c.in_ok-at.at in
    let s = star_at key at c.in_ok-at.ensures in
    let behind : take (length key - (at + 1)) (drop (at + 1) key) ≡ trailer_of key = take_rest key (at + 1) ∙ ap (λ n. drop (n + 1) key) s.is in
    (one_star key false s.some (ap has_star (sym behind) ∙ sym c.has_star.ensures ∙ c.if-has_star.false), ap (λ n. take n key) s.is, behind)
