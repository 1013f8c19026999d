use Rattle.std.proofs.Common.{sym, ap, ◌∙◌}
use Rattle.std.specs.Char.Escape.{encode_utf16}
use Rattle.std.specs.List.{flat_map}
use Rattle.std.proofs.lemmas.Iterator.{YieldsList-from_chars}
use Rattle.std.proofs.lemmas.Iterator.Consumers.{YieldsList-end}
use Rattle.std.proofs.lemmas.List.{map-id}
use Rattle.esb_exports.proofs.units.units_of.Goals as goal

pub returns : goal.returns
returns c =
    let split = c.chars-character-items.ensures in
    let same = c.into_iter-character-iterator.ensures.into_iter_gives in
    let ends = YieldsList-end (YieldsList-from_chars {s = c.into_iter-character-iterator.result} c.args.text.now c.utf8.text (cc)) c.loop-character.yielded _ c.loop-character.yielded_by _ _ c.in-None.is c.next.ensures.steps in
    c.loop-character.invariant ∙ ap (flat_map encode_utf16) (sym (map-id c.loop-character.yielded) ∙ ends.0)
