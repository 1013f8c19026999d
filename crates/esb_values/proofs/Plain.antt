-- A list without empty places, as a loop sees it.
use Rattle.std.proofs.Common.{◌≡◌, ℕ, ◌+◌, ◌<◌, ◌&&◌, List, length, drop, get_or, sym, ap, ◌∙◌}
use Rattle.std.proofs.lemmas.List.{at_drop_more}
use Rattle.esb_tree.specs.declared.patterns.NextElement.{NextElement, out-NextElement}
use Rattle.esb_value_laws.specs.Once.{is_plain, all_plain}

pub plain_at : (os : List NextElement) (i : ℕ) (o : NextElement) → o ≡ get_or os i o → i < length os
    → all_plain (drop i os) ≡ (is_plain (out-NextElement o).element && all_plain (drop (i + 1) os))
plain_at os i o e h =
    at_drop_more all_plain os i o h
    ∙ ap (λ x. is_plain (out-NextElement x).element && all_plain (drop (i + 1) os)) (sym e)
