use Rattle.std.proofs.Common.{◌≡◌, ℕ, List, map, ◌∷◌, ◌++◌, string_bytes, sym, ap, ◌∙◌}
use Rattle.std.specs.List.{flat_map, join_with_byte}
use Rattle.std.proofs.lemmas.Result.{IfOk-weaker}
use Rattle.esb_path.specs.Segments.{slash}
use Rattle.esb_path.proofs.Cuts.{join_with_byte-cons}
use Rattle.esb_path.proofs.names.joined.Goals as goal

pub returns : goal.returns
returns c =
    let behind = flat_map (λ segment. slash ∷ segment) (map (λ segment. segment.now) c.in-Some.others.now) in
    let front : string_bytes c.push_str.new.self ≡ c.in-Some.first.now.now = c.in_ok-push_str.ensures.bytes ∙ ap (λ (t : List ℕ). t ++ c.in-Some.first.now.now) c.in_ok-text.ensures.bytes in
    let written : string_bytes c.push_segments.new.text ≡ c.in-Some.first.now.now ++ behind = c.in_ok-push_segments.ensures ∙ ap (λ (t : List ℕ). t ++ behind) front in
    let whole = sym (join_with_byte-cons c.in-Some.first.now.now (map (λ segment. segment.now) c.in-Some.others.now)) in
    let parts = ap (λ t. join_with_byte slash (map (λ segment. segment.now) t)) (sym c.in-Some.ensures.cases.0) in
    IfOk-weaker c.of-2.result _ _ (λ text e. e ∙ c.as_str.ensures.value ∙ written ∙ whole ∙ parts) c.of-2.ensures
