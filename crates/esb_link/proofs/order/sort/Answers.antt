use Rattle.std.proofs.Common.{◌≡◌, ℕ, true, false, List, [], ◌∷◌, ◌++◌, sym, ap, ◌∙◌}
use Rattle.esb_wire.specs.Written.{put_by_key, by_key}
use Rattle.esb_link.specs.SerialLink.{is_other, shared_from}
use Rattle.esb_link.proofs.Kept.{by_key-push, found_other, sorted-push}
use Rattle.esb_link.proofs.order.sort.Goals as goal

pub loop-path-preserved-then-is_other : goal.loop-path-preserved-then-is_other
loop-path-preserved-then-is_other c =
    let outs = c.loop-path.yielded in
    let other = found_other outs c.loop-path.by_path.entries c.in-Some.path c.in-Some.contents c.in_ok-own.own c.in_ok-earlier.earlier true c.loop-path.invariant.by_path c.in_ok-earlier.ensures.old c.in_ok-own.ensures (sym c.is_other.ensures ∙ c.if-is_other.true) in
    record {
      by_path = c.in_ok-earlier.ensures.entries ∙ ap (λ (es : List (List ℕ × List ℕ)). put_by_key es (c.in-Some.path, c.in-Some.contents)) c.loop-path.invariant.by_path ∙ sorted-push outs (c.in-Some.path, c.in-Some.contents);
      shared = c.in_ok-insert.ensures.entries ∙ ap (λ (es : List (List ℕ × Unit {0})). put_by_key es (c.in_ok-key.key, tt)) c.loop-path.invariant.shared
          ∙ ap (λ (k : List ℕ). put_by_key (by_key (shared_from [] outs)) (k, tt)) c.in_ok-key.ensures ∙ sym (by_key-push outs (c.in-Some.path, c.in-Some.contents) true other);
    }

pub loop-path-preserved : goal.loop-path-preserved
loop-path-preserved c =
    let outs = c.loop-path.yielded in
    let other = found_other outs c.loop-path.by_path.entries c.in-Some.path c.in-Some.contents c.in_ok-own.own c.in_ok-earlier.earlier false c.loop-path.invariant.by_path c.in_ok-earlier.ensures.old c.in_ok-own.ensures (sym c.is_other.ensures ∙ c.if-is_other.false) in
    record {
      by_path = c.in_ok-earlier.ensures.entries ∙ ap (λ (es : List (List ℕ × List ℕ)). put_by_key es (c.in-Some.path, c.in-Some.contents)) c.loop-path.invariant.by_path ∙ sorted-push outs (c.in-Some.path, c.in-Some.contents);
      shared = c.loop-path.invariant.shared ∙ sym (by_key-push outs (c.in-Some.path, c.in-Some.contents) false other);
    }
