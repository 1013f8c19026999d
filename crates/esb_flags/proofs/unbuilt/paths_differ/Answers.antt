use Rattle.std.proofs.Common.{◌+◌, ℕ, true, cond, List, ◌∷◌, drop, map, refl, sym, ap, ◌∙◌}
use Rattle.std.specs.BTreeMap.{get_by}
use Rattle.std.specs.Cmp.Lexicographic.{slice_cmp}
use Rattle.std.specs.Option.{is_some}
use Rattle.std.specs.Ordering.{nat_cmp}
use Rattle.std.specs.Str.{bytes_eq}
use Rattle.std.proofs.lemmas.List.{at_drop_more}
use Rattle.std.proofs.lemmas.Map.Text.{btree_map_updates_str}
use Rattle.esb_flags.proofs.Seen.{fresh, begins, goes_on, seen_twice, is_some-cond}
use Rattle.esb_flags.proofs.unbuilt.paths_differ.Goals as goal

abbrev path_of : List ℕ × List ℕ → List ℕ
path_of entry = entry.1

pub loop-entry-init : goal.loop-entry-init
loop-entry-init c =
    begins (λ q. is_some (get_by (λ k. slice_cmp nat_cmp q k.now) c.new-seen.result)) (map path_of c.args.entries.now) (λ q. rw c.new-seen.ensures.empty refl)

pub returns-then-is_some : goal.returns-then-is_some
returns-then-is_some c =
    let entries = c.args.entries.now in
    let i = c.loop-entry.entry-index in
    let item = c.entry-item.result in
    let seen = λ (q : List ℕ). is_some (get_by (λ k. slice_cmp nat_cmp q k.now) c.loop-entry.seen) in
    let here = ap (λ (entry : List ℕ × List ℕ). fresh seen (map path_of (entry ∷ drop (i + 1) entries))) c.entry-item.is
    ∙ sym (at_drop_more (λ rest. fresh seen (map path_of rest)) entries i item c.loop-entry-test.true) ∙ c.loop-entry.invariant in
    let twice = ap seen (sym c.as_str.ensures) ∙ sym (ap is_some c.in_ok-insert.ensures.old) ∙ sym c.is_some.ensures ∙ c.if-is_some.true in
    seen_twice seen (path_of item) (map path_of (drop (i + 1) entries)) _ twice here

pub loop-entry-preserved : goal.loop-entry-preserved
loop-entry-preserved c =
    let entries = c.args.entries.now in
    let i = c.loop-entry.entry-index in
    let item = c.entry-item.result in
    let seen = λ (q : List ℕ). is_some (get_by (λ k. slice_cmp nat_cmp q k.now) c.loop-entry.seen) in
    let now = λ (q : List ℕ). is_some (get_by (λ k. slice_cmp nat_cmp q k.now) c.insert.new.self) in
    let here = ap (λ (entry : List ℕ × List ℕ). fresh seen (map path_of (entry ∷ drop (i + 1) entries))) c.entry-item.is
    ∙ sym (at_drop_more (λ rest. fresh seen (map path_of rest)) entries i item c.loop-entry-test.true) ∙ c.loop-entry.invariant in
    let unseen = ap seen (sym c.as_str.ensures) ∙ sym (ap is_some c.in_ok-insert.ensures.old) ∙ sym c.is_some.ensures ∙ c.if-is_some.false in
    goes_on seen now (path_of item) (map path_of (drop (i + 1) entries)) _ unseen
    (λ q. ap is_some (btree_map_updates_str c.as_str.result.now c.loop-entry.seen c.insert.new.self _ c.in_ok-insert.ensures.updates q)
    ∙ is_some-cond (bytes_eq c.as_str.result.now q) _ _ ∙ ap (λ (p : List ℕ). cond (bytes_eq p q) true (seen q)) c.as_str.ensures)
    here
