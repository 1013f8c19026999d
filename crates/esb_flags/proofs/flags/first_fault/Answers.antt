use Rattle.std.proofs.Common.{◌≡◌, ℕ, true, false, cond, List, Some, None, take, sym, ap, ◌∙◌}
use Rattle.std.specs.BTreeMap.{get_by}
use Rattle.std.specs.Cmp.Lexicographic.{slice_cmp}
use Rattle.std.specs.Option.{is_some, option_copied}
use Rattle.std.specs.Ordering.{nat_cmp}
use Rattle.std.specs.Str.{bytes_eq}
use Rattle.std.proofs.lemmas.Map.Text.{btree_map_updates_str}
use Rattle.esb_flags.specs.Flags.{once, flag_of}
use Rattle.esb_flags.proofs.Seen.{is_some-cond}
use Rattle.esb_flags.proofs.Repeats.{no_fault, faults_on, seen_on, noted, free, among_none, among_some}
use Rattle.esb_flags.proofs.flags.first_fault.Goals as goal
use Rattle.esb_flags.proofs.flags.first_fault.Goals.{in-Some-shared+in_ok-insert+else-is_some, in_default-shared}

pub loop-index-preserved : goal.loop-index-preserved
loop-index-preserved c =
    let words = c.args.words.now in
    let i = c.loop-index.index in
    let word = c.as_str.result.now in
    let is = c.as_str.ensures ∙ c.index-words-index.is in
    let flag : is_some (flag_of word) ≡ true = sym c.in-Some.ensures.flag in
    let seen = λ (q : List ℕ). is_some (get_by (λ k. slice_cmp nat_cmp q k.now) c.loop-index.seen) in
    let now = λ (q : List ℕ). is_some (get_by (λ k. slice_cmp nat_cmp q k.now) c.match-shared.seen) in
    elim c.match-shared.branch [
      | in-Some-shared+in_ok-insert+else-is_some w ↦
          let text = w.in-Some-shared.shared.now in
          let shares : once word ≡ Some text = sym c.in-Some.ensures.once ∙ ap option_copied w.in-Some-shared.is in
          let unseen : seen text ≡ false = sym (ap is_some w.in_ok-insert.ensures.old) ∙ sym w.is_some.ensures ∙ w.if-is_some.false in
          let updated : (q : List ℕ) → now q ≡ cond (bytes_eq text q) true (seen q) =
          λ q. ap (λ m. is_some (get_by (λ k. slice_cmp nat_cmp q k.now) m)) w.seen-is
          ∙ ap is_some (btree_map_updates_str text c.loop-index.seen w.insert.new.self _ w.in_ok-insert.ensures.updates q)
          ∙ is_some-cond (bytes_eq text q) _ _ in (
            faults_on words i word _ _ c.loop-index-test.true is c.loop-index.invariant.0 (no_fault (take i words) word flag (among_some (take i words) word text shares (sym (c.loop-index.invariant.1 text) ∙ unseen))),
            seen_on seen now words i word _ c.loop-index-test.true is c.loop-index.invariant.1 (noted seen now text word shares updated),
          )
      | in_default-shared w ↦
          let shares : once word ≡ None = sym c.in-Some.ensures.once ∙ ap option_copied w.in_default-shared.is in
          let same : (q : List ℕ) → now q ≡ seen q = λ q. ap (λ m. is_some (get_by (λ k. slice_cmp nat_cmp q k.now) m)) w.seen-is in (
            faults_on words i word _ _ c.loop-index-test.true is c.loop-index.invariant.0 (no_fault (take i words) word flag (among_none (take i words) word shares)),
            seen_on seen now words i word _ c.loop-index-test.true is c.loop-index.invariant.1 (λ q. same q ∙ free seen word shares q),
          )
    ]
