use Rattle.std.proofs.Common.{◌≡◌, List, length, slice_set, true, false, ◌++◌, ◌∷◌, [], ℕ, refl, sym, ap, subst, ◌∙◌, arith}
use Rattle.esb_flags.specs.declared.options.Options.{Options}
use Rattle.esb_core.specs.Kept.{state_of, load}
use Rattle.esb_core.specs.Known.{Known}
use Rattle.esb_core.specs.Moves.{make, begun}
use Rattle.esb_core.specs.Order.{IsOrdered}
use Rattle.esb_core.specs.State.{Building, State, build_at}
use Rattle.esb_core.specs.Steps.{fresh, joined, met, all_moved}
use Rattle.esb_core.proofs.Keeping.{kept-begun, joined-last, same-state}
use Rattle.esb_core.proofs.Orders.{build-fits, all_moved-ordered}
use Rattle.esb_core.proofs.tables.Tables.make_and_begin.Goals as goal

begun-state : (c : goal.After-push_reserved) → state_of (record {
  alloc = c.build.new.self.alloc;
  contexts = c.make_and_begin.new.self;
  builds = c.push_reserved.new.self;
  passed = c.build.new.self.passed;
  replies = c.build.new.self.replies;
  ended = c.build.new.self.ended;
}) ≡ all_moved (state_of c.args.self.now) (make c.args.key c.args.options ∷ begun (met (state_of c.args.self.now) c.args.key) c.args.id c.args.key c.args.options)
begun-state c =
    let same = c.in_ok-build.ensures.same in
    let options : c.in_ok-options.options ≡ c.args.options = c.in_ok-options.ensures in
    same-state
    (ap (λ (k : Known). k.contexts) c.in_ok-make_and_begin.ensures.ok ∙ ap (λ (s : State). s.contexts ++ (c.args.key, c.in_ok-options.options) ∷ []) same
    ∙ ap (λ (o : Options). c.args.self.now.contexts.contexts ++ (c.args.key, o) ∷ []) options)
    (ap (λ (k : Known). k.retired) c.in_ok-make_and_begin.ensures.ok ∙ ap (λ (s : State). s.retired) same)
    (ap (λ (k : Known). k.active) c.in_ok-make_and_begin.ensures.ok ∙ ap (λ (s : State). s.active ++ (c.args.key, c.next_build-number.result) ∷ []) same
    ∙ ap (λ (n : ℕ). c.args.self.now.contexts.active ++ (c.args.key, n) ∷ []) (c.next_build-number.ensures ∙ ap (λ (s : State). length s.builds) same))
    (c.push_reserved.ensures.items ∙ ap (λ (s : State). s.builds ++ c.in_ok-build.build ∷ []) same ∙ ap (λ (b : Building). c.args.self.now.builds.items ++ b ∷ []) c.in_ok-build.ensures.build
    ∙ sym (joined-last c.args.self.now.builds.items (fresh c.args.key c.in_ok-share.field-0) c.args.id)
    ∙ ap (λ (o : Options). let bs : List Building = c.args.self.now.builds.items ++ fresh c.args.key o ∷ [] in slice_set bs (length c.args.self.now.builds.items) (joined (build_at bs (length c.args.self.now.builds.items)) c.args.id true))
    (c.in_ok-share.ensures ∙ options))
    (ap (λ (s : State). s.owed) same) (ap (λ (s : State). s.ended) same)

pub returns-clause-ok : goal.returns-clause-ok
returns-clause-ok c = begun-state c

pub returns-clause-kept : goal.returns-clause-kept
returns-clause-kept c =
    let s : State = state_of c.args.self.now in
    let fit = build-fits s c.requires.kept.ordered c.args.id c.args.key c.args.options false c.requires.new (λ once. c.requires.room) in
    let ordered = all_moved-ordered s (make c.args.key c.args.options ∷ begun (met s c.args.key) c.args.id c.args.key c.args.options) fit c.requires.kept.ordered in
    let one = ap load c.in_ok-build.ensures.build in
    let few = ap (λ (t : State). length t.builds) c.in_ok-build.ensures.same in
    let room = c.requires.room in
    kept-begun c.build.new.self _ c.in_ok-build.build c.push_reserved.ensures.items refl (omega (arith, one, c.in_ok-build.ensures.promised)) (omega (arith, few, room)) (subst IsOrdered (sym (begun-state c)) ordered)
    c.in_ok-build.ensures.kept
