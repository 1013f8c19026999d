use Rattle.std.proofs.Common.{◌≡◌, ℕ, true, false, ◌∙◌, rules, arith}
use Rattle.std.proofs.lemmas.Grind.{common_steps}
use Rattle.std.proofs.lemmas.Result.{err_from_is_err_and}
use Rattle.esb_reader.specs.Parts.{behind}
use Rattle.esb_reader.specs.Reader.{repeated, node}
use Rattle.esb_access.specs.Handed as handed
use Rattle.esb_access_laws.specs.Links.{begins_link_in}
use Rattle.esb_access.proofs.Steps.{one_more, seen_in, turn_ends, turn_fails}
use Rattle.esb_access.proofs.accesses.Accesses.links_from.Goals as goal

pub returns-then-not-begins_link_in : goal.returns-then-not-begins_link_in
returns-then-not-begins_link_in g c =
    let l = c.loop-turn in
    let text = c.args.self.now.parser.now.text.now in
    let ends : begins_link_in c.args.calls (behind text l.at).kind ≡ false = seen_in c.args.calls c.peek.result (behind text l.at) c.begins_link_in.result false c.peek.ensures c.begins_link_in.ensures c.if-not-begins_link_in.true in
    l.invariant ∙ turn_ends (λ (i : ℕ). begins_link_in c.args.calls (behind text i).kind) (handed.link g.R.Readers.expression g.R.Parts.arguments g.R.Parts.template c.args.context text c.args.levels c.args.calls) (node l.tree l.deepest) l.at c.args.turns l._turn c.loop-turn-test.true ends

pub returns-in_err-list : goal.returns-in_err-list
returns-in_err-list g c =
    let l = c.loop-turn in
    let text = c.args.self.now.parser.now.text.now in
    let goes : begins_link_in c.args.calls (behind text l.at).kind ≡ true = seen_in c.args.calls c.peek.result (behind text l.at) c.begins_link_in.result true c.peek.ensures c.begins_link_in.ensures c.if-not-begins_link_in.false in
    let p = err_from_is_err_and c.from_residual.result c.from_residual.ensures.1 in
    rw (p.1, p.2) (turn_fails (λ (i : ℕ). begins_link_in c.args.calls (behind text i).kind) (handed.link g.R.Readers.expression g.R.Parts.arguments g.R.Parts.template c.args.context text c.args.levels c.args.calls) (node l.tree l.deepest) l.at c.args.turns l._turn _ c.link.result _ c.loop-turn-test.true l.invariant goes c.link.ensures c.in_err-list.ensures.err)

pub loop-turn-preserved : goal.loop-turn-preserved
unfolding repeated
loop-turn-preserved g c =
    let l = c.loop-turn in
    let read = handed.links_from g.R.Readers.expression g.R.Parts.arguments g.R.Parts.template c.args.context c.args.self.now.parser.now.text.now c.args.levels c.args.calls in
    let e = one_more (λ n. read n (node l.tree l.deepest) l.at) _ l._turn c.loop-turn-test.true l.invariant in
    first_of (search rules, grind (arith, common_steps))
