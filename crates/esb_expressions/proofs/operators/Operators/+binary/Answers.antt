use Rattle.std.proofs.Common.{◌≡◌, ℕ, suc, true, false, Some, subst, rules, arith}
use Rattle.std.proofs.lemmas.Grind.{common_steps}
use Rattle.std.proofs.lemmas.Result.{err_from_is_err_and}
use Rattle.esb_reader.specs.Reader.{node, pure, repeated}
use Rattle.esb_reader.specs.Parts.{behind}
use Rattle.esb_expression_laws.specs.Operators.{is_operator, operand}
use Rattle.esb_operator_laws.specs.Unary.{unary}
use Rattle.esb_operator_laws.specs.Ladder.{at_operator, ladder, binary}
use Rattle.esb_expressions.proofs.Steps.{one_more}
use Rattle.esb_expressions.proofs.Behind.{first_fails, first_gives, level_fails, step_gives, step_skips}
use Rattle.esb_expressions.proofs.operators.Operators.+binary.Goals as goal

pub items-returns-then-not-at_operator : goal.items-returns-then-not-at_operator
unfolding repeated
items-returns-then-not-at_operator g t c =
    let l = c.loop-turn in
    let text = c.args.self.now.text.now in
    let tighter = binary text c.args.levels c.args.context (unary text c.args.context (g.R.Readers.left c.args.context text) c.args.levels) c.args.tight in
    let e = one_more (λ n. repeated (at_operator text c.args.context (suc c.args.tight)) (operand text c.args.context (suc c.args.tight) tighter) n (node l.tree l.deepest) l.at) _ l._turn c.loop-turn-test.true l.invariant in
    first_of (search rules, grind (arith, common_steps))

pub items-returns-in_err-list : goal.items-returns-in_err-list
unfolding repeated
items-returns-in_err-list g t c =
    let l = c.loop-turn in
    let text = c.args.self.now.text.now in
    let tighter = binary text c.args.levels c.args.context (unary text c.args.context (g.R.Readers.left c.args.context text) c.args.levels) c.args.tight in
    let e = one_more (λ n. repeated (at_operator text c.args.context (suc c.args.tight)) (operand text c.args.context (suc c.args.tight) tighter) n (node l.tree l.deepest) l.at) _ l._turn c.loop-turn-test.true l.invariant in
    first_of (search rules, grind (arith, common_steps))

pub items-loop-turn-preserved : goal.items-loop-turn-preserved
unfolding repeated
items-loop-turn-preserved g t c =
    let l = c.loop-turn in
    let text = c.args.self.now.text.now in
    let tighter = binary text c.args.levels c.args.context (unary text c.args.context (g.R.Readers.left c.args.context text) c.args.levels) c.args.tight in
    let e = one_more (λ n. repeated (at_operator text c.args.context (suc c.args.tight)) (operand text c.args.context (suc c.args.tight) tighter) n (node l.tree l.deepest) l.at) _ l._turn c.loop-turn-test.true l.invariant in
    first_of (search rules, grind (arith, common_steps))

pub level_behind-returns : goal.level_behind-returns
level_behind-returns g t c =
    let text = c.args.self.now.text.now in
    let behind = rw c.in_ok-first.ensures.next at c.items.ensures in
    let whole = rw c.in_ok-first.ensures.read at c.joined.ensures in
    step_gives text c.args.levels c.args.context (unary text c.args.context (g.R.Readers.left c.args.context text) c.args.levels) _ c.args.tight c.args.at c.args.first c.in_ok-first.rest c.in_ok-first.at behind whole

pub level_behind-returns-then-not-is_operator : goal.level_behind-returns-then-not-is_operator
level_behind-returns-then-not-is_operator g t c =
    let text = c.args.self.now.text.now in
    let known = c.requires.known in
    let told = c.is_operator.ensures in
    let refused = c.if-not-is_operator.true in
    let not_there : is_operator c.args.context (suc c.args.tight) (behind text c.args.at) ≡ false = first_of (cc, grind (arith, common_steps)) in
    step_skips text c.args.levels c.args.context (unary text c.args.context (g.R.Readers.left c.args.context text) c.args.levels) c.fitting.result c.args.tight c.args.at c.args.first not_there c.fitting.ensures

pub ladder_behind-returns-in_err-y : goal.ladder_behind-returns-in_err-y
ladder_behind-returns-in_err-y g t c =
    let l = c.loop-tight in
    let text = c.args.self.now.text.now in
    let p = err_from_is_err_and c.from_residual.result c.from_residual.ensures.1 in
    rw (p.1, p.2) (level_fails text c.args.levels c.args.context (unary text c.args.context (g.R.Readers.left c.args.context text) c.args.levels) _ (pure c.args.first) l.tight c.args.level c.args.start l.x l.at c.loop-tight-test.true l.invariant.0 c.in_err-y.ensures)

pub ladder_behind-returns : goal.ladder_behind-returns
ladder_behind-returns g t c =
    let l = c.loop-tight in
    let text = c.args.self.now.text.now in
    let same : l.tight ≡ c.args.level = omega arith in
    subst (λ (k : ℕ). ladder text c.args.levels c.args.context (unary text c.args.context (g.R.Readers.left c.args.context text) c.args.levels) (pure c.args.first) k c.args.start ≡ Some (l.x, l.at)) same l.invariant.0

pub binary-returns-in_err-first : goal.binary-returns-in_err-first
binary-returns-in_err-first g t c =
    let text = c.args.self.now.text.now in
    let p = err_from_is_err_and c.from_residual.result c.from_residual.ensures.1 in
    rw (p.1, p.2) (first_fails text c.args.levels c.args.context (unary text c.args.context (g.R.Readers.left c.args.context text) c.args.levels) _ (unary text c.args.context (g.R.Readers.left c.args.context text) c.args.levels) c.args.level c.args.at c.in_err-first.ensures)

pub binary-returns : goal.binary-returns
binary-returns g t c =
    let text = c.args.self.now.text.now in
    first_gives text c.args.levels c.args.context (unary text c.args.context (g.R.Readers.left c.args.context text) c.args.levels) _ (unary text c.args.context (g.R.Readers.left c.args.context text) c.args.levels) c.args.level c.args.at c.in_ok-first.first c.in_ok-first.at c.in_ok-first.ensures c.ladder_behind.ensures
