use Rattle.std.proofs.Common.{refl, false}
use Rattle.std.proofs.lemmas.Result.{err_from_is_err_and}
use Rattle.esb_reader.specs.Reader.{pure}
use Rattle.esb_inner.specs.Inner.{below}
use Rattle.esb_operator_laws.specs.Unary.{unary, postfixed}
use Rattle.esb_expressions.proofs.Behind.{valued_fails, valued_gives}
use Rattle.esb_expressions.proofs.values.left_behind.Goals as goal

pub returns-in_err-first : goal.returns-in_err-first
returns-in_err-first g c =
    let text = c.args.parser.now.text.now in
    let p = err_from_is_err_and c.from_residual.result c.from_residual.ensures.1 in
    rw (p.1, p.2) (valued_fails text c.args.levels c.args.context (unary text c.args.context (g.R.Readers.left c.args.context text) c.args.levels) (λ k. below (g.R.Readers.expression false k) text c.args.levels) _ (postfixed text c.args.levels (pure c.args.x)) c.args.at c.in_err-first.ensures)

pub returns : goal.returns
returns g c =
    let text = c.args.parser.now.text.now in
    valued_gives text c.args.levels c.args.context (unary text c.args.context (g.R.Readers.left c.args.context text) c.args.levels) (λ k. below (g.R.Readers.expression false k) text c.args.levels) _ (postfixed text c.args.levels (pure c.args.x)) c.args.at c.in_ok-first.first c.in_ok-first.at c.in_ok-first.ensures c.operand_behind.ensures
