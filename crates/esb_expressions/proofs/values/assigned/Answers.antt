use Rattle.std.proofs.Common.{◌≡◌, ℕ, List, sym, ap, ◌∙◌, subst, false, Err}
use Rattle.std.proofs.lemmas.Result.{err_from_is_err_and}
use Rattle.esb_reader.specs.Reader.{pure, Gives}
use Rattle.esb_inner.specs.Inner.{below}
use Rattle.esb_operator_laws.specs.Unary.{unary}
use Rattle.esb_expressions.proofs.Behind.{valued_fails, valued_gives}
use Rattle.esb_expressions.proofs.values.assigned.Goals as goal

pub returns-in_err-first : goal.returns-in_err-first
returns-in_err-first g c =
    let text = c.args.parser.now.text.now in
    let p = err_from_is_err_and c.from_residual.result c.from_residual.ensures.1 in
    let same = ap (λ (text : List ℕ). unary text c.args.context (g.R.Readers.left c.args.context text) c.args.levels c.args.at) c.requires.same in
    rw (p.1, p.2) (valued_fails text c.args.levels c.args.context (unary text c.args.context (g.R.Readers.left c.args.context text) c.args.levels) (λ k. below (g.R.Readers.expression false k) text c.args.levels) _ (unary text c.args.context (g.R.Readers.left c.args.context text) c.args.levels) c.args.at (rw same at c.in_err-first.ensures))

pub returns : goal.returns
returns g c =
    let text = c.args.parser.now.text.now in
    let same = ap (λ (text : List ℕ). unary text c.args.context (g.R.Readers.left c.args.context text) c.args.levels c.args.at) c.requires.same in
    valued_gives text c.args.levels c.args.context (unary text c.args.context (g.R.Readers.left c.args.context text) c.args.levels) (λ k. below (g.R.Readers.expression false k) text c.args.levels) _ (unary text c.args.context (g.R.Readers.left c.args.context text) c.args.levels) c.args.at c.in_ok-first.first c.in_ok-first.at (sym same ∙ c.in_ok-first.ensures) c.operand_behind.ensures
