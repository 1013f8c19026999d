use Rattle.std.proofs.Common.{◌≡◌, ℕ, List, sym, ap, ◌∙◌, false}
use Rattle.std.proofs.lemmas.Result.{err_from_is_err_and}
use Rattle.esb_grammar.specs.Grammar.{loosest}
use Rattle.esb_reader.specs.Reader.{pure}
use Rattle.esb_inner.specs.Inner.{below}
use Rattle.esb_operator_laws.specs.Unary.{unary}
use Rattle.esb_operator_laws.specs.Ladder.{ladder}
use Rattle.esb_expressions.proofs.Behind.{operators_fail, choice_fails, assigned_gives}
use Rattle.esb_expressions.proofs.values.operand_behind.Goals as goal

pub returns-in_err-x : goal.returns-in_err-x
returns-in_err-x g c =
    let text = c.args.parser.now.text.now in
    let p = err_from_is_err_and c.from_residual.result c.from_residual.ensures.1 in
    let same = ap (λ (text : List ℕ). ladder text c.args.levels c.args.context (unary text c.args.context (g.R.Readers.left c.args.context text) c.args.levels) (pure c.args.first) loosest c.args.at) c.requires.same in
    rw (p.1, p.2) (operators_fail text c.args.levels c.args.context (unary text c.args.context (g.R.Readers.left c.args.context text) c.args.levels) (λ k. below (g.R.Readers.expression false k) text c.args.levels) _ (pure c.args.first) c.args.at (rw same at c.in_err-x.ensures))

pub returns-in_err-target : goal.returns-in_err-target
returns-in_err-target g c =
    let text = c.args.parser.now.text.now in
    let p = err_from_is_err_and c.from_residual-in_err-target.result c.from_residual-in_err-target.ensures.1 in
    let same = ap (λ (text : List ℕ). ladder text c.args.levels c.args.context (unary text c.args.context (g.R.Readers.left c.args.context text) c.args.levels) (pure c.args.first) loosest c.args.at) c.requires.same in
    rw (p.1, p.2) (choice_fails text c.args.levels c.args.context (unary text c.args.context (g.R.Readers.left c.args.context text) c.args.levels) (λ k. below (g.R.Readers.expression false k) text c.args.levels) _ (pure c.args.first) c.args.at c.in_ok-x.x c.in_ok-x.at (sym same ∙ c.in_ok-x.ensures) c.in_err-target.ensures)

pub returns : goal.returns
returns g c =
    let text = c.args.parser.now.text.now in
    let same = ap (λ (text : List ℕ). ladder text c.args.levels c.args.context (unary text c.args.context (g.R.Readers.left c.args.context text) c.args.levels) (pure c.args.first) loosest c.args.at) c.requires.same in
    assigned_gives text c.args.levels c.args.context (unary text c.args.context (g.R.Readers.left c.args.context text) c.args.levels) (λ k. below (g.R.Readers.expression false k) text c.args.levels) _ (pure c.args.first) c.args.at c.in_ok-x.x c.in_ok-x.at c.in_ok-target.target c.in_ok-target.at (sym same ∙ c.in_ok-x.ensures) c.in_ok-target.ensures c.assignment_behind.ensures
