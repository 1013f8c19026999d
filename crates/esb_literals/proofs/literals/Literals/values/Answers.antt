use Rattle.std.proofs.Common.{Some, None}
use Rattle.esb_grammar.specs.Contexts.{inside}
use Rattle.esb_expression_laws.specs.Lists.{list, element, list_fits}
use Rattle.esb_literals.specs.Handed as handed
use Rattle.esb_literals.specs.Pieces.{next_values}
use Rattle.esb_literals.proofs.Lists.{list_read}
use Rattle.esb_literals.proofs.literals.Literals.values.Goals as goal

pub returns-in-Some : goal.returns-in-Some
unfolding list next_values
returns-in-Some g c =
    let text = c.args.self.now.parser.now.text.now in
    let inner = handed.values g.R.Readers.expression text (inside c.args.context) c.args.levels in
    let both = c.in_ok-first-2 in
    list_read (element text c.args.form inner) (next_values text c.args.form inner) (list_fits c.args.form) c.args.at c.in_ok-first.end both.end both.first c.in_ok-first.first both.rest c.next_values.result (Some c.in-Some.list) c.in_ok-first.ensures both.ensures.read both.ensures.next c.next_values.ensures c.in-Some.ensures

pub returns-in-None : goal.returns-in-None
unfolding list next_values
returns-in-None g c =
    let text = c.args.self.now.parser.now.text.now in
    let inner = handed.values g.R.Readers.expression text (inside c.args.context) c.args.levels in
    let both = c.in_ok-first-2 in
    list_read (element text c.args.form inner) (next_values text c.args.form inner) (list_fits c.args.form) c.args.at c.in_ok-first.end both.end both.first c.in_ok-first.first both.rest c.next_values.result None c.in_ok-first.ensures both.ensures.read both.ensures.next c.next_values.ensures c.in-None.ensures
