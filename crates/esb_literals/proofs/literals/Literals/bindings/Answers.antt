use Rattle.std.proofs.Common.{Some, None}
use Rattle.esb_grammar.specs.declared.form.Form.TheVariants as f
use Rattle.esb_expression_laws.specs.Lists.{list_fits}
use Rattle.esb_literal_laws.specs.Bindings.{binding, bindings}
use Rattle.esb_literal_laws.specs.ElementLists.{nexts_of, list_of}
use Rattle.esb_literals.specs.Handed as handed
use Rattle.esb_literals.proofs.Lists.{list_read}
use Rattle.esb_literals.proofs.literals.Literals.bindings.Goals as goal

pub returns-in-Some : goal.returns-in-Some
unfolding bindings list_of
returns-in-Some g c =
    let text = c.args.self.now.parser.now.text.now in
    let element = binding text (handed.values g.R.Readers.expression text) c.args.context c.args.levels in
    let both = c.in_ok-first-2 in
    list_read element (nexts_of text element) (list_fits f.Bindings) c.args.at c.in_ok-first.end both.end both.first c.in_ok-first.first both.rest c.next_bindings.result (Some c.in-Some.list) c.in_ok-first.ensures both.ensures.read both.ensures.next c.next_bindings.ensures c.in-Some.ensures

pub returns-in-None : goal.returns-in-None
unfolding bindings list_of
returns-in-None g c =
    let text = c.args.self.now.parser.now.text.now in
    let element = binding text (handed.values g.R.Readers.expression text) c.args.context c.args.levels in
    let both = c.in_ok-first-2 in
    list_read element (nexts_of text element) (list_fits f.Bindings) c.args.at c.in_ok-first.end both.end both.first c.in_ok-first.first both.rest c.next_bindings.result None c.in_ok-first.ensures both.ensures.read both.ensures.next c.next_bindings.ensures c.in-None.ensures
