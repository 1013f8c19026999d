use Rattle.std.proofs.Common.{Some, None}
use Rattle.esb_grammar.specs.declared.form.Form.TheVariants as f
use Rattle.esb_expression_laws.specs.Lists.{list_fits}
use Rattle.esb_literal_laws.specs.ElementLists.{nexts_of, list_of}
use Rattle.esb_literal_laws.specs.Objects.{object_slot}
use Rattle.esb_literals.specs.Handed as handed
use Rattle.esb_functions.specs.Bodies.{bodies}
use Rattle.esb_functions.proofs.Lists.{list_read}
use Rattle.esb_functions.proofs.parser.Functions.properties.Goals as goal

pub returns-in-Some : goal.returns-in-Some
unfolding list_of
returns-in-Some g c =
    let text = c.args.self.now.parser.now.text.now in
    let element = object_slot text (handed.values g.R.Readers.expression text) (bodies g.R.Readers.items text) c.args.context c.args.levels in
    let both = c.in_ok-first-2 in
    list_read element (nexts_of text element) (list_fits f.Object) c.args.at c.in_ok-first.end both.end both.first c.in_ok-first.first both.rest c.next_properties.result (Some c.in-Some.list) c.in_ok-first.ensures both.ensures.read both.ensures.next c.next_properties.ensures c.in-Some.ensures

pub returns-in-None : goal.returns-in-None
unfolding list_of
returns-in-None g c =
    let text = c.args.self.now.parser.now.text.now in
    let element = object_slot text (handed.values g.R.Readers.expression text) (bodies g.R.Readers.items text) c.args.context c.args.levels in
    let both = c.in_ok-first-2 in
    list_read element (nexts_of text element) (list_fits f.Object) c.args.at c.in_ok-first.end both.end both.first c.in_ok-first.first both.rest c.next_properties.result None c.in_ok-first.ensures both.ensures.read both.ensures.next c.next_properties.ensures c.in-None.ensures
