use Rattle.std.proofs.Common.{false, subst, rules, arith}
use Rattle.std.proofs.lemmas.Grind.{common_steps}
use Rattle.esb_reader.specs.Reader.{Gives}
use Rattle.esb_parse.specs.Knot as knot
use Rattle.esb_parse.proofs.Handed.{value_none, items_none, statement_none, value_next, items_next, statement_next, target_is, binding_is, function_is, class_is}
use Rattle.esb_parse.proofs.Room.{room, expression_fits, items_fit}
use Rattle.esb_parse.proofs.Whole.{arguments_same, template_same, block_same, primary_same, left_same, value_same, commas_by, left_chain, lists_may_be_first}
use Rattle.esb_parse.proofs.knot.+knot.Goals as goal

-- ---- expressions

pub value-value-requires-clause-owed : goal.value-value-requires-clause-owed
value-value-requires-clause-owed t c =
    let chains = left_chain c.args.text.now in
    let lists = lists_may_be_first c.args.text.now in
    first_of (search rules, grind (arith, common_steps))

pub value-returns : goal.value-returns
value-returns t c = subst (λ r. Gives c.value.result (r c.args.at)) (value_same c.args.text.now c.args.context c.args.levels) c.value.ensures

pub expression-returns-then-not-commas-clause-room : goal.expression-returns-then-not-commas-clause-room
expression-returns-then-not-commas-clause-room t c =
    room c.value.result (knot.expression false c.args.context c.args.text.now c.args.levels c.args.at) c.args.levels c.value.ensures (λ x j h. expression_fits c.args.text.now false c.args.context c.args.levels c.args.at x j h)

pub expression-returns-clause-value : goal.expression-returns-clause-value
expression-returns-clause-value t c =
    subst (λ r. Gives c.expression.result (r c.args.at)) (commas_by c.args.text.now c.args.context c.args.levels c.args.commas c.if-not-commas.false) c.expression.ensures

pub expression-returns-clause-room : goal.expression-returns-clause-room
expression-returns-clause-room t c =
    room c.expression.result (knot.expression c.args.commas c.args.context c.args.text.now c.args.levels c.args.at) c.args.levels
    (subst (λ r. Gives c.expression.result (r c.args.at)) (commas_by c.args.text.now c.args.context c.args.levels c.args.commas c.if-not-commas.false) c.expression.ensures)
    (λ x j h. expression_fits c.args.text.now c.args.commas c.args.context c.args.levels c.args.at x j h)

pub left-returns : goal.left-returns
left-returns t c = subst (λ r. Gives c.left.result (r c.args.at)) (left_same c.args.text.now c.args.context c.args.levels) c.left.ensures

pub primary-returns : goal.primary-returns
primary-returns t c = subst (λ r. Gives c.primary.result (r c.args.at)) (primary_same c.args.text.now c.args.context c.args.levels) c.primary.ensures

pub arguments-returns : goal.arguments-returns
arguments-returns t c = subst (λ r. Gives c.bracketed.result (r c.args.at)) (arguments_same c.args.text.now c.args.context c.args.levels) c.bracketed.ensures

pub template-returns : goal.template-returns
template-returns t c = subst (λ r. Gives c.template.result (r c.args.at)) (template_same c.args.text.now c.args.context c.args.levels) c.template.ensures

pub block-returns : goal.block-returns
block-returns t c = subst (λ r. Gives c.block.result (r c.args.at)) (block_same c.args.text.now c.args.context c.args.levels) c.block.ensures

-- ---- what stands in a statement

pub value_below-returns-then-levels-eq0 : goal.value_below-returns-then-levels-eq0
value_below-returns-then-levels-eq0 t c = value_none c.args.text.now c.args.commas c.args.context c.args.levels c.args.at (omega (arith, c.if-levels-eq0.true))

pub value_below-returns : goal.value_below-returns
value_below-returns t c =
    subst (λ r. Gives c.expression.result (r c.args.at)) (value_next c.args.text.now c.args.commas c.args.context c.args.levels (omega (arith, c.if-levels-eq0.false))) c.expression.ensures.value

pub items_below-returns-then-levels-eq0 : goal.items_below-returns-then-levels-eq0
items_below-returns-then-levels-eq0 t c = items_none c.args.text.now c.args.context c.args.levels c.args.at (omega (arith, c.if-levels-eq0.true))

pub items_below-returns : goal.items_below-returns
items_below-returns t c =
    subst (λ r. Gives c.items.result (r c.args.at)) (items_next c.args.text.now c.args.context c.args.levels (omega (arith, c.if-levels-eq0.false))) c.items.ensures.value

pub statement_below-returns-then-levels-eq0 : goal.statement_below-returns-then-levels-eq0
statement_below-returns-then-levels-eq0 t c = statement_none c.args.text.now c.args.context c.args.levels c.args.at (omega (arith, c.if-levels-eq0.true))

pub statement_below-returns : goal.statement_below-returns
statement_below-returns t c =
    subst (λ r. Gives c.statement.result (r c.args.at)) (statement_next c.args.text.now c.args.context c.args.levels (omega (arith, c.if-levels-eq0.false))) c.statement.ensures

pub target-returns : goal.target-returns
target-returns t c = subst (λ r. Gives c.target_below.result (r c.args.at)) (target_is c.args.text.now c.args.context c.args.levels) c.target_below.ensures

pub binding-returns : goal.binding-returns
binding-returns t c = subst (λ r. Gives c.loose.result (r c.args.at)) (binding_is c.args.text.now c.args.context c.args.levels) c.loose.ensures

pub function-returns : goal.function-returns
function-returns t c = subst (λ r. Gives c.function.result (r c.args.at)) (function_is c.args.text.now c.args.levels) c.function.ensures

pub class-returns : goal.class-returns
class-returns t c = subst (λ r. Gives c.class.result (r c.args.at)) (class_is c.args.text.now c.args.context c.args.levels) c.class.ensures

-- ---- statements

pub items-returns-clause-room : goal.items-returns-clause-room
items-returns-clause-room t c =
    room c.items.result (knot.items c.args.context c.args.text.now c.args.levels c.args.at) c.args.levels c.items.ensures (λ x j h. items_fit c.args.text.now c.args.context c.args.levels c.args.at x j h)
