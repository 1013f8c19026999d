use Rattle.std.proofs.Common.{◌≡◌, true, false, rules, arith}
use Rattle.std.proofs.lemmas.Grind.{common_steps}
use Rattle.esb_reader.specs.Parts.{behind}
use Rattle.esb_operator_laws.specs.Unary.{begins_prefix}
use Rattle.esb_expressions.proofs.PrefixSteps.{plain_gives, begun_gives}
use Rattle.esb_expressions.proofs.operators.Operators.+unary.Goals as goal

pub unary-returns-then-is_prefix : goal.unary-returns-then-is_prefix
unary-returns-then-is_prefix g t c =
    let text = c.args.self.now.text.now in
    let seen : begins_prefix c.args.context (behind text c.args.at) ≡ true = first_of (cc, search rules, grind (arith, common_steps)) in
    begun_gives text c.args.context (g.R.Readers.left c.args.context text) c.args.at _ c.args.levels seen c.prefixed.ensures

pub unary-returns : goal.unary-returns
unary-returns g t c =
    let text = c.args.self.now.text.now in
    let seen : begins_prefix c.args.context (behind text c.args.at) ≡ false = first_of (cc, search rules, grind (arith, common_steps)) in
    plain_gives text c.args.context (g.R.Readers.left c.args.context text) c.args.at _ c.args.levels seen c.postfixed.ensures
