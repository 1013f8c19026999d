use Rattle.std.proofs.Common.{true, false, rules, arith}
use Rattle.std.proofs.lemmas.Grind.{common_steps}
use Rattle.esb_grammar.specs.Contexts.{inside}
use Rattle.esb_inner.specs.Inner.{below}
use Rattle.esb_values.proofs.ReadFirst.{at_list}
use Rattle.esb_values.proofs.values.Assignments.listed.Goals as goal

pub returns-in_err-list : goal.returns-in_err-list
returns-in_err-list g c =
    let text = c.args.self.now.accesses.now.parser.now.text.now in
    let e = at_list text c.args.context (g.R.Parts.primary c.args.context text) (g.R.Parts.arguments c.args.context text) (g.R.Parts.template c.args.context text) (below (g.R.Readers.expression true (inside c.args.context)) text) (λ d. below (g.R.Readers.expression false d) text) (λ d. g.R.Blocks.block d text) c.args.levels (c.requires.owed.lists_first c.args.context c.args.levels) c.args.at c.requires.seen in
    first_of (search rules, grind (arith, common_steps))

pub returns : goal.returns
returns g c =
    let text = c.args.self.now.accesses.now.parser.now.text.now in
    let e = at_list text c.args.context (g.R.Parts.primary c.args.context text) (g.R.Parts.arguments c.args.context text) (g.R.Parts.template c.args.context text) (below (g.R.Readers.expression true (inside c.args.context)) text) (λ d. below (g.R.Readers.expression false d) text) (λ d. g.R.Blocks.block d text) c.args.levels (c.requires.owed.lists_first c.args.context c.args.levels) c.args.at c.requires.seen in
    first_of (search rules, grind (arith, common_steps))
