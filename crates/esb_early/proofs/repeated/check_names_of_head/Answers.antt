use Rattle.std.proofs.Common.{◌++◌, ap, ◌∙◌}
use Rattle.esb_early.specs.Gathered.{Gathers}
use Rattle.esb_early.specs.Rules.{names_of_expression}
use Rattle.esb_early.proofs.repeated.check_names_of_head.Goals as goal

pub returns : goal.returns
unfolding Gathers
returns c = c.check_gathered.ensures (names_of_expression c.args.x.now) (λ fine. (c.gather_expression.ensures fine).1 ∙ ap (λ list. list ++ names_of_expression c.args.x.now) c.no_names-names.ensures)
