use Rattle.std.proofs.Common.{sym, true, false, arith}
use Rattle.esb_grammar.specs.Contexts.{inside}
use Rattle.esb_inner.specs.Inner.{below}
use Rattle.esb_values.proofs.Whole.{lefts_go}
use Rattle.esb_values.proofs.values.Assignments.left_behind.Goals as goal

pub left_behind-requires : goal.left_behind-requires
left_behind-requires g c = record { left = c.requires.owed.lefts; inner = c.requires.owed.inner; same = c.requires.owed.same_text; room = omega arith; fits = c.requires.fits }

pub returns : goal.returns
returns g c =
    let text = c.args.self.now.accesses.now.parser.now.text.now in
    let e = lefts_go text c.args.context (g.R.Parts.primary c.args.context text) (g.R.Parts.arguments c.args.context text) (g.R.Parts.template c.args.context text) (below (g.R.Readers.expression true (inside c.args.context)) text) (λ d. below (g.R.Readers.expression false d) text) (λ d. g.R.Blocks.block d text) c.args.levels (g.R.Readers.left c.args.context text) (c.requires.owed.chains c.args.context) c.args.x c.args.at in
    rw (sym e) c.left_behind.ensures
