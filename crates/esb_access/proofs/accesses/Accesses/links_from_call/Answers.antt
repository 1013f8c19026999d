use Rattle.std.proofs.Common.{◌≡◌, ◌<◌, length, true, arith}
use Rattle.esb_grammar.specs.Contexts.{inside}
use Rattle.esb_inner.specs.Inner.{below}
use Rattle.esb_access.proofs.Calls.{call_first}
use Rattle.esb_access.proofs.accesses.Accesses.links_from_call.Goals as goal

pub returns : goal.returns
returns g c =
    let text = c.args.self.now.parser.now.text.now in
    let n = c.args.levels in
    let same : c.length_of-length.result ≡ length text = c.length_of-length.ensures in
    let full : 0 < length text = omega arith in
    let e = call_first text (g.R.Parts.arguments c.args.context text n) (g.R.Parts.template c.args.context text n) (below (g.R.Readers.expression true (inside c.args.context)) text n) c.args.at c.args.list c.args.end c.requires.seen c.requires.read full in
    rw (e, ← same, ← c.in_ok-found.ensures) c.links_from.ensures
