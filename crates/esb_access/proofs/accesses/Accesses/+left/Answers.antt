use Rattle.std.proofs.Common.{ℕ, ◌<◌, true, false, arith}
use Rattle.esb_grammar.specs.Contexts.{inside}
use Rattle.esb_inner.specs.Inner.{below}
use Rattle.esb_reader.specs.Places.{Text}
use Rattle.std.proofs.lemmas.Result.{err_from_is_err_and}
use Rattle.esb_access.specs.Handed as handed
use Rattle.esb_access.proofs.Lefts.{accessed_fails, accessed_gives, below_gives, left_gives}
use Rattle.esb_access.proofs.accesses.Accesses.+left.Goals as goal

pub left-returns : goal.left-returns
left-returns g t c =
    let text = c.args.self.now.parser.now.text.now in
    let d = c.args.context in
    left_gives text (g.R.Parts.primary d text) (g.R.Parts.arguments d text) (g.R.Parts.template d text) (below (g.R.Readers.expression true (inside d)) text) (below (g.R.Readers.expression false (inside d)) text) c.args.calls c.args.levels c.args.at _ c.accessed.ensures

pub accessed-returns-in_err-first : goal.accessed-returns-in_err-first
accessed-returns-in_err-first g t c =
    let text = c.args.self.now.parser.now.text.now in
    let d = c.args.context in
    let n = c.args.levels in
    let p = err_from_is_err_and c.from_residual.result c.from_residual.ensures.1 in
    rw (p.1, p.2) (accessed_fails text n (g.R.Parts.primary d text n) (g.R.Parts.arguments d text n) (g.R.Parts.template d text n) (below (g.R.Readers.expression true (inside d)) text n) (below (g.R.Readers.expression false (inside d)) text n) c.args.calls (handed.origin g.R.Readers.expression g.R.Parts.primary g.R.Parts.arguments g.R.Parts.template d text c.args.calls n) c.args.at _ c.in_err-first.ensures)

pub accessed-returns : goal.accessed-returns
accessed-returns g t c =
    let text = c.args.self.now.parser.now.text.now in
    let d = c.args.context in
    let n = c.args.levels in
    accessed_gives text n (g.R.Parts.primary d text n) (g.R.Parts.arguments d text n) (g.R.Parts.template d text n) (below (g.R.Readers.expression true (inside d)) text n) (below (g.R.Readers.expression false (inside d)) text n) c.args.calls (handed.origin g.R.Readers.expression g.R.Parts.primary g.R.Parts.arguments g.R.Parts.template d text c.args.calls n) c.args.at _ c.in_ok-first.first c.in_ok-first.at c.in_ok-first.ensures c.links_behind.ensures

pub callee-returns : goal.callee-returns
callee-returns g t c =
    let text = c.args.self.now.parser.now.text.now in
    let some : 0 < c.args.levels = omega arith in
    below_gives (λ (_ : Text) (m : ℕ). handed.left g.R.Readers.expression g.R.Parts.primary g.R.Parts.arguments g.R.Parts.template c.args.context text false m) text c.args.levels c.args.at c.left.result some c.left.ensures
