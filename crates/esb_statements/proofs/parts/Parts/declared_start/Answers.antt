use Rattle.std.proofs.Common.{◌≡◌, Some, subst, rules, arith}
use Rattle.std.proofs.lemmas.Grind.{common_steps}
use Rattle.std.proofs.lemmas.Result.{err_from_is_err_and}
use Rattle.esb_grammar.specs.declared.context.Context.{Context}
use Rattle.esb_statements.specs.Lists.{loose_declaration}
use Rattle.esb_statements.proofs.Steps.{start_fails, start_gives}
use Rattle.esb_statements.proofs.parts.Parts.declared_start.Goals as goal

pub returns-in_err-declaration : goal.returns-in_err-declaration
returns-in_err-declaration g c =
    let this = c.args.self.now in
    let text = this.text.now in
    let r = g.R.StatementReaders.handed text this.levels in
    let p = err_from_is_err_and c.from_residual.result c.from_residual.ensures.1 in
    rw (p.1, p.2) (start_fails text c.args.context this.levels r c.args.at _ _ c.without_in.ensures c.in_err-declaration.ensures)

pub returns : goal.returns
returns g c =
    let this = c.args.self.now in
    let text = this.text.now in
    let r = g.R.StatementReaders.handed text this.levels in
    let h = subst (λ (bare : Context). loose_declaration text bare this.levels r c.args.at ≡ Some (c.in_ok-declaration.declaration, c.in_ok-declaration.at)) c.without_in.ensures c.in_ok-declaration.ensures in
    let e = start_gives text c.args.context this.levels r c.args.at c.in_ok-declaration.declaration c.in_ok-declaration.at h in
    first_of (search rules, grind (arith, common_steps))
