use Rattle.std.proofs.Common.{sym, ◌∙◌, arith}
use Rattle.esb_core.proofs.tables.Tables.is_settled.Goals as goal

pub index-requires : goal.index-requires
index-requires c =
    let at = (c.requires.ordered.active c.args.key c.in-Some.build (sym c.active.ensures ∙ c.in-Some.is)).begun in
    omega (arith, at, c.args.self.now.builds.ok)
