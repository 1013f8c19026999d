use Rattle.std.proofs.Common.{length, ap, ◌∙◌, arith}
use Rattle.esb_exports.specs.Segments.{unescaped}
use Rattle.esb_exports.proofs.Escapes.{unescaped-short}
use Rattle.esb_exports.proofs.segments.short_read.Goals as goal

pub returns-in-Some : goal.returns-in-Some
returns-in-Some c =
    let is = c.in-Some.ensures.cases.0 in
    ap unescaped is ∙ unescaped-short c.in-Some.first.now c.in-Some.rest.now (omega (arith, ap length is, c.requires))
