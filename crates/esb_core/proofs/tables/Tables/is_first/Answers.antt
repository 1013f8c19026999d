use Rattle.std.proofs.Common.{ℕ, drop, ap, ◌∙◌, arith}
use Rattle.esb_core.specs.Allowed.{first_from}
use Rattle.esb_core.proofs.Jobs.{first_past}
use Rattle.esb_core.proofs.Keeping.{shut-first}
use Rattle.esb_core.proofs.tables.Tables.is_first.Goals as goal

pub loop-number-init : goal.loop-number-init
loop-number-init c =
    first_past 0 c.args.self.now.passed c.args.self.now.builds.items c.requires.passed (shut-first c.args.self.now c.requires)
    ∙ ap (λ (k : ℕ). first_from k (drop c.args.self.now.passed c.args.self.now.builds.items)) (omega arith)
