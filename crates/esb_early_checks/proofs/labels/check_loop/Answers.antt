use Rattle.std.proofs.Common.{not, ◌&&◌, sym, ap, ◌∙◌}
use Rattle.std.proofs.Math.Path.{ap₂}
use Rattle.esb_early_checks.specs.Findings.{breach_if}
use Rattle.esb_early_checks.specs.Labels.{has_label, has_loop, no_loop}
use Rattle.esb_early_checks.proofs.Steps.{finds_here}
use Rattle.esb_early_checks.proofs.labels.check_loop.Goals as goal

pub returns : goal.returns
returns c =
    let known = c.has_label-known.ensures ∙ ap (has_label c.args.text.now c.args.name) c.as_slice.ensures in
    let is_loop = c.has_loop-is_loop.ensures ∙ ap (has_loop c.args.text.now c.args.name) c.as_slice-2.ensures in
    finds_here _ (no_loop c.args.text.now c.args.word c.args.name) _ _ (ap (λ b. breach_if b c.args.word.start 3 c.args.out.now.labels) (sym (c.both.ensures ∙ ap₂ (λ k l. k && not l) known is_loop))) c.report_if.ensures
