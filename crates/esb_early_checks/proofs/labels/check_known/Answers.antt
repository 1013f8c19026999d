use Rattle.std.proofs.Common.{not, sym, ap, ◌∙◌}
use Rattle.esb_early_checks.specs.Findings.{breach_if}
use Rattle.esb_early_checks.specs.Labels.{has_label, unknown_label}
use Rattle.esb_early_checks.proofs.Steps.{finds_here}
use Rattle.esb_early_checks.proofs.labels.check_known.Goals as goal

pub returns : goal.returns
returns c =
    let known = c.has_label-known.ensures ∙ ap (has_label c.args.text.now c.args.name) c.as_slice.ensures in
    finds_here _ (unknown_label c.args.text.now c.args.name) _ _ (ap (λ k. breach_if (not k) c.args.name.start 2 c.args.out.now.labels) (sym known)) c.report_if.ensures
