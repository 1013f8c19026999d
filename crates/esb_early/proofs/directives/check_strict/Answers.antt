use Rattle.std.proofs.Common.{map, ap, sym, ◌∙◌}
use Rattle.esb_early.specs.Directives.{use_strict}
use Rattle.esb_early.specs.Rules as rules
use Rattle.esb_early_checks.specs.Tests.{strict_breaches}
use Rattle.esb_early_checks.proofs.Steps.{finds_of}
use Rattle.esb_early.proofs.RuleLines.{strict_at_Block}
use Rattle.esb_early.proofs.directives.check_strict.Goals as goal

pub returns : goal.returns
returns c =
    let told = c.use_strict.ensures ∙ ap (λ xs. use_strict c.args.text.now (map (λ f. f.directive) (map rules.facts_of_statement xs))) c.as_slice.ensures ∙ sym (strict_at_Block c.args.body.now c.args.text.now) in
    finds_of (λ d. strict_breaches c.args.is_plain d) _ _ _ _ told c.check_directive.ensures
