use Rattle.std.proofs.Common.{◌≡◌, drop, map}
use Rattle.esb_early.specs.Directives as spec
use Rattle.esb_early.specs.Rules as rules
use Rattle.esb_early.proofs.directives.use_strict.Given as goal

abbrev pub invariant-loop-statement : goal.invariant-loop-statement
invariant-loop-statement l = spec.use_strict l.text (map (λ f. f.directive) (map rules.facts_of_statement (drop l.statement-index l.body))) ≡ spec.use_strict l.text (map (λ f. f.directive) (map rules.facts_of_statement l.body))
