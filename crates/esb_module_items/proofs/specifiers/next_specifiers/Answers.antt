use Rattle.std.proofs.Common.{true, rules, arith}
use Rattle.std.proofs.lemmas.Grind.{common_steps}
use Rattle.esb_grammar.specs.Kinds.{is_comma}
use Rattle.esb_reader.specs.Reader.{repeated, node}
use Rattle.esb_reader.specs.Parts.{behind}
use Rattle.esb_module_laws.specs.Specifiers.{next_specifier}
use Rattle.esb_statement_tests.proofs.Steps.{one_more}
use Rattle.esb_module_items.proofs.specifiers.next_specifiers.Goals as goal

pub loop-turn-preserved : goal.loop-turn-preserved
unfolding repeated
loop-turn-preserved c =
    let text = c.args.text.now in
    let l = c.loop-turn in
    let e = one_more (λ n. repeated (λ i. is_comma (behind text i).kind) (next_specifier text c.args.is_import) n (node l.tree l.deepest) l.at) _ l._turn c.loop-turn-test.true l.invariant in
    first_of (search rules, grind (arith, common_steps))
