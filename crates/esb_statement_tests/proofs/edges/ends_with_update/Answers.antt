use Rattle.std.proofs.Common.{◌∙◌, refl, ap, sym}
use Rattle.esb_tree.specs.Trees.{written}
use Rattle.esb_tree.specs.Yields.{tokens_of_expression}
use Rattle.esb_grammar.specs.Kinds.{is_update}
use Rattle.esb_statement_tests.proofs.Lasts.{ends_by_last}
use Rattle.esb_statement_tests.proofs.edges.ends_with_update.Goals as goal

pub returns : goal.returns
returns c = c.is_update.ensures ∙ ap (λ t. is_update t.kind) c.last_token.ensures ∙ sym (ends_by_last _ (tokens_of_expression written c.args.x.now) refl)
