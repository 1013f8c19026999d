use Rattle.esb_grammar.proofs.SemicolonTexts.{may_be_left_out, may_not_be_left_out}
use Rattle.esb_grammar.proofs.laws.left_out.Goals as goal

pub returns : goal.returns
returns c = record { may = may_be_left_out; may_not = may_not_be_left_out }
