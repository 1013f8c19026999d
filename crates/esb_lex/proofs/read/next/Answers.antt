use Rattle.std.proofs.Common.{rules}
use Rattle.esb_token.specs.Tokens.{next}
use Rattle.esb_lex.proofs.Answered.{answered_literal, answered_last, answered_longest, answered_refusal, answered_spelled}
use Rattle.esb_lex.proofs.read.next.Goals as goal

pub returns-clause-literal : goal.returns-clause-literal
unfolding next
returns-clause-literal c = answered_literal c.args.contents.now c.args.at c.args.goal _ (search rules)

pub returns-clause-last : goal.returns-clause-last
unfolding next
returns-clause-last c = answered_last c.args.contents.now c.args.at c.args.goal _ c.requires (search rules)

pub returns-clause-longest : goal.returns-clause-longest
unfolding next
returns-clause-longest c = answered_longest c.args.contents.now c.args.at c.args.goal _ (search rules)

pub returns-clause-refused : goal.returns-clause-refused
unfolding next
returns-clause-refused c = answered_refusal c.args.contents.now c.args.at c.args.goal _ (search rules)

pub returns-clause-spelled : goal.returns-clause-spelled
unfolding next
returns-clause-spelled c = answered_spelled c.args.contents.now c.args.at c.args.goal _ (search rules)
