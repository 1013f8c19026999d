use Rattle.esb_ask.proofs.Tables.{kept_extends, kept_answers, kept_others, all_fit-kept}
use Rattle.esb_ask.proofs.laws.first_answers_stay.Goals as goal

pub returns-clause-stay : goal.returns-clause-stay
returns-clause-stay c = kept_extends

pub returns-clause-answered : goal.returns-clause-answered
returns-clause-answered c = kept_answers

pub returns-clause-others : goal.returns-clause-others
returns-clause-others c = kept_others

pub returns-clause-fit : goal.returns-clause-fit
returns-clause-fit c = all_fit-kept
