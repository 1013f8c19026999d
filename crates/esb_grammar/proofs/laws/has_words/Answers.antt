use Rattle.esb_grammar.proofs.WordTexts.{has_words, has_no_words}
use Rattle.esb_grammar.proofs.laws.has_words.Goals as goal

pub returns : goal.returns
returns c = record { well_formed = has_words; not_well_formed = has_no_words }
