use Rattle.esb_sound.proofs.Likeness.{alike-fate}
use Rattle.esb_sound.proofs.Serial.{one_history}
use Rattle.esb_sound.proofs.laws.serial_histories_are_one.Goals as goal

pub returns-clause-history : goal.returns-clause-history
returns-clause-history c = one_history

pub returns-clause-files : goal.returns-clause-files
returns-clause-files c = alike-fate
