use Rattle.std.proofs.lemmas.List.Elements.{All-contains_itself}
use Rattle.std.specs.Prelude.{Contains}
use Rattle.esb_turns.proofs.Whole.{whole-all}
use Rattle.esb_turns.proofs.WholeCount.{whole-length}
use Rattle.esb_turns.proofs.laws.each_entry_is_owned.Goals as goal

pub returns-clause-count : goal.returns-clause-count
returns-clause-count g c = whole-length

pub returns-clause-each : goal.returns-clause-each
returns-clause-each g c list own k entry whole at = whole-all (Contains own) own list whole (All-contains_itself own) k entry at
