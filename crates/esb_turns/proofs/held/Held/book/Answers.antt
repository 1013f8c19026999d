use Rattle.std.proofs.Common.{refl}
use Rattle.esb_turns.proofs.SameTurn.{same-turn}
use Rattle.esb_turns.proofs.held.Held.book.Goals as goal

pub returns : goal.returns
returns g c = ((refl, λ w. same-turn g.row.B.coded g.row.B-Entry.coded c.args.self.now w _ _ _ _ _ _), record { writes_back = tt; value = refl })
