use Rattle.std.proofs.Common.{arith, subst, ℕ}
use Rattle.atomic_table.specs.Table.{Splits}
use Rattle.esb_turns.specs.Rule.{InTurn}
use Rattle.esb_turns.specs.Views.{fewer, partner}
use Rattle.esb_turns.proofs.ShareSteps.{splits}
use Rattle.esb_turns.proofs.lock.TurnLock.cut.Goals as goal

pub split_seat-other-requires : goal.split_seat-other-requires
split_seat-other-requires g c =
    let sized = c.args.self.now.sized in let seat = c.args.pass.seat in let key = c.args.self.now.table.shared.key in
    let P : ℕ → Type 0 = λ n. Splits (InTurn g.B.Book.entries g.B.Book.is_at_rest key) seat.id seat.me.0 (fewer n seat.me.0) (partner n seat.me.0) in (
      c.requires.lock,
      omega arith,
      subst P c.requires.amount (splits g.B.Book.entries g.B.Book.is_at_rest key seat.id c.args.right seat.me.0 c.args.pass.idle c.requires.right.0 c.requires.right.1),
    )
