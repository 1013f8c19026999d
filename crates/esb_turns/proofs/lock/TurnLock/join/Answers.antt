use Rattle.std.proofs.Common.{◌≡◌, arith, ap, ◌∙◌, ◌+◌}
use Rattle.esb_turns.proofs.ShareSteps.{joins, compares}
use Rattle.esb_turns.proofs.lock.TurnLock.join.Goals as goal

pub join_seat-requires : goal.join_seat-requires
join_seat-requires g c =
    let sized = c.args.self.now.sized in let left = c.args.left in let right = c.args.right in (
      c.requires.lock.0,
      c.requires.lock.1,
      right.none_out,
      omega arith,
      joins g.B.Book.entries g.B.Book.is_at_rest c.args.self.now.table.shared.key left.seat.id right.seat.id left.seat.me.0 right.seat.me.0 left.idle right.idle left.live,
    )

pub load-requires : goal.load-requires
load-requires g c =
    let sized = c.args.self.now.sized in let seat = c.join_seat.new.seat in let done = c.join_seat.ensures in
    let left = c.args.left in let right = c.args.right in
    let some_share = left.live in let shares : seat.me.0.shares ≡ left.seat.me.0.shares + right.seat.me.0.shares = ap (λ m. m.0.shares) done.2 in (
      done.0 ∙ c.requires.lock.0,
      omega arith,
      compares g.B.Book.entries g.B.Book.is_at_rest c.args.self.now.table.shared.key _ seat.id seat.me (ap (λ m. m.0.stage) done.2 ∙ left.idle) (omega arith),
    )
