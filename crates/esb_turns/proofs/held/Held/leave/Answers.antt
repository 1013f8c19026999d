use Rattle.std.proofs.Common.{arith, ap, sym, ◌∙◌, Some, ◌∷◌}
use Rattle.atomic_table.specs.Table.{rest}
use Rattle.esb_turns.proofs.PassOnSteps.{passes}
use Rattle.esb_turns.proofs.SameTurn.{is-serving}
use Rattle.esb_turns.proofs.held.Held.leave.Goals as goal

pub fetch_add-requires : goal.fetch_add-requires
fetch_add-requires g c =
    let held = c.args.self in let lock = held.lock.now in let sized = lock.sized in let seat = c.exchange.new.seat in let put = c.exchange.ensures in
    let list = c.requires.list in (
      put.0 ∙ held.here,
      omega arith,
      passes g.B.Book.entries g.B.Book.is_at_rest lock.table.shared.key _ seat.id seat.me held.book sized.1
          (ap (λ m. m.1) put.3 ∙ ap (λ l. (0, Some held.book) ∷ rest l) held.out) (ap (λ m. m.0.stage) put.3 ∙ is-serving _ held.turn) c.requires.rest (list ∙ ap (λ m. m.0.seen) (sym put.3)),
    )
