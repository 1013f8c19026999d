use Rattle.std.proofs.Common.{arith, sym, ap, ◌∙◌, Some, ◌∷◌}
use Rattle.atomic_table.specs.Table.{rest}
use Rattle.esb_turns.proofs.TicketSteps.{draws, watches}
use Rattle.esb_turns.proofs.lock.TurnLock.enter.Goals as goal

pub fetch_add-ticket-requires : goal.fetch_add-ticket-requires
fetch_add-ticket-requires g c =
    let sized = c.args.self.now.sized in let pass = c.args.pass in (
      c.requires.lock,
      omega arith,
      draws g.B.Book.entries g.B.Book.is_at_rest c.args.self.now.table.shared.key _ pass.seat.id pass.seat.me pass.idle pass.live,
    )

pub load-called-requires : goal.load-called-requires
load-called-requires g c =
    let sized = c.args.self.now.sized in let drawn = c.fetch_add-ticket.ensures.2 in
    let at = c.loop.invariant in (
      at.0 ∙ (c.fetch_add-ticket.ensures.0 ∙ c.requires.lock),
      omega arith,
      watches g.B.Book.entries g.B.Book.is_at_rest c.args.self.now.table.shared.key _ c.loop.seat.id c.loop.seat.me drawn.0 sized.1 (ap (λ m. m.0.stage) (at.1 ∙ drawn.2)),
    )

pub exchange-requires : goal.exchange-requires
exchange-requires g c =
    let drawn = c.fetch_add-ticket.ensures.2 in let at = c.loop.invariant in let read = c.load-called.ensures in
    let called = (read.2 drawn.0 (ap (λ m. m.0.stage) (at.1 ∙ drawn.2))).0 (c.if-called-ticket.true ∙ drawn.1) in (
      read.0 ∙ (at.0 ∙ (c.fetch_add-ticket.ensures.0 ∙ c.requires.lock)),
      (Some called.book, ap (λ m. m.1) called.now ∙ ap (λ l. (0, Some called.book) ∷ rest l) (sym (ap (λ m. m.1) called.now))),
    )
