-- What a clause says of a pass, a turn and a lock.
use Rattle.std.specs.Prelude.{◌≡◌, ℕ, List}
use Rattle.atomic_table.specs.Seated.{TableId}
use Rattle.esb_turns.specs.declared.book.Book.{Ghosts}
use Rattle.esb_turns.specs.declared.pass.Pass.{Pass}
use Rattle.esb_turns.specs.declared.held.Held.{Held}
use Rattle.esb_turns.specs.declared.lock.TurnLock.{TurnLock}

module _ {B E : Type 0} {ghosts : Ghosts B E} where
  -- what the pass has seen of the list
  abbrev pub seen_by : Pass B E ghosts → List E
  seen_by p = p.seat.me.0.seen

  -- its own entries, each with its place in the list
  abbrev pub own_of : Pass B E ghosts → List (ℕ × E)
  own_of p = p.seat.me.0.own

  abbrev pub shares_of : Pass B E ghosts → ℕ
  shares_of p = p.seat.me.0.shares

  -- which lock it is for
  abbrev pub lock_of : Pass B E ghosts → TableId
  lock_of p = p.seat.table_id

module _ {B E : Type 0} where
  -- what the caller has seen, which is the whole list as its turn began
  abbrev pub seen_in : Held B E → List E
  seen_in h = h.seat.me.0.seen

  abbrev pub own_in : Held B E → List (ℕ × E)
  own_in h = h.seat.me.0.own

  abbrev pub shares_within : Held B E → ℕ
  shares_within h = h.seat.me.0.shares

  abbrev pub lock_in : Held B E → TableId
  lock_in h = h.seat.table_id

  abbrev pub book_in : Held B E → B
  book_in h = h.book

  -- the same turn, with this book
  abbrev pub with_book : Held B E → B → Held B E
  with_book h book = record h { book = book }

  -- how many shares the passes of the lock have together
  abbrev pub callers_of : TurnLock B E → ℕ
  callers_of t = t.table.shared.key

  -- what tells the lock from others
  abbrev pub name_of : TurnLock B E → TableId
  name_of t = t.table.shared.table_id

module _ {B E : Type 0} {ghosts : Ghosts B E} where
  abbrev pub IsPassOf : TurnLock B E → Pass B E ghosts → Type 0
  IsPassOf t p = lock_of p ≡ name_of t
