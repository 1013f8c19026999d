use Rattle.std.proofs.Common.{◌≡◌, arith, ap, sym, ◌∙◌, Some, ◌∷◌, [], ◌++◌, length, subst}
use Rattle.atomic_table.specs.Table.{rest}
use Rattle.esb_turns.specs.declared.view.View.{View}
use Rattle.esb_turns.specs.Views.{Stands}
use Rattle.esb_turns.proofs.PassOnSteps.{passes-with, stands-more}
use Rattle.esb_turns.proofs.SameTurn.{is-serving}
use Rattle.esb_turns.proofs.held.Held.leave_with.Goals as goal

pub fetch_add-requires : goal.fetch_add-requires
fetch_add-requires g c =
    let held = c.args.self in let lock = held.lock.now in let sized = lock.sized in let seat = c.exchange.new.seat in let put = c.exchange.ensures in
    let book = c.add.new.self in (
      put.0 ∙ held.here,
      omega arith,
      passes-with g.B.Book.entries g.B.Book.is_at_rest lock.table.shared.key _ seat.id seat.me book c.args.entry sized.1
          (ap (λ m. m.1) put.3 ∙ ap (λ l. (0, Some book) ∷ rest l) held.out) (ap (λ m. m.0.stage) put.3 ∙ is-serving _ held.turn) c.add.ensures.rest
          (c.add.ensures.list ∙ ap (λ l. l ++ c.args.entry ∷ []) (c.requires.list ∙ ap (λ m. m.0.seen) (sym put.3))),
    )

pub invariant_of-result-clause-stands : goal.invariant_of-result-clause-stands
invariant_of-result-clause-stands g c =
    let held = c.args.self in let put = c.exchange.ensures in let book = c.add.new.self in let entry = c.args.entry in
    let seen : c.exchange.new.seat.me.0.seen ≡ held.seat.me.0.seen = ap (λ m. m.0.seen) put.3 in
    let now = c.fetch_add.ensures.2 book entry (ap (λ m. m.1) put.3 ∙ ap (λ l. (0, Some book) ∷ rest l) held.out)
    (c.add.ensures.list ∙ ap (λ l. l ++ entry ∷ []) (c.requires.list ∙ sym seen)) in
    let P : View g.row.B-Entry.Denot → Type 0 = λ v. Stands v.seen v.own in
    let there = stands-more held.seat.me.0.seen held.seat.me.0.own entry held.stands in
    subst P (sym (ap (λ m. m.0) now)) (subst (λ (v : View g.row.B-Entry.Denot). Stands (v.seen ++ entry ∷ []) (v.own ++ (length v.seen, entry) ∷ [])) (sym (ap (λ m. m.0) put.3)) there)
