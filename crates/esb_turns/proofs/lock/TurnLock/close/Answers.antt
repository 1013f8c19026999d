use Rattle.std.proofs.Common.{◌≡◌, Some, None, sym, ◌∙◌, subst}
use mathlib.Core.Option.{some-injective}
use mathlib.Core.List.{IsPrefix}
use Rattle.esb_turns.specs.Views.{IsWhole}
use Rattle.esb_turns.proofs.ShareSteps.{closes}
use Rattle.esb_turns.proofs.lock.TurnLock.close.Goals as goal

pub unreachable-requires : goal.unreachable-requires
unreachable-requires g c =
    let end = closes g.B.Book.entries g.B.Book.is_at_rest c.args.self.table.shared.key _ c.args.last.seat.me.0 _ _ c.args.last.idle c.requires.all c.close_with-closed.ensures.values.2 in
    let is : c.take-slot.result ≡ Some end.book = some-injective _ _ (sym c.take-slot.ensures.value ∙ end.slot) in
    let not : Some end.book ≡ None = sym is ∙ c.in-None.is in cc

pub returns-clause-rest : goal.returns-clause-rest
returns-clause-rest g c =
    let end = closes g.B.Book.entries g.B.Book.is_at_rest c.args.self.table.shared.key _ c.args.last.seat.me.0 _ _ c.args.last.idle c.requires.all c.close_with-closed.ensures.values.2 in
    let is : c.take-slot.result ≡ Some end.book = some-injective _ _ (sym c.take-slot.ensures.value ∙ end.slot) in
    let slot : Some end.book ≡ Some c.in-Some.book = sym is ∙ c.in-Some.is in
    let same : end.book ≡ c.in-Some.book = cc in subst g.B.Book.is_at_rest same end.rest

pub returns-clause-whole : goal.returns-clause-whole
returns-clause-whole g c =
    let end = closes g.B.Book.entries g.B.Book.is_at_rest c.args.self.table.shared.key _ c.args.last.seat.me.0 _ _ c.args.last.idle c.requires.all c.close_with-closed.ensures.values.2 in
    let is : c.take-slot.result ≡ Some end.book = some-injective _ _ (sym c.take-slot.ensures.value ∙ end.slot) in
    let slot : Some end.book ≡ Some c.in-Some.book = sym is ∙ c.in-Some.is in
    let same : end.book ≡ c.in-Some.book = cc in
    let P : g.row.B.Denot → Type 0 = λ b. IsWhole (g.B.Book.entries b) c.args.last.seat.me.0.own in subst P same end.whole

pub returns-clause-seen : goal.returns-clause-seen
returns-clause-seen g c =
    let end = closes g.B.Book.entries g.B.Book.is_at_rest c.args.self.table.shared.key _ c.args.last.seat.me.0 _ _ c.args.last.idle c.requires.all c.close_with-closed.ensures.values.2 in
    let is : c.take-slot.result ≡ Some end.book = some-injective _ _ (sym c.take-slot.ensures.value ∙ end.slot) in
    let slot : Some end.book ≡ Some c.in-Some.book = sym is ∙ c.in-Some.is in
    let same : end.book ≡ c.in-Some.book = cc in
    let P : g.row.B.Denot → Type 0 = λ b. IsPrefix c.args.last.seat.me.0.seen (g.B.Book.entries b) in subst P same end.seen
