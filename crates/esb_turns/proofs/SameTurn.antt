-- What is known of a turn stays the same where its book is another: a fact that two values of a set are equal has one proof.
use Rattle.std.proofs.Common.{◌≡◌, ◌≤◌, [], ◌∷◌, None, refl, arith}
use Rattle.std.proofs.Math.Nat.{ℕ_set}
use Rattle.std.proofs.Math.Bridge.{le_prop}
use Rattle.std.specs.Coded.{coded_option}
use base.Stored.{Coded, Coded-set, coded×, coded_ℕ, coded_list}
use Rattle.atomic_table.specs.Seated.{table_id_coded}
use Rattle.esb_turns.specs.declared.held.Held.{Held}
use Rattle.esb_turns.specs.declared.view.Stage.{Stage}
use Rattle.esb_turns.specs.declared.view.Stage.TheVariants.{Idle, Waiting, Serving}
use Rattle.esb_turns.specs.Views.{serves_at, Stands}
use Rattle.esb_turns.specs.Passes.{with_book}

pub is-serving : (s : Stage) → serves_at s ≡ 1 → s ≡ Serving
is-serving Idle e = absurd (omega arith)
is-serving (Waiting n) e = absurd (omega arith)
is-serving Serving e = refl

module _ {B E : Type 0} (b : Coded B) (e : Coded E) where
  pub same-turn : (h : Held B E) (book : B) (here : h.seat.table_id ≡ h.lock.now.table.shared.table_id) (turn : serves_at h.seat.me.0.stage ≡ 1) (compared : h.seat.me.0.told ≡ [])
      (out : h.seat.me.1 ≡ (0, None) ∷ []) (stands : Stands h.seat.me.0.seen h.seat.me.0.own) (live : 1 ≤ h.seat.me.0.shares)
      → record { lock = h.lock; seat = h.seat; book = book; here = here; turn = turn; compared = compared; out = out; stands = stands; live = live } ≡ with_book h book
  same-turn h book here turn compared out stands live = λ j. record {
    lock = h.lock;
    seat = h.seat;
    book = book;
    here = Coded-set table_id_coded _ _ here h.here j;
    turn = ℕ_set _ _ turn h.turn j;
    compared = Coded-set (coded_list e) _ _ compared h.compared j;
    out = Coded-set (coded_list (coded× coded_ℕ (coded_option b))) _ _ out h.out j;
    stands = λ k d within. Coded-set (coded_option e) _ _ (stands k d within) (h.stands k d within) j;
    live = le_prop live h.live j;
  }
