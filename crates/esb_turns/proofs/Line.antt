-- The line of tickets after a step.
use Rattle.std.proofs.Common.{◌≡◌, ℕ, ◌+◌, ◌<◌, ◌≤◌, arith}
use mathlib.Core.Logic.{dite}
use native.Mathlib.Decide.{ℕ_discrete}
use Rattle.esb_turns.specs.Views.{one}
use Rattle.esb_turns.specs.Rule.{Queued}
use Rattle.esb_turns.proofs.Sums.{one-same, one-other}

pub quiet : (turn next s : ℕ) → (1 ≤ s → turn < next) → next ≤ turn → s ≡ 0
quiet turn next s h n = dite (ℕ_discrete s 0) (λ e. e) (λ e. let a = h (omega arith) in absurd (omega arith))

pub line-draws : (turn next k w w' s : ℕ) → Queued turn next k w s → turn ≤ next → w' ≡ w + one k next → Queued turn (next + 1) k w' s
line-draws turn next k w w' s q h e = dite (ℕ_discrete k next)
    (λ same. let is = one-same k next same in
    let none_yet = q.not_yet (omega arith) in
    record { gone = λ x. omega arith; not_yet = λ x. omega arith; in_line = λ x y. omega arith; in_turn = λ x y. let a = quiet turn next s q.someone (omega arith) in omega arith; someone = λ x. let a = q.someone x in omega arith })
    (λ other. let is = one-other k next other in
    record {
      gone = λ x. let a = q.gone x in omega arith;
      not_yet = λ x. let a = q.not_yet (omega arith) in omega arith;
      in_line = λ x y. let a = q.in_line x (omega arith) in omega arith;
      in_turn = λ x y. let a = q.in_turn x (omega arith) in omega arith;
      someone = λ x. let a = q.someone x in omega arith;
    })

pub line-calls : (turn next k w w' s s' : ℕ) → Queued turn next k w s → turn < next → w' + one k turn ≡ w → s' ≡ s + 1 → Queued turn next k w' s'
line-calls turn next k w w' s s' q h e f = dite (ℕ_discrete k turn)
    (λ same. let is = one-same k turn same in
    record {
      gone = λ x. omega arith;
      not_yet = λ x. omega arith;
      in_line = λ x y. omega arith;
      in_turn = λ x y. let a = q.in_turn x y in omega arith;
      someone = λ x. h;
    })
    (λ other. let is = one-other k turn other in
    record {
      gone = λ x. let a = q.gone x in omega arith;
      not_yet = λ x. let a = q.not_yet x in omega arith;
      in_line = λ x y. let a = q.in_line x y in omega arith;
      in_turn = λ x y. absurd (other x);
      someone = λ x. h;
    })

pub line-passes : (turn next k w s : ℕ) → Queued turn next k w s → s ≡ 1 → Queued (turn + 1) next k w 0
line-passes turn next k w s q e = let more = q.someone (omega arith) in record {
  gone = λ x. dite (ℕ_discrete k turn) (λ same. let a = q.in_turn same (omega arith) in omega arith) (λ other. q.gone (omega arith));
  not_yet = q.not_yet;
  in_line = λ x y. q.in_line (omega arith) y;
  in_turn = λ x y. let a = q.in_line (omega arith) y in omega arith;
  someone = λ x. absurd (omega arith);
}
