-- Builds that are settled.
use Rattle.std.proofs.Common.{◌≡◌, ℕ, ◌<◌, List, length, Option, None, Some, IsSome, sym, refl, subst, slice_set, arith, length-set}
use Rattle.std.proofs.lemmas.Bool.{false≢true}
use Rattle.std.proofs.lemmas.List.{get_or-set_same}
use Rattle.esb_ask.specs.declared.outcome.Outcome.{Outcome}
use Rattle.esb_core.specs.declared.event.Event.TheVariants as event
use Rattle.esb_core.specs.State.{Building, State, build_at, no_build}
use Rattle.esb_core.specs.Moves.{Move}
use Rattle.esb_core.specs.Steps.{moved, all_moved, moves, standing, ended_by, closed_by}
use Rattle.esb_core.proofs.Each.{each-moved}
use Rattle.esb_core.proofs.Pushed.{by_settled}

pub settled_is_not : {X : Type 0} (o : Outcome) → Some o ≡ None → X
settled_is_not o e = absurd (let f : ⊥ = cc in f)

pub some_is_not : {X : Type 0} (o : Option Outcome) → IsSome o → o ≡ None → X
some_is_not None h e = absurd (false≢true h)
some_is_not (Some o) h e = settled_is_not o e

-- a move leaves each settled build settled
pub stays-settled : (s : State) (m : Move) (n : ℕ) → IsSome (build_at s.builds n).outcome → IsSome (build_at (moved s m).builds n).outcome
stays-settled s m =
    each-moved (λ k b. IsSome (build_at s.builds k).outcome → IsSome b.outcome) (λ k key options h. h) (λ k b id result h. h) (λ k b q a h. h) (λ k b t h. h)
    (λ k b o h is. refl) (λ k b f h. h) (λ k b h. h) s m (λ k is. is)

-- the build that is settled by an event is settled before its work is taken note of
pub settle-settles : (s : State) (worker n : ℕ) (o : Outcome) → n < length s.builds → IsSome (build_at (all_moved s (moves s (event.Settle worker n o))).builds n).outcome
settle-settles s worker n o lt = by_settled (λ ms. IsSome (build_at (all_moved s ms).builds n).outcome) (standing s n) n o (build_at s.builds n).outcome there shut shut (λ is. is)
  where
    bs : List Building
    bs = slice_set s.builds n (ended_by (build_at s.builds n) o)

    there : IsSome (build_at bs n).outcome
    there = subst (λ (c : Building). IsSome c.outcome) (sym (get_or-set_same s.builds n (ended_by (build_at s.builds n) o) no_build lt)) refl

    shut : IsSome (build_at (slice_set bs n (closed_by (build_at bs n))) n).outcome
    shut =
        let long = length-set s.builds n (ended_by (build_at s.builds n) o) in
        subst (λ (c : Building). IsSome c.outcome) (sym (get_or-set_same bs n (closed_by (build_at bs n)) no_build (omega (arith, lt, long)))) there
