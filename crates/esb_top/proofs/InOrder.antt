-- Which events come in their turn.
use Rattle.std.proofs.Common.{◌≡◌, ◌⊎◌, ℕ, ◌<◌, true, false, List, [], ◌∷◌, ◌++◌, length, slice_get, Option, Some, None, inl, inr, refl, sym, ap, subst, ◌∙◌, arith}
use Rattle.std.proofs.lemmas.Bool.{false≢true}
use Rattle.esb_base.specs.World.{Folder}
use Rattle.esb_flags.specs.declared.options.Options.{Options}
use Rattle.esb_wire.specs.declared.value.Packet.{Packet}
use Rattle.esb_ask.specs.declared.question.Question.{Question}
use Rattle.esb_ask.specs.declared.answer.Answer.{Answer}
use Rattle.esb_ask.specs.declared.answer.Answer.TheVariants as answers
use Rattle.esb_ask.specs.declared.task.Task.{Task}
use Rattle.esb_ask.specs.declared.product.Product.{Product}
use Rattle.esb_ask.specs.declared.outcome.Outcome.{Outcome}
use Rattle.esb_ask.specs.declared.outcome.Outcome.TheVariants as outcomes
use Rattle.esb_core.specs.declared.out.Out.{Out}
use Rattle.esb_core.specs.declared.event.Job.{Job}
use Rattle.esb_core.specs.declared.event.Job.TheVariants as job
use Rattle.esb_core.specs.declared.event.Role.TheVariants as role
use Rattle.esb_core.specs.declared.event.Event.{Event}
use Rattle.esb_core.specs.declared.event.Event.TheVariants as event
use Rattle.esb_core.specs.Allowed.{allowed, first_job}
use Rattle.esb_core.specs.History.{build, is_legal, outcome, owed, replay, table}
use Rattle.esb_core.specs.State.{build_at}
use Rattle.esb_core.proofs.Laws.{reads-legal}
use Rattle.esb_core.proofs.Replays.{stands-push}
use Rattle.esb_core.proofs.Work.{open-is}
use Rattle.esb_core.specs.Work.{open_job}
use Rattle.esb_scan.specs.declared.run.Run.{Run}
use Rattle.esb_scan.specs.declared.run.Run.TheVariants as runs
use Rattle.esb_scan.specs.Likeness.{normal_outcome, normal_product}
use Rattle.esb_scan.specs.Run.{run}
use Rattle.esb_link.specs.SerialLink.{serial_link}
use Rattle.esb_sound.specs.Sent.{arrivals}
use Rattle.esb_sound.specs.Serial.{InTurn, IsInTurn, build_of, claim_or, doing, doing_after, in_hand, input_step, is_refusal, has_failed, linked, next, pop_or, scan_step, step_by, unless_over}
use Rattle.esb_sound.specs.Sound.{IsLinked}
use Rattle.esb_ask.specs.declared.outcome.Failures.{Failures}
use Rattle.esb_ask.specs.declared.outcome.Failures.TheVariants as failures
use Rattle.esb_sound.proofs.Doing.{ends, given-back, goes-on, stays-free}
use Rattle.esb_sound.specs.Told.{is_fault, told}
use Rattle.esb_top.specs.Turn.{IsAtRest, IsFree, TurnsOne}
use Rattle.esb_top.proofs.Histories.{each-push}

-- a job that is given back is done
pub done-by : (es new : List Event) (e : Event) → new ≡ es ++ e ∷ [] → doing_after (in_hand es) e ≡ None → IsFree new
done-by es new e is given = ap doing is ∙ given-back es e given

-- where no job is in hand, an event that takes none up leaves it so
pub free-by : (es new : List Event) (e : Event) → new ≡ es ++ e ∷ [] → doing_after (in_hand es) e ≡ in_hand es → IsFree es → IsFree new
free-by es new e is same free = ap doing is ∙ stays-free es e same free

-- one more event of a legal list, and how the build of a job then stands
module _ (es new : List Event) (e : Event) (is : new ≡ es ++ e ∷ []) (legal : is_legal es ≡ true) (may : allowed (replay es) e ≡ true) (j : Job) where
  outcome-is : outcome (es ++ e ∷ []) (build_of j) ≡ (build_at (replay new).builds (build_of j)).outcome
  outcome-is =
      sym ((reads-legal (es ++ e ∷ []) (stands-push (replay es) es e (record { legal = legal; replayed = refl }) may).legal).outcomes (build_of j))
      ∙ ap (λ (ds : List Event). (build_at (replay ds).builds (build_of j)).outcome) (sym is)

  -- the job goes on while its build isn't settled
  pub going-by : doing_after (in_hand es) e ≡ Some j → (build_at (replay new).builds (build_of j)).outcome ≡ None → doing new ≡ Some j
  going-by hand none = ap doing is ∙ goes-on es e j hand (outcome-is ∙ none)

  -- it is over once its build is settled
  pub over-by : (o : Outcome) → unless_over (Some o) j ≡ None → doing_after (in_hand es) e ≡ Some j → (build_at (replay new).builds (build_of j)).outcome ≡ Some o → IsFree new
  over-by o over hand some = ap doing is ∙ ends es e j o over hand (outcome-is ∙ some)

module _ (tells : Type 0) (world : List Folder) (es : List Event) where
  next-with : (packets : List Packet) (j : Option Job) → doing es ≡ j → next world packets es ≡ step_by world packets es j
  next-with packets j is = ap (λ (o : Option Job). step_by world packets es o) is

  pop-is : (os : List Out) (otherwise : Event) → 0 < length os → pop_or os otherwise ≡ event.Pop
  pop-is [] otherwise some = absurd (omega (arith, some))
  pop-is (o ∷ os) otherwise some = refl

  pub pop-in_turn : is_legal es ≡ true → IsFree es → 0 < length (replay es).owed → IsInTurn tells world es event.Pop
  pop-in_turn legal free some = record {
    goes_on = refl;
    handles = tt;
    follows = λ told_it lapse packets arrives.
        next-with packets None free ∙ ap (λ (e : Event). Some e) (pop-is (owed es) _ (subst (λ (os : List Out). 0 < length os) (reads-legal es legal).owed some));
  }

  -- where nothing is owed
  next-unowed : (packets : List Packet) → is_legal es ≡ true → IsFree es → (replay es).owed ≡ []
      → next world packets es ≡ Some (claim_or (first_job (replay es) (role.Worker 0)) (input_step (slice_get packets (length (arrivals es)))))
  next-unowed packets legal free none =
      next-with packets None free
      ∙ ap (λ (os : List Out). Some (pop_or os (claim_or (open_job es (role.Worker 0)) (input_step (slice_get packets (length (arrivals es))))))) (sym (reads-legal es legal).owed ∙ none)
      ∙ ap (λ (o : Option Job). Some (claim_or o (input_step (slice_get packets (length (arrivals es)))))) (sym (open-is es legal (role.Worker 0)))

  pub claim-in_turn : (j : Job) → is_legal es ≡ true → IsFree es → (replay es).owed ≡ [] → first_job (replay es) (role.Worker 0) ≡ Some j → IsInTurn tells world es (event.Claim (role.Worker 0) j)
  claim-in_turn j legal free none first = record {
    goes_on = refl;
    handles = (refl, free);
    follows = λ told_it lapse packets arrives.
        next-unowed packets legal free none ∙ ap (λ (o : Option Job). Some (claim_or o (input_step (slice_get packets (length (arrivals es)))))) first;
  }

  -- where nothing is to be done but to read
  pub next-read : (packets : List Packet) → is_legal es ≡ true → IsAtRest es → next world packets es ≡ Some (input_step (slice_get packets (length (arrivals es))))
  next-read packets legal rest =
      next-unowed packets legal rest.free rest.none_owed ∙ ap (λ (o : Option Job). Some (claim_or o (input_step (slice_get packets (length (arrivals es)))))) rest.no_job

  pub arrive-in_turn : (packet : Packet) → is_legal es ≡ true → IsAtRest es → IsInTurn tells world es (event.Arrive packet)
  arrive-in_turn packet legal rest = record {
    goes_on = refl;
    handles = tt;
    follows = λ told_it lapse packets arrives. next-read packets legal rest ∙ ap (λ (p : Option Packet). Some (input_step p)) arrives;
  }

  answer-is : (n : ℕ) (q : Question) (a : Answer) → is_fault a ≡ false → (a ≡ told world n q) ⊎ (a ≡ answers.Fault) → told world n q ≡ a
  answer-is n q a sane (inl is) = sym is
  answer-is n q a sane (inr is) = absurd (false≢true (sym sane ∙ ap is_fault is))

  pub record-in_turn : (n : ℕ) (t : Task) (q : Question) (a : Answer) → doing es ≡ Some (job.Scan n t) → run (build es n).options (table es n) t ≡ runs.Asks q
      → (tells → (a ≡ told world n q) ⊎ (a ≡ answers.Fault)) → IsInTurn tells world es (event.Record 0 n q a)
  record-in_turn n t q a is asks from = record {
    goes_on = refl;
    handles = tt;
    follows = λ told_it lapse packets arrives.
        next-with packets (Some (job.Scan n t)) is ∙ ap (λ (r : Run). scan_step world n t r) asks ∙ ap (λ (b : Answer). Some (event.Record 0 n q b)) (answer-is n q a lapse (from told_it));
  }

  pub deliver-in_turn : (n : ℕ) (t : Task) (p : Product) → doing es ≡ Some (job.Scan n t) → run (build es n).options (table es n) t ≡ runs.Done (normal_product p) → IsInTurn tells world es (event.Deliver 0 n t p)
  deliver-in_turn n t p is done = record {
    goes_on = refl;
    handles = (refl, is);
    follows = λ told_it lapse packets arrives. next-with packets (Some (job.Scan n t)) is ∙ ap (λ (r : Run). scan_step world n t r) done;
  }

  linked-is : (options : Options) (answers : List (Question × Answer)) (o : Outcome) → is_refusal o ≡ false → IsLinked options answers o → linked (serial_link options answers) ≡ normal_outcome o
  linked-is options answers (outcomes.Files files) sane right = ap linked right.1
  linked-is options answers (outcomes.Errors messages) sane right = ap linked right.1
  linked-is options answers outcomes.Canceled sane right = absurd right
  linked-is options answers outcomes.Memory sane right = absurd (false≢true (sym sane))

  pub settle-in_turn : (n : ℕ) (o : Outcome) → doing es ≡ Some (job.Link n) → IsLinked (build es n).options (table es n) o → IsInTurn tells world es (event.Settle 0 n o)
  settle-in_turn n o is right = record {
    goes_on = refl;
    handles = (refl, inl is);
    follows = λ told_it lapse packets arrives. next-with packets (Some (job.Link n)) is ∙ ap (λ (p : Outcome). Some (event.Settle 0 n p)) (linked-is (build es n).options (table es n) o lapse right);
  }

  -- a settling for want of memory may come at any moment
  pub refusal-in_turn : (n : ℕ) → (doing es ≡ Some (job.Link n)) ⊎ ((t : Task) × (doing es ≡ Some (job.Scan n t))) → IsInTurn tells world es (event.Settle 0 n outcomes.Memory)
  refusal-in_turn n hand = record { goes_on = refl; handles = (refl, hand); follows = λ told lapse packets arrives. absurd (false≢true (sym lapse)) }

  nothing-failed : (f : Failures) → has_failed f ≡ false → f ≡ failures.Paths []
  nothing-failed failures.All none = absurd (false≢true (sym none))
  nothing-failed (failures.Paths []) none = refl
  nothing-failed (failures.Paths (failure ∷ more)) none = absurd (false≢true (sym none))

  pub written-in_turn : (n : ℕ) (f : Failures) → doing es ≡ Some (job.Write n) → IsInTurn tells world es (event.Written 0 n f)
  written-in_turn n f is = record {
    goes_on = refl;
    handles = (refl, is);
    follows = λ told_it lapse packets arrives. next-with packets (Some (job.Write n)) is ∙ ap (λ (g : Failures). Some (event.Written 0 n g)) (sym (nothing-failed f lapse));
  }

-- ---- a pop

some-owed : (os : List Out) (out : Out) → slice_get os 0 ≡ Some out → 0 < length os
some-owed [] out is = absurd cc
some-owed (o ∷ os) out is = omega arith

pub unowed : (os : List Out) → slice_get os 0 ≡ None → os ≡ []
unowed [] is = refl
unowed (o ∷ os) is = absurd cc

pub popped-in_turn : (world : List Folder) (es new : List Event) (out : Out) → is_legal es ≡ true → IsFree es → slice_get (replay es).owed 0 ≡ Some out → new ≡ es ++ event.Pop ∷ [] → TurnsOne world es new
popped-in_turn world es new out legal free first is = inr (event.Pop, is, pop-in_turn (Unit {0}) world es legal free (some-owed (replay es).owed out first))

-- what comes in its turn whether or not the world is told
pub turns-one : (tells : Type 0) (world : List Folder) (es new : List Event) → TurnsOne world es new → InTurn tells world es → InTurn tells world new
turns-one tells world es new (inl same) h = subst (λ (ds : List Event). InTurn tells world ds) (sym same) h
turns-one tells world es new (inr (e, is, turn)) h =
    subst (λ (ds : List Event). InTurn tells world ds) (sym is)
    (each-push (IsInTurn tells world) es e h (record { goes_on = turn.goes_on; handles = turn.handles; follows = λ t. turn.follows tt }))

pub popped-free : (es new : List Event) → IsFree es → new ≡ es ++ event.Pop ∷ [] → IsFree new
popped-free es new free is = free-by es new event.Pop is refl free
