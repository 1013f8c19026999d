-- A history means the same without the places of the syntax errors in it.
use Rattle.std.proofs.Common.{◌≡◌, ℕ, zero, suc, ◌+◌, Bool, true, false, cond, ◌||◌, ◌&&◌, List, [], ◌∷◌, ◌++◌, length, map, drop, filter, slice_get, slice_index_or, Option, Some, None, refl, sym, ap, ◌∙◌}
use Rattle.std.specs.Prelude.{count_by, fold, is_some, nat_eq, not, Ok, Err}
use Rattle.std.specs.List.{flat_map, list_all, list_any}
use Rattle.std.specs.Map.{lookup}
use Rattle.std.specs.Option.{option_map}
use Rattle.esb_base.specs.World.{Folder}
use Rattle.esb_wire.specs.declared.value.Packet.{Packet}
use Rattle.esb_flags.specs.declared.options.Options.{Options}
use Rattle.esb_flags.specs.declared.command.Command.{Command}
use Rattle.esb_flags.specs.declared.command.Command.TheVariants as commands
use Rattle.esb_flags.specs.Fields.{Answer as Asked}
use Rattle.esb_flags.specs.Command.{asked}
use Rattle.esb_ask.specs.declared.question.Question.{Question}
use Rattle.esb_ask.specs.declared.answer.Answer.{Answer}
use Rattle.esb_ask.specs.declared.task.Task.{Task}
use Rattle.esb_ask.specs.declared.product.Product.{Product}
use Rattle.esb_ask.specs.declared.product.Product.TheVariants as products
use Rattle.esb_ask.specs.declared.outcome.Failures.{Failures}
use Rattle.esb_ask.specs.declared.outcome.Outcome.{Outcome}
use Rattle.esb_ask.specs.declared.outcome.Outcome.TheVariants as outcomes
use Rattle.esb_ask.specs.Table.{kept}
use Rattle.esb_core.specs.declared.out.Out.{Out}
use Rattle.esb_core.specs.declared.event.Job.{Job}
use Rattle.esb_core.specs.declared.event.Job.TheVariants as jobs
use Rattle.esb_core.specs.declared.event.Role.{Role}
use Rattle.esb_core.specs.declared.event.Role.TheVariants as roles
use Rattle.esb_core.specs.declared.event.Event.{Event}
use Rattle.esb_core.specs.declared.event.Event.TheVariants as events
use Rattle.esb_core.specs.Allowed.{or_next, write_if}
use Rattle.esb_core.specs.Laws.{is_to_write}
use Rattle.esb_core.specs.Moves
use Rattle.esb_core.specs.Moves.{Move, make, remove, begin, retire, join, owe, keep, assign, settle, write, close, take, Met, Standing, moves_of, key_of, refusal}
use Rattle.esb_core.specs.Sizes.{has_too_many, is_overfull, named, opened, too_large, with_task}
use Rattle.esb_core.specs.Steps.{entry_tasks, results}
use Rattle.esb_core.specs.History.{Begun, build, builds, outcome, owed, table, tasks, moves_in, moves_from, moves_after, met_in, standing_in, gathered_from, contexts_in, context_at, retired_in, retired_at, active_in, active_at, builds_in, begun_at, waiting_in, waits_with, outcome_in, settled_by, or_later, answers_in, answers_with, table_in, kept_pair, opens_in, opens_with, tasks_in, owes, owed_in, is_take, is_settled_in, crowd, no_begun, arrived}
use Rattle.esb_core.specs.Work.{claims_task, claims_link, claims_write, does_task, is_open, is_done, link_is_open, scan_or_link, open_task, open_write, open_job_by, open_job_of, earliest_from, open_job}
use Rattle.esb_scan.specs.Likeness.{normal_outcome, normal_product}
use Rattle.esb_scan.specs.Run.{run}
use Rattle.esb_link.specs.SerialLink.{serial_link}
use Rattle.esb_sound.specs.Files.{Fate, untouched, fate, fate_over, writing_of, writings, written_over}
use Rattle.esb_sound.specs.Likeness.{normal_event}
use Rattle.esb_sound.specs.Sent.{arrivals}
use Rattle.esb_sound.specs.Serial.{build_of, claim_or, doing, doing_after, free_step, going_on, in_hand, input_step, linked, next, pop_or, scan_step, step_by, unless_over, work_step}

-- ---- lists

pub map-append : {X Y : Type 0} (f : X → Y) (xs ys : List X) → map f (xs ++ ys) ≡ map f xs ++ map f ys
map-append f [] ys = refl
map-append f (x ∷ xs) ys = ap (λ zs. f x ∷ zs) (map-append f xs ys)

module _ {X : Type 0} (f : X → X) where
  fold-same : {A : Type 0} (g : A → X → A) → ((a : A) (x : X) → g a (f x) ≡ g a x) → (a : A) (xs : List X) → fold g a (map f xs) ≡ fold g a xs
  fold-same g h a [] = refl
  fold-same g h a (x ∷ xs) = ap (λ b. fold g b (map f xs)) (h a x) ∙ fold-same g h (g a x) xs

  any-same : (test : X → Bool) → ((x : X) → test (f x) ≡ test x) → (xs : List X) → list_any test (map f xs) ≡ list_any test xs
  any-same test h [] = refl
  any-same test h (x ∷ xs) = λ i. h x i || any-same test h xs i

  gathered-same : {Y : Type 0} (g : List X → X → List Y) → ((before : List X) (x : X) → g (map f before) (f x) ≡ g before x) → (before xs : List X) → gathered_from g (map f before) (map f xs) ≡ gathered_from g before xs
  gathered-same g h before [] = refl
  gathered-same g h before (x ∷ xs) =
      let rest = ap (λ (ys : List X). gathered_from g ys (map f xs)) (sym (map-append f before (x ∷ []))) ∙ gathered-same g h (before ++ x ∷ []) xs in
      λ i. h before x i ++ rest i

-- ---- moves

abbrev normal_move : Move → Move
normal_move (make key options) = make key options
normal_move (remove key) = remove key
normal_move (begin n key options) = begin n key options
normal_move (retire key) = retire key
normal_move (join n id result) = join n id result
normal_move (owe o) = owe o
normal_move (keep n q a) = keep n q a
normal_move (assign n t) = assign n t
normal_move (settle n o) = settle n (normal_outcome o)
normal_move (write n f) = write n f
normal_move (close key n) = close key n
normal_move take = take

abbrev normal : List Move → List Move
normal ms = map normal_move ms

context-same : (a : List (ℕ × Options)) (m : Move) → context_at a (normal_move m) ≡ context_at a m
context-same so_far (make key options) = refl
context-same so_far (remove key) = refl
context-same so_far (begin m key options) = refl
context-same so_far (retire key) = refl
context-same so_far (join m id result) = refl
context-same so_far (owe o) = refl
context-same so_far (keep m q a) = refl
context-same so_far (assign m t) = refl
context-same so_far (settle m o) = refl
context-same so_far (write m f) = refl
context-same so_far (close key m) = refl
context-same so_far take = refl

retired-same : (a : List ℕ) (m : Move) → retired_at a (normal_move m) ≡ retired_at a m
retired-same so_far (make key options) = refl
retired-same so_far (remove key) = refl
retired-same so_far (begin m key options) = refl
retired-same so_far (retire key) = refl
retired-same so_far (join m id result) = refl
retired-same so_far (owe o) = refl
retired-same so_far (keep m q a) = refl
retired-same so_far (assign m t) = refl
retired-same so_far (settle m o) = refl
retired-same so_far (write m f) = refl
retired-same so_far (close key m) = refl
retired-same so_far take = refl

active-same : (a : List (ℕ × ℕ)) (m : Move) → active_at a (normal_move m) ≡ active_at a m
active-same so_far (make key options) = refl
active-same so_far (remove key) = refl
active-same so_far (begin m key options) = refl
active-same so_far (retire key) = refl
active-same so_far (join m id result) = refl
active-same so_far (owe o) = refl
active-same so_far (keep m q a) = refl
active-same so_far (assign m t) = refl
active-same so_far (settle m o) = refl
active-same so_far (write m f) = refl
active-same so_far (close key m) = refl
active-same so_far take = refl

begun-same : (a : List Begun) (m : Move) → begun_at a (normal_move m) ≡ begun_at a m
begun-same so_far (make key options) = refl
begun-same so_far (remove key) = refl
begun-same so_far (begin m key options) = refl
begun-same so_far (retire key) = refl
begun-same so_far (join m id result) = refl
begun-same so_far (owe o) = refl
begun-same so_far (keep m q a) = refl
begun-same so_far (assign m t) = refl
begun-same so_far (settle m o) = refl
begun-same so_far (write m f) = refl
begun-same so_far (close key m) = refl
begun-same so_far take = refl

waits-same : (n : ℕ) (m : Move) (rest : List (ℕ × Bool)) → waits_with n (normal_move m) rest ≡ waits_with n m rest
waits-same n (make key options) rest = refl
waits-same n (remove key) rest = refl
waits-same n (begin m key options) rest = refl
waits-same n (retire key) rest = refl
waits-same n (join m id result) rest = refl
waits-same n (owe o) rest = refl
waits-same n (keep m q a) rest = refl
waits-same n (assign m t) rest = refl
waits-same n (settle m o) rest = refl
waits-same n (write m f) rest = refl
waits-same n (close key m) rest = refl
waits-same n take rest = refl

answers-same : (n : ℕ) (m : Move) (rest : List (Question × Answer)) → answers_with n (normal_move m) rest ≡ answers_with n m rest
answers-same n (make key options) rest = refl
answers-same n (remove key) rest = refl
answers-same n (begin m key options) rest = refl
answers-same n (retire key) rest = refl
answers-same n (join m id result) rest = refl
answers-same n (owe o) rest = refl
answers-same n (keep m q a) rest = refl
answers-same n (assign m t) rest = refl
answers-same n (settle m o) rest = refl
answers-same n (write m f) rest = refl
answers-same n (close key m) rest = refl
answers-same n take rest = refl

opens-same : (n : ℕ) (m : Move) (rest : List Task) → opens_with n (normal_move m) rest ≡ opens_with n m rest
opens-same n (make key options) rest = refl
opens-same n (remove key) rest = refl
opens-same n (begin m key options) rest = refl
opens-same n (retire key) rest = refl
opens-same n (join m id result) rest = refl
opens-same n (owe o) rest = refl
opens-same n (keep m q a) rest = refl
opens-same n (assign m t) rest = refl
opens-same n (settle m o) rest = refl
opens-same n (write m f) rest = refl
opens-same n (close key m) rest = refl
opens-same n take rest = refl

take-same : (m : Move) → is_take (normal_move m) ≡ is_take m
take-same (make key options) = refl
take-same (remove key) = refl
take-same (begin m key options) = refl
take-same (retire key) = refl
take-same (join m id result) = refl
take-same (owe o) = refl
take-same (keep m q a) = refl
take-same (assign m t) = refl
take-same (settle m o) = refl
take-same (write m f) = refl
take-same (close key m) = refl
take-same take = refl

abbrev normal_some : Option Outcome → Option Outcome
normal_some o = option_map normal_outcome o

settled-same : (n m : ℕ) (o : Outcome) (b : Bool) → cond b (Some (normal_outcome o)) None ≡ normal_some (cond b (Some o) None)
settled-same n m o true = refl
settled-same n m o false = refl

settles-normal : (n : ℕ) (m : Move) → settled_by n (normal_move m) ≡ normal_some (settled_by n m)
settles-normal n (make key options) = refl
settles-normal n (remove key) = refl
settles-normal n (begin m key options) = refl
settles-normal n (retire key) = refl
settles-normal n (join m id result) = refl
settles-normal n (owe o) = refl
settles-normal n (keep m q a) = refl
settles-normal n (assign m t) = refl
settles-normal n (settle m o) = settled-same n m o (nat_eq m n)
settles-normal n (write m f) = refl
settles-normal n (close key m) = refl
settles-normal n take = refl

later-normal : (o later : Option Outcome) → or_later (normal_some o) (normal_some later) ≡ normal_some (or_later o later)
later-normal (Some o) later = refl
later-normal None later = refl

-- ---- questions about moves

contexts_are : (ms : List Move) → contexts_in (normal ms) ≡ contexts_in ms
contexts_are ms = fold-same normal_move context_at context-same [] ms

retired_are : (ms : List Move) → retired_in (normal ms) ≡ retired_in ms
retired_are ms = fold-same normal_move retired_at retired-same [] ms

active_are : (ms : List Move) → active_in (normal ms) ≡ active_in ms
active_are ms = fold-same normal_move active_at active-same [] ms

begun_are : (ms : List Move) → builds_in (normal ms) ≡ builds_in ms
begun_are ms = fold-same normal_move begun_at begun-same [] ms

waiting_are : (ms : List Move) (n : ℕ) → waiting_in (normal ms) n ≡ waiting_in ms n
waiting_are [] n = refl
waiting_are (m ∷ ms) n = waits-same n m (waiting_in (normal ms) n) ∙ ap (waits_with n m) (waiting_are ms n)

answers_are : (ms : List Move) (n : ℕ) → answers_in (normal ms) n ≡ answers_in ms n
answers_are [] n = refl
answers_are (m ∷ ms) n = answers-same n m (answers_in (normal ms) n) ∙ ap (answers_with n m) (answers_are ms n)

opens_are : (ms : List Move) (n : ℕ) → opens_in (normal ms) n ≡ opens_in ms n
opens_are [] n = refl
opens_are (m ∷ ms) n = opens-same n m (opens_in (normal ms) n) ∙ ap (opens_with n m) (opens_are ms n)

outcome_is : (ms : List Move) (n : ℕ) → outcome_in (normal ms) n ≡ normal_some (outcome_in ms n)
outcome_is [] n = refl
outcome_is (m ∷ ms) n =
    ap (λ (o : Option Outcome). or_later o (outcome_in (normal ms) n)) (settles-normal n m)
    ∙ ap (or_later (normal_some (settled_by n m))) (outcome_is ms n)
    ∙ later-normal (settled_by n m) (outcome_in ms n)

table_is : (ms : List Move) (n : ℕ) → table_in (normal ms) n ≡ table_in ms n
table_is ms n = ap (fold kept_pair []) (answers_are ms n)

tasks_are : (ms : List Move) (n : ℕ) → tasks_in (normal ms) n ≡ tasks_in ms n
tasks_are ms n = λ i. fold with_task (entry_tasks (length (slice_index_or (begun_are ms i) n no_begun).options.entries)) (opens_are ms n i)

owes-same : (before : List Move) (m : Move) → owes (normal before) (normal_move m) ≡ owes before m
owes-same before (make key options) = refl
owes-same before (remove key) = refl
owes-same before (begin m key options) = refl
owes-same before (retire key) = refl
owes-same before (join m id result) = refl
owes-same before (owe o) = refl
owes-same before (keep m q a) = refl
owes-same before (assign m t) = refl
owes-same before (settle m o) = refl
owes-same before (write m f) = refl
owes-same before (close key m) = ap (results m) (waiting_are before m)
owes-same before take = refl

owed_are : (ms : List Move) → owed_in (normal ms) ≡ owed_in ms
owed_are ms = gathered-same normal_move owes owes-same [] ms

taken_are : (ms : List Move) → count_by is_take (normal ms) ≡ count_by is_take ms
taken_are ms = fold-same normal_move (λ (n : ℕ) (m : Move). n + cond (is_take m) 1 0) (λ n m i. n + cond (take-same m i) 1 0) 0 ms

-- ---- the moves of an event

some-same : (o : Option Outcome) → is_some (normal_some o) ≡ is_some o
some-same None = refl
some-same (Some o) = refl

settled_is : (ms : List Move) (active : Option ℕ) → is_settled_in (normal ms) active ≡ is_settled_in ms active
settled_is ms None = refl
settled_is ms (Some n) = ap is_some (outcome_is ms n) ∙ some-same (outcome_in ms n)

crowd_is : (ms : List Move) (active : Option ℕ) → crowd (normal ms) active ≡ crowd ms active
crowd_is ms None = refl
crowd_is ms (Some n) = ap length (waiting_are ms n)

met_is : (ms : List Move) → met_in (normal ms) ≡ met_in ms
met_is ms = λ i key. record {
  context = lookup (nat_eq key) (contexts_are ms i);
  retired = list_any (nat_eq key) (retired_are ms i);
  active = lookup (nat_eq key) (active_are ms i);
  settled = settled_at key i;
  waiting = crowd_at key i;
  contexts = length (contexts_are ms i);
  begun = length (begun_are ms i);
}
  where
    settled_at : (key : ℕ) → is_settled_in (normal ms) (lookup (nat_eq key) (active_in (normal ms))) ≡ is_settled_in ms (lookup (nat_eq key) (active_in ms))
    settled_at key = ap (λ (bs : List (ℕ × ℕ)). is_settled_in (normal ms) (lookup (nat_eq key) bs)) (active_are ms) ∙ settled_is ms (lookup (nat_eq key) (active_in ms))

    crowd_at : (key : ℕ) → crowd (normal ms) (lookup (nat_eq key) (active_in (normal ms))) ≡ crowd ms (lookup (nat_eq key) (active_in ms))
    crowd_at key = ap (λ (bs : List (ℕ × ℕ)). crowd (normal ms) (lookup (nat_eq key) bs)) (active_are ms) ∙ crowd_is ms (lookup (nat_eq key) (active_in ms))

-- what stands of a build, without the place of a syntax error in its outcome
abbrev normal_standing : Standing → Standing
normal_standing at = record { key = at.key; stays = at.stays; writes = at.writes; table = at.table; tasks = at.tasks; outcome = normal_some at.outcome }

standing_is : (ms : List Move) → standing_in (normal ms) ≡ (λ n. normal_standing (standing_in ms n))
standing_is ms = λ i n. record {
  key = (slice_index_or (begun_are ms i) n no_begun).key;
  stays = (slice_index_or (begun_are ms i) n no_begun).options.context && not (list_any (nat_eq (slice_index_or (begun_are ms i) n no_begun).key) (retired_are ms i));
  writes = (slice_index_or (begun_are ms i) n no_begun).options.write;
  table = table_is ms n i;
  tasks = tasks_are ms n i;
  outcome = outcome_is ms n i;
}

closed-normal : (key : ℕ) (stays : Bool) (n : ℕ) → normal (Moves.closed key stays n) ≡ Moves.closed key stays n
closed-normal key true n = refl
closed-normal key false n = refl

ended-normal : (key : ℕ) (stays : Bool) (n : ℕ) (o : Outcome) → normal (Moves.ended key stays n o) ≡ Moves.ended key stays n (normal_outcome o)
ended-normal key true n o = refl
ended-normal key false n o = refl

-- a request's moves have no such error

canceled-or-normal : (settled : Bool) (id key : ℕ) (stays : Bool) (n : ℕ) (more : List Move) → normal more ≡ more → normal (Moves.canceled_or settled id key stays n more) ≡ Moves.canceled_or settled id key stays n more
canceled-or-normal true id key stays n more h = refl
canceled-or-normal false id key true n more h = ap (λ (ms : List Move). settle n outcomes.Canceled ∷ close key n ∷ ms) h
canceled-or-normal false id key false n more h = ap (λ (ms : List Move). settle n outcomes.Canceled ∷ close key n ∷ remove key ∷ ms) h

canceled-normal : (met : Met) (id key : ℕ) (stays : Bool) (active : Option ℕ) (more : List Move) → normal more ≡ more → normal (Moves.canceled met id key stays active more) ≡ Moves.canceled met id key stays active more
canceled-normal met id key stays None more h = h
canceled-normal met id key stays (Some n) more h = canceled-or-normal met.settled id key stays n more h

begun-or-normal : (met : Met) (id key : ℕ) (active : Option ℕ) → normal (Moves.joined_or_begun met id key active) ≡ Moves.joined_or_begun met id key active
begun-or-normal met id key None = refl
begun-or-normal met id key (Some n) = refl

disposed-normal : (met : Met) (id key : ℕ) → normal (Moves.disposed met id key) ≡ Moves.disposed met id key
disposed-normal met id key = by met.settled
  where
    by : (settled : Bool) → normal (cond settled (retire key ∷ Moves.canceled met id key true met.active []) (Moves.canceled met id key true met.active (remove key ∷ Moves.done id)))
        ≡ cond settled (retire key ∷ Moves.canceled met id key true met.active []) (Moves.canceled met id key true met.active (remove key ∷ Moves.done id))
    by true = ap (λ (ms : List Move). retire key ∷ ms) (canceled-normal met id key true met.active [] refl)
    by false = canceled-normal met id key true met.active (remove key ∷ Moves.done id) refl

effect-normal : (met : Met) (id : ℕ) (c : Command) → normal (Moves.effect met id c) ≡ Moves.effect met id c
effect-normal met id (commands.Build key options) = by options.context
  where
    by : (stays : Bool) → normal (make key options ∷ cond stays (Moves.done id) (Moves.begun met id key options)) ≡ make key options ∷ cond stays (Moves.done id) (Moves.begun met id key options)
    by true = refl
    by false = refl
effect-normal met id (commands.Rebuild key) = begun-or-normal met id key met.active
effect-normal met id (commands.Cancel key) = canceled-normal met id key (Moves.options_of met.context).context met.active (Moves.done id) refl
effect-normal met id (commands.Dispose key) = disposed-normal met id key
effect-normal met id (commands.Watch key) = refl
effect-normal met id (commands.Serve key port) = refl
effect-normal met id commands.Ping = refl

refused-or-normal : (met : Met) (id : ℕ) (c : Command) (text : Option (List ℕ)) → normal (Moves.refused_or met id c text) ≡ Moves.refused_or met id c text
refused-or-normal met id c (Some text) = refl
refused-or-normal met id c None = effect-normal met id c

requested-normal : (met : ℕ → Met) (id : ℕ) (a : Asked Command) → normal (Moves.requested met id a) ≡ Moves.requested met id a
requested-normal met id (Err text) = refl
requested-normal met id (Ok c) = refused-or-normal (met (key_of c)) id c (refusal (met (key_of c)) c)

arrived-normal : (met : ℕ → Met) (packet : Packet) (b : Bool) → normal (cond b (Moves.requested met packet.id (asked packet.value)) []) ≡ cond b (Moves.requested met packet.id (asked packet.value)) []
arrived-normal met packet true = requested-normal met packet.id (asked packet.value)
arrived-normal met packet false = refl

-- what work adds

added-normal : (at : Standing) (n : ℕ) (large : Bool) (adds : List Move) → normal adds ≡ adds → normal (Moves.added_or at n large adds) ≡ Moves.added_or (normal_standing at) n large adds
added-normal at n true adds h = ended-normal at.key at.stays n too_large
added-normal at n false adds h = h

kept-normal : (at : Standing) (n : ℕ) (q : Question) (a : Answer) (o : Option Outcome) → Moves.kept_unless (normal_standing at) n q a (normal_some o) ≡ normal (Moves.kept_unless at n q a o)
kept-normal at n q a None = sym (added-normal at n (is_overfull (kept at.table q a)) (keep n q a ∷ []) refl)
kept-normal at n q a (Some o) = refl

opens-normal : (n : ℕ) (t : Option Task) → normal (Moves.opens n t) ≡ Moves.opens n t
opens-normal n None = refl
opens-normal n (Some t) = refl

opened-normal : (at : Standing) (n : ℕ) (t : Option Task) (o : Option Outcome) → Moves.opened_unless (normal_standing at) n t (normal_some o) ≡ normal (Moves.opened_unless at n t o)
opened-normal at n t None = sym (added-normal at n (has_too_many (opened at.tasks t)) (Moves.opens n t) (opens-normal n t))
opened-normal at n t (Some o) = refl

settled-normal : (at : Standing) (n : ℕ) (o : Outcome) → Moves.settled (normal_standing at) n (normal_outcome o) ≡ normal (Moves.settled at n o)
settled-normal at n (outcomes.Files files) = by at.writes
  where
    by : (writes : Bool) → settle n (outcomes.Files files) ∷ cond writes [] (Moves.closed at.key at.stays n) ≡ normal (settle n (outcomes.Files files) ∷ cond writes [] (Moves.closed at.key at.stays n))
    by true = refl
    by false = ap (λ (ms : List Move). settle n (outcomes.Files files) ∷ ms) (sym (closed-normal at.key at.stays n))
settled-normal at n (outcomes.Errors messages) = sym (ended-normal at.key at.stays n (outcomes.Errors messages))
settled-normal at n outcomes.Canceled = sym (ended-normal at.key at.stays n outcomes.Canceled)
settled-normal at n outcomes.Memory = sym (ended-normal at.key at.stays n outcomes.Memory)

unsettled-normal : (at : Standing) (n : ℕ) (o : Outcome) (first : Option Outcome) → Moves.settled_unless (normal_standing at) n (normal_outcome o) (normal_some first) ≡ normal (Moves.settled_unless at n o first)
unsettled-normal at n o None = settled-normal at n o
unsettled-normal at n o (Some first) = refl

pub named-normal : (p : Product) → named (normal_product p) ≡ named p
named-normal (products.Entry where_to) = refl
named-normal (products.Load loading) = refl

of-normal : (met : ℕ → Met) (at : ℕ → Standing) (e : Event) → moves_of met (λ n. normal_standing (at n)) (normal_event e) ≡ normal (moves_of met at e)
of-normal met at (events.Arrive packet) = sym (arrived-normal met packet packet.request)
of-normal met at (events.Record worker n q a) = kept-normal (at n) n q a (at n).outcome
of-normal met at (events.Settle worker n o) = unsettled-normal (at n) n o (at n).outcome
of-normal met at (events.Written worker n f) = ap (λ (ms : List Move). write n f ∷ ms) (sym (closed-normal (at n).key (at n).stays n))
of-normal met at events.Pop = refl
of-normal met at events.EndOfInput = refl
of-normal met at (events.Claim role job) = refl
of-normal met at (events.Deliver worker n t p) =
    ap (λ (u : Option Task). Moves.opened_unless (normal_standing (at n)) n u (normal_some (at n).outcome)) (named-normal p)
    ∙ opened-normal (at n) n (named p) (at n).outcome

after-normal : (ms : List Move) (e : Event) → moves_after (normal ms) (normal_event e) ≡ normal (moves_after ms e)
after-normal ms e =
    ap (λ (f : ℕ → Met). moves_of f (standing_in (normal ms)) (normal_event e)) (met_is ms)
    ∙ ap (λ (f : ℕ → Standing). moves_of (met_in ms) f (normal_event e)) (standing_is ms)
    ∙ of-normal (met_in ms) (standing_in ms) e

from-normal : (ms : List Move) (es : List Event) → moves_from (normal ms) (map normal_event es) ≡ normal (moves_from ms es)
from-normal ms [] = refl
from-normal ms (e ∷ es) =
    ap (λ (ns : List Move). moves_from (normal ms ++ ns) (map normal_event es)) (after-normal ms e)
    ∙ ap (λ (ns : List Move). moves_from ns (map normal_event es)) (sym (map-append normal_move ms (moves_after ms e)))
    ∙ from-normal (ms ++ moves_after ms e) es

-- a history comes to the same moves but for the outcomes
moves-normal : (es : List Event) → moves_in (map normal_event es) ≡ normal (moves_in es)
moves-normal es = from-normal [] es

-- ---- questions about histories

module _ (es : List Event) where
  abbrev own : List Event
  own = map normal_event es

  same_builds : builds own ≡ builds es
  same_builds = ap builds_in (moves-normal es) ∙ begun_are (moves_in es)

  same_build : (n : ℕ) → build own n ≡ build es n
  same_build n = ap (λ (bs : List Begun). slice_index_or bs n no_begun) same_builds

  same_table : (n : ℕ) → table own n ≡ table es n
  same_table n = ap (λ (ms : List Move). table_in ms n) (moves-normal es) ∙ table_is (moves_in es) n

  same_tasks : (n : ℕ) → tasks own n ≡ tasks es n
  same_tasks n = ap (λ (ms : List Move). tasks_in ms n) (moves-normal es) ∙ tasks_are (moves_in es) n

  pub normal_end : (n : ℕ) → outcome own n ≡ normal_some (outcome es n)
  normal_end n = ap (λ (ms : List Move). outcome_in ms n) (moves-normal es) ∙ outcome_is (moves_in es) n

  same_owed : owed own ≡ owed es
  same_owed =
      let taken = ap (count_by is_take) (moves-normal es) ∙ taken_are (moves_in es) in
      let all = ap owed_in (moves-normal es) ∙ owed_are (moves_in es) in
      λ i. drop (taken i) (all i)

-- ---- work

claims-same : (n : ℕ) (t : Task) (e : Event) → claims_task n t (normal_event e) ≡ claims_task n t e
claims-same n t (events.Arrive packet) = refl
claims-same n t events.EndOfInput = refl
claims-same n t (events.Claim role job) = refl
claims-same n t (events.Record worker m question answer) = refl
claims-same n t (events.Deliver worker m u p) = refl
claims-same n t (events.Settle worker m o) = refl
claims-same n t (events.Written worker m f) = refl
claims-same n t events.Pop = refl

link-same : (n : ℕ) (e : Event) → claims_link n (normal_event e) ≡ claims_link n e
link-same n (events.Arrive packet) = refl
link-same n events.EndOfInput = refl
link-same n (events.Claim role job) = refl
link-same n (events.Record worker m question answer) = refl
link-same n (events.Deliver worker m u p) = refl
link-same n (events.Settle worker m o) = refl
link-same n (events.Written worker m f) = refl
link-same n events.Pop = refl

write-same : (n : ℕ) (e : Event) → claims_write n (normal_event e) ≡ claims_write n e
write-same n (events.Arrive packet) = refl
write-same n events.EndOfInput = refl
write-same n (events.Claim role job) = refl
write-same n (events.Record worker m question answer) = refl
write-same n (events.Deliver worker m u p) = refl
write-same n (events.Settle worker m o) = refl
write-same n (events.Written worker m f) = refl
write-same n events.Pop = refl

does-same : (n : ℕ) (t : Task) (e : Event) → does_task n t (normal_event e) ≡ does_task n t e
does-same n t (events.Arrive packet) = refl
does-same n t events.EndOfInput = refl
does-same n t (events.Claim role job) = refl
does-same n t (events.Record worker m question answer) = refl
does-same n t (events.Deliver worker m u p) = refl
does-same n t (events.Settle worker m o) = refl
does-same n t (events.Written worker m f) = refl
does-same n t events.Pop = refl

hand-same : (job : Option Job) (e : Event) → doing_after job (normal_event e) ≡ doing_after job e
hand-same hand (events.Arrive packet) = refl
hand-same hand events.EndOfInput = refl
hand-same hand (events.Claim role job) = refl
hand-same hand (events.Record worker m question answer) = refl
hand-same hand (events.Deliver worker m u p) = refl
hand-same hand (events.Settle worker m o) = refl
hand-same hand (events.Written worker m f) = refl
hand-same hand events.Pop = refl

arrived-same : (e : Event) → arrived (normal_event e) ≡ arrived e
arrived-same (events.Arrive packet) = refl
arrived-same events.EndOfInput = refl
arrived-same (events.Claim role job) = refl
arrived-same (events.Record worker m question answer) = refl
arrived-same (events.Deliver worker m u p) = refl
arrived-same (events.Settle worker m o) = refl
arrived-same (events.Written worker m f) = refl
arrived-same events.Pop = refl

to-write-same : (b : Begun) (o : Outcome) → is_to_write b (normal_outcome o) ≡ is_to_write b o
to-write-same b (outcomes.Files files) = refl
to-write-same b (outcomes.Errors messages) = refl
to-write-same b outcomes.Canceled = refl
to-write-same b outcomes.Memory = refl

module _ (es : List Event) where
  abbrev normals : List Event
  normals = map normal_event es

  open_same : (n : ℕ) → is_open normals n ≡ is_open es n
  open_same n = λ i t. not (any-same normal_event (claims_task n t) (claims-same n t) es i)

  done_same : (n : ℕ) → is_done normals n ≡ is_done es n
  done_same n = λ i t. any-same normal_event (does_task n t) (does-same n t) es i

  task_same : (n : ℕ) → open_task normals n ≡ open_task es n
  task_same n = λ i. slice_get (filter (open_same n i) (same_tasks es n i)) 0

  links_same : (n : ℕ) → link_is_open normals n ≡ link_is_open es n
  links_same n = λ i. list_all (done_same n i) (same_tasks es n i) && not (any-same normal_event (claims_link n) (link-same n) es i)

  writes_same : (n : ℕ) (o : Outcome) → open_write normals n (normal_outcome o) ≡ open_write es n o
  writes_same n o =
      let to_write = ap (λ (b : Begun). is_to_write b (normal_outcome o)) (same_build es n) ∙ to-write-same (build es n) o in
      λ i. write_if n (to_write i && not (any-same normal_event (claims_write n) (write-same n) es i))

  job_by_same : (n : ℕ) (o : Option Outcome) → open_job_by normals n (normal_some o) ≡ open_job_by es n o
  job_by_same n None = λ i. scan_or_link n (task_same n i) (links_same n i)
  job_by_same n (Some o) = writes_same n o

  job_same : (n : ℕ) → open_job_of normals n ≡ open_job_of es n
  job_same n = ap (open_job_by normals n) (normal_end es n) ∙ job_by_same n (outcome es n)

  earliest_same : (n count : ℕ) → earliest_from normals n count ≡ earliest_from es n count
  earliest_same n zero = refl
  earliest_same n (suc count) = λ i. or_next (job_same n i) (earliest_same (n + 1) count i)

  first_same : (r : Role) → open_job normals r ≡ open_job es r
  first_same (roles.Worker worker) = ap (λ (bs : List Begun). earliest_from normals 0 (length bs)) (same_builds es) ∙ earliest_same 0 (length (builds es))
  first_same (roles.Door door) = refl

  -- ---- what comes next

  over_same : (o : Option Outcome) (job : Job) → unless_over (normal_some o) job ≡ unless_over o job
  over_same None job = refl
  over_same (Some o) (jobs.Scan n t) = refl
  over_same (Some o) (jobs.Link n) = refl
  over_same (Some o) (jobs.Write n) = refl

  on_same : (job : Option Job) → going_on normals job ≡ going_on es job
  on_same None = refl
  on_same (Some job) = ap (λ (o : Option Outcome). unless_over o job) (normal_end es (build_of job)) ∙ over_same (outcome es (build_of job)) job

  doing_same : doing normals ≡ doing es
  doing_same = ap (going_on normals) (fold-same normal_event doing_after hand-same None es) ∙ on_same (in_hand es)

  arrivals_same : arrivals normals ≡ arrivals es
  arrivals_same = along es
    where
      along : (fs : List Event) → flat_map arrived (map normal_event fs) ≡ flat_map arrived fs
      along [] = refl
      along (f ∷ fs) = λ i. arrived-same f i ++ along fs i

  work_same : (world : List Folder) (job : Job) → work_step world normals job ≡ work_step world es job
  work_same world (jobs.Scan n t) = λ i. scan_step world n t (run (same_build es n i).options (same_table es n i) t)
  work_same world (jobs.Link n) = λ i. Some (events.Settle 0 n (linked (serial_link (same_build es n i).options (same_table es n i))))
  work_same world (jobs.Write n) = refl

  free_same : (packets : List Packet) → free_step packets normals ≡ free_step packets es
  free_same packets = λ i. pop_or (same_owed es i) (claim_or (first_same (roles.Worker 0) i) (input_step (slice_get packets (length (arrivals_same i)))))

  step_same : (world : List Folder) (packets : List Packet) (job : Option Job) → step_by world packets normals job ≡ step_by world packets es job
  step_same world packets (Some job) = work_same world job
  step_same world packets None = ap Some (free_same packets)

  next_same : (world : List Folder) (packets : List Packet) → next world packets normals ≡ next world packets es
  next_same world packets = ap (step_by world packets normals) doing_same ∙ step_same world packets (doing es)

-- histories that are alike have the same event next
pub alike-next : (world : List Folder) (packets : List Packet) (es fs : List Event) → map normal_event es ≡ map normal_event fs → next world packets es ≡ next world packets fs
alike-next world packets es fs alike =
    sym (next_same es world packets) ∙ ap (next world packets) alike ∙ next_same fs world packets

-- ---- files

written-same : (path : List ℕ) (earlier : Fate) (o : Option Outcome) (f : Failures) → written_over path earlier (normal_some o) f ≡ written_over path earlier o f
written-same path earlier None f = refl
written-same path earlier (Some (outcomes.Files files)) f = refl
written-same path earlier (Some (outcomes.Errors messages)) f = refl
written-same path earlier (Some outcomes.Canceled) f = refl
written-same path earlier (Some outcomes.Memory) f = refl

abbrev normal_writing : Option Outcome × Failures → Option Outcome × Failures
normal_writing writing = (normal_some writing.0, writing.1)

writing-normal : (before : List Event) (e : Event) → writing_of (map normal_event before) (normal_event e) ≡ map normal_writing (writing_of before e)
writing-normal before (events.Arrive packet) = refl
writing-normal before events.EndOfInput = refl
writing-normal before (events.Claim role job) = refl
writing-normal before (events.Record worker m question answer) = refl
writing-normal before (events.Deliver worker m u p) = refl
writing-normal before (events.Settle worker m o) = refl
writing-normal before (events.Written worker m f) = ap (λ (o : Option Outcome). (o, f) ∷ []) (normal_end before m)
writing-normal before events.Pop = refl

writings-normal : (before es : List Event) → gathered_from writing_of (map normal_event before) (map normal_event es) ≡ map normal_writing (gathered_from writing_of before es)
writings-normal before [] = refl
writings-normal before (e ∷ es) =
    ap (λ (ds : List Event). writing_of (map normal_event before) (normal_event e) ++ gathered_from writing_of ds (map normal_event es)) (sym (map-append normal_event before (e ∷ [])))
    ∙ (λ i. writing-normal before e i ++ writings-normal (before ++ e ∷ []) es i)
    ∙ sym (map-append normal_writing (writing_of before e) (gathered_from writing_of (before ++ e ∷ []) es))

fate_same : (path : List ℕ) (es : List Event) → fate path (map normal_event es) ≡ fate path es
fate_same path es =
    ap (fold (fate_over path) untouched) (writings-normal [] es)
    ∙ fold-same normal_writing (fate_over path) (λ earlier w. written-same path earlier w.0 w.1) untouched (writings es)

-- histories that are alike put the same files
pub alike-fate : (one other : List Event) (path : List ℕ) → map normal_event one ≡ map normal_event other → fate path one ≡ fate path other
alike-fate one other path alike = sym (fate_same path one) ∙ ap (fate path) alike ∙ fate_same path other
