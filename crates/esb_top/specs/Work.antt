-- What the work on builds leaves of a history.
use Rattle.std.specs.Prelude.{◌≡◌, ◌⊎◌, ℕ, ◌+◌, ◌<◌, ◌≤◌, Bool, true, [], ◌∷◌, ◌++◌, List, length, Some, None}
use Rattle.esb_base.specs.World.{Folder}
use Rattle.esb_base.specs.Faults.{Rose}
use Rattle.esb_ask.specs.declared.task.Task.{Task}
use Rattle.esb_ask.specs.declared.question.Question.{Question}
use Rattle.esb_ask.specs.declared.answer.Answer.{Answer}
use Rattle.esb_ask.specs.declared.answer.Answer.TheVariants as answers
use Rattle.esb_ask.specs.declared.outcome.OutFile.{OutFile}
use Rattle.esb_ask.specs.declared.outcome.Outcome.{Outcome}
use Rattle.esb_ask.specs.declared.outcome.Outcome.TheVariants as outcomes
use Rattle.esb_ask.specs.Table.{fits, kept}
use Rattle.esb_flags.specs.declared.options.Options.{Options}
use Rattle.esb_core.specs.declared.event.Job.TheVariants as jobs
use Rattle.esb_core.specs.Sizes.{is_overfull}
use Rattle.esb_core.specs.declared.event.Event.{Event}
use Rattle.esb_core.specs.declared.event.Event.TheVariants as events
use Rattle.esb_core.specs.State.{State, build_at}
use Rattle.esb_core.specs.Allowed.{has_task}
use Rattle.esb_core.specs.History.{is_legal, replay}
use Rattle.esb_sound.specs.Serial.{InTurn, doing}
use Rattle.esb_sound.specs.Sound.{IsLinked, Sound}
use Rattle.esb_sound.specs.Sent.{arrivals, sent_packets}
use Rattle.esb_sound.specs.Told.{AreTold, RoseBy, faults, told}
use Rattle.esb_top.specs.Entries.{Entries, Added}

-- A piece of work: it is right where what came before is, its answers are the host's, each of its events comes in its turn, nothing arrived or was sent, and the input didn't end.
pub record Worked (tells : Type 0) (world : List Folder) (faults_old faults_new : ℕ) (old new : List Event) : Type 0 where
  pub sound : Sound old → Sound new
  pub from_host : tells → AreTold world old → AreTold world new
  pub in_turn : InTurn tells world old → InTurn tells world new
  pub counted : (start : ℕ) → RoseBy (faults old) start faults_old → RoseBy (faults new) start faults_new
  pub arrived : arrivals new ≡ arrivals old
  pub sends : sent_packets new ≡ sent_packets old
  pub ended : (replay new).ended ≡ (replay old).ended

-- the worker has claimed a task of a build that isn't settled
pub record AtWork (s : State) (n : ℕ) (task : Task) : Type 0 where
  pub begun : n < length s.builds
  pub unsettled : (build_at s.builds n).outcome ≡ None
  pub claimed : has_task (build_at s.builds n) 0 task ≡ true

-- the worker has claimed the link of a build
pub record AtLink (s : State) (n : ℕ) : Type 0 where
  pub begun : n < length s.builds
  pub unsettled : (build_at s.builds n).outcome ≡ None
  pub claimed : (build_at s.builds n).linker ≡ Some 0

-- the worker has claimed the writing of a build's files
pub record AtWriting (s : State) (n : ℕ) : Type 0 where
  pub begun : n < length s.builds
  pub files : List OutFile
  pub outcome : (build_at s.builds n).outcome ≡ Some (outcomes.Files files)
  pub claimed : (build_at s.builds n).writer ≡ Some 0

-- a task of a build is in hand, and goes on
pub record IsGoing (list : List Event) (n : ℕ) (task : Task) (options : Options) : Type 0 where
  pub in_hand : doing list ≡ Some (jobs.Scan n task)
  pub at : AtWork (replay list) n task
  pub same_options : (build_at (replay list).builds n).options ≡ options

-- a build got an answer of the host, and would be too large with it or not
pub record Answered (tells : Type 0) (world : List Folder) (faults_old faults_new : ℕ) (old new : Entries) (n : ℕ) (question : Question) (large : Bool) : Type 0 where
  pub answer : Answer
  pub added : Added old new (events.Record 0 n question answer)
  pub fitting : fits question answer ≡ true
  pub from_host : tells → (answer ≡ told world n question) ⊎ (answer ≡ answers.Fault)
  pub fault : answer ≡ answers.Fault → Rose faults_old faults_new
  pub size : large ≡ is_overfull (kept (build_at (replay old.events).builds n).table question answer)

-- the link of a build was claimed, and the build is settled by it
pub record Linked (old new : Entries) (n : ℕ) : Type 0 where
  pub outcome : Outcome
  pub right : IsLinked (build_at (replay old.events).builds n).options (build_at (replay old.events).builds n).table outcome
  pub added : new.events ≡ old.events ++ events.Settle 0 n outcome ∷ []
  pub room : old.promised ≤ new.promised + 1
  pub legal : is_legal old.events ≡ true

-- a turn of a session, but for what arrived and was sent
pub record Goes (tells : Type 0) (world : List Folder) (faults_old faults_new : ℕ) (old new : List Event) : Type 0 where
  pub sound : Sound old → Sound new
  pub from_host : tells → AreTold world old → AreTold world new
  pub in_turn : InTurn tells world old → InTurn tells world new
  pub counted : (start : ℕ) → RoseBy (faults old) start faults_old → RoseBy (faults new) start faults_new
  pub ended : (replay new).ended ≡ (replay old).ended
