-- What the machine's tables stand for, and what they keep.
use Rattle.std.specs.Prelude.{◌≡◌, ℕ, ◌+◌, ◌<◌, ◌≤◌, true, Bool, false, sum_by, List, length}
use Rattle.esb_ask.specs.declared.question.Question.{Question}
use Rattle.esb_ask.specs.declared.answer.Answer.{Answer}
use Rattle.esb_ask.specs.declared.task.Task.{Task}
use Rattle.esb_core.specs.State.{Building, State, build_at}
use Rattle.esb_core.specs.Sizes.{bytes_in, files, most_answers, most_contents, most_files}
use Rattle.esb_core.specs.Moves.{most_builds}
use Rattle.esb_core.specs.Allowed.{is_closed}
use Rattle.esb_core.specs.Order.{IsOrdered}
use Rattle.esb_core.specs.declared.tables.Tables.{Tables}

abbrev pub state_of : Tables → State
state_of t = record { contexts = t.contexts.contexts; retired = t.contexts.retired; active = t.contexts.active; builds = t.builds.items; owed = t.replies.owed; ended = t.ended }

-- how many replies the close of a build owes
abbrev pub load_of : ℕ → Bool → ℕ
load_of waiting false = waiting
load_of waiting true = 0

abbrev pub load : Building → ℕ
load b = load_of (length b.waiting) b.closed

-- how many replies the builds that aren't closed owe once they are
abbrev pub loads : List Building → ℕ
loads builds = sum_by load builds

-- the build keeps its key, its options, its outcome, who writes its files and whether it is closed, and at most so many more requests wait for it
abbrev pub StaysBy : ℕ → Building → Building → Type 0
StaysBy more old new = (new.key ≡ old.key) × (new.outcome ≡ old.outcome) × (new.closed ≡ old.closed) × (length new.waiting ≤ length old.waiting + more) × (new.writer ≡ old.writer) × (new.failed ≡ old.failed) × (new.options ≡ old.options)

-- what holds between two steps
pub record IsKept (t : Tables) : Type 0 where
  -- there is room for each reply that the close of a build owes
  pub room : loads t.builds.items ≤ t.replies.promised
  pub few : length t.builds.items ≤ most_builds
  -- the first builds, which are closed, are passed over
  pub passed : t.passed ≤ length t.builds.items
  pub over : (k : ℕ) → k < t.passed → is_closed (build_at t.builds.items k) ≡ true
  pub ordered : IsOrdered (state_of t)

-- the bytes of the answers are counted, and both are within their limits
abbrev pub AreCounted : List (Question × Answer) → ℕ → Type 0
AreCounted table bytes = (bytes ≡ bytes_in table) × (length table ≤ most_answers) × (bytes_in table ≤ most_contents)

-- the files that tasks load are counted, and within their limit
abbrev pub AreFiles : List Task → ℕ → Type 0
AreFiles tasks count = (count ≡ files tasks) × (files tasks ≤ most_files)
