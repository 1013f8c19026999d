-- The files that a history puts, and what a host then has at each path.
use Rattle.std.specs.Prelude.{◌≡◌, ℕ, Bool, true, false, if◌then◌else◌, List, [], ◌∷◌, fold, count_by, Option, Some, None}
use Rattle.std.specs.List.{flat_map, list_any}
use Rattle.std.specs.Str.{bytes_eq}
use Rattle.esb_base.specs.declared.host.PutFault.{PutFault}
use Rattle.esb_base.specs.declared.host.PutFault.TheVariants as put_faults
use Rattle.esb_ask.specs.declared.outcome.OutFile.{OutFile}
use Rattle.esb_ask.specs.declared.outcome.Outcome.{Outcome}
use Rattle.esb_ask.specs.declared.outcome.Outcome.TheVariants as outcomes
use Rattle.esb_ask.specs.declared.outcome.Failures.{Failures}
use Rattle.esb_ask.specs.declared.outcome.Failures.TheVariants as failures
use Rattle.esb_core.specs.declared.event.Event.{Event}
use Rattle.esb_core.specs.declared.event.Event.TheVariants as events
use Rattle.esb_core.specs.History.{gathered, outcome}

-- ---- what is known of a path

pub data Fate : Type 0 where
  -- no file was put there
  untouched : Fate
  -- a file was put there, with these contents
  has : List ℕ → Fate
  -- a put failed there, and may have left any bytes
  unsure : Fate

-- what a path had before, and what it has now
abbrev pub Fits : Fate → Option (List ℕ) → Option (List ℕ) → Type 0
Fits untouched was now = now ≡ was
Fits (has contents) was now = now ≡ Some contents
Fits unsure was now = Unit {0}

-- ---- the files of one build

abbrev pub contents_over : List ℕ → Option (List ℕ) → OutFile → Option (List ℕ)
contents_over path earlier file = if bytes_eq path file.path then Some file.contents else earlier

-- the contents of the file with this path, the last one where there are more
abbrev pub contents_at : List ℕ → List OutFile → Option (List ℕ)
contents_at path files = fold (contents_over path) None files

-- whether the file with this path may not have been put
abbrev pub may_miss : List ℕ → Failures → Bool
may_miss path failures.All = true
may_miss path (failures.Paths paths) = list_any (λ failure. bytes_eq path failure.0) paths

abbrev pub put_over : Option (List ℕ) → Bool → Fate → Fate
put_over None missed earlier = earlier
put_over (Some contents) true earlier = unsure
put_over (Some contents) false earlier = has contents

abbrev pub written_over : List ℕ → Fate → Option Outcome → Failures → Fate
written_over path earlier (Some (outcomes.Files files)) f = put_over (contents_at path files) (may_miss path f) earlier
written_over path earlier o f = earlier

-- these files were put, but for those that failed
abbrev pub ArePut : List OutFile → Failures → (List ℕ → Option (List ℕ)) → (List ℕ → Option (List ℕ)) → Type 0
ArePut files f was now = (path : List ℕ) → Fits (put_over (contents_at path files) (may_miss path f) untouched) (was path) (now path)

-- ---- the files of a history

-- the outcome of a build whose files were put, and those that failed
abbrev pub writing_of : List Event → Event → List (Option Outcome × Failures)
writing_of before (events.Written worker n f) = (outcome before n, f) ∷ []
writing_of before e = []

abbrev pub writings : List Event → List (Option Outcome × Failures)
writings list = gathered writing_of list

abbrev pub fate_over : List ℕ → Fate → Option Outcome × Failures → Fate
fate_over path earlier writing = written_over path earlier writing.0 writing.1

-- what is known of a path after these events
abbrev pub fate : List ℕ → List Event → Fate
fate path list = fold (fate_over path) untouched (writings list)

-- a host has what it had before, with the files that these events put
abbrev pub HasPut : (List ℕ → Option (List ℕ)) → (List ℕ → Option (List ℕ)) → List Event → Type 0
HasPut was now list = (path : List ℕ) → Fits (fate path list) (was path) (now path)

-- ---- puts that failed

abbrev pub listed : Failures → List (List ℕ × PutFault)
listed (failures.Paths paths) = paths
listed failures.All = []

-- the failures that an event lists
abbrev pub lists : Event → List (List ℕ × PutFault)
lists (events.Written worker n f) = listed f
lists e = []

abbrev pub is_failed : List ℕ × PutFault → Bool
is_failed (path, put_faults.Failed) = true
is_failed (path, put_faults.Memory) = false

-- how many puts the host failed
abbrev pub failed_puts : List Event → ℕ
failed_puts list = count_by is_failed (flat_map lists list)
