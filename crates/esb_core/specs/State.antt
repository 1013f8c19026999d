-- What the machine is seen as.
use Rattle.std.specs.Prelude.{ℕ, Bool, false, List, [], Option, None, slice_index_or}
use Rattle.esb_flags.specs.declared.options.Options.{Options}
use Rattle.esb_ask.specs.declared.question.Question.{Question}
use Rattle.esb_ask.specs.declared.answer.Answer.{Answer}
use Rattle.esb_ask.specs.declared.task.Task.{Task}
use Rattle.esb_ask.specs.declared.outcome.Outcome.{Outcome}
use Rattle.esb_ask.specs.declared.outcome.Failures.{Failures}
use Rattle.esb_core.specs.declared.out.Out.{Out}

-- a build
pub record Building : Type 0 where
  -- the key of its context
  pub key : ℕ
  pub options : Options
  -- the requests that wait for it, in the order in which they came: each id, and whether it is answered by the result
  pub waiting : List (ℕ × Bool)
  -- the first answers to its questions
  pub table : List (Question × Answer)
  -- its tasks, in the order in which they were opened
  pub tasks : List Task
  -- how many of them were claimed
  pub claimed : ℕ
  -- the claims that stand: a worker, and its task
  pub claims : List (ℕ × Task)
  -- the worker that has claimed the link
  pub linker : Option ℕ
  -- how it was settled
  pub outcome : Option Outcome
  -- the worker that has claimed the writing of its files
  pub writer : Option ℕ
  -- which files were not put, once the others were
  pub failed : Option Failures
  -- whether the requests that wait for it are answered, and none can wait any more
  pub closed : Bool

pub record State : Type 0 where
  -- the contexts by their keys, in the order in which they were made
  pub contexts : List (ℕ × Options)
  -- the keys of the contexts that are disposed, and whose build isn't closed
  pub retired : List ℕ
  -- the builds that aren't closed, by the keys of their contexts
  pub active : List (ℕ × ℕ)
  -- the builds in the order in which they began
  pub builds : List Building
  -- what is owed
  pub owed : List Out
  -- whether the input has ended
  pub ended : Bool

-- before any event
abbrev pub start : State
start = record { contexts = []; retired = []; active = []; builds = []; owed = []; ended = false }

abbrev pub no_options : Options
no_options = record {
  cwd = [];
  entries = [];
  write = false;
  context = false;
  plugins = [];
  flags = record { outdir = None; outfile = None; splitting = false; loaders = []; externals = []; conditions = []; entry_names = []; chunk_names = [] };
}

-- what stands where there is no build
abbrev pub no_build : Building
no_build = record { key = 0; options = no_options; waiting = []; table = []; tasks = []; claimed = 0; claims = []; linker = None; outcome = None; writer = None; failed = None; closed = false }

-- the build of a number
abbrev pub build_at : List Building → ℕ → Building
build_at builds n = slice_index_or builds n no_build
