-- What a task asks over a table of answers, or else what it gives.
use Rattle.std.specs.Prelude.{◌≡◌, ℕ, Bool, true, false, List, [], ◌∷◌, Option, Some, None, slice_get, codes}
use Rattle.esb_base.specs.declared.file_name.FileName.{FileName}
use Rattle.esb_base.specs.declared.flags.Loader.{Loader}
use Rattle.esb_base.specs.declared.flags.Loader.TheVariants as loader
use Rattle.esb_flags.specs.declared.options.Options.{Options}
use Rattle.esb_ask.specs.declared.question.Question.{Question}
use Rattle.esb_ask.specs.declared.question.Question.TheVariants as question
use Rattle.esb_ask.specs.declared.answer.Answer.{Answer}
use Rattle.esb_ask.specs.declared.answer.Answer.TheVariants as answer
use Rattle.esb_ask.specs.declared.task.Task.{Task}
use Rattle.esb_ask.specs.declared.task.Task.TheVariants as task
use Rattle.esb_ask.specs.declared.product.Product.{Product}
use Rattle.esb_ask.specs.declared.product.Product.TheVariants as product
use Rattle.esb_ask.specs.declared.product.Resolved.{Resolved}
use Rattle.esb_ask.specs.declared.product.Resolved.TheVariants as resolved
use Rattle.esb_ask.specs.declared.product.Loaded.{Loaded}
use Rattle.esb_ask.specs.declared.product.Loaded.TheVariants as loaded
use Rattle.esb_ask.specs.Table.{answer_to}
use Rattle.esb_scan.specs.declared.run.Run.{Run}
use Rattle.esb_scan.specs.declared.run.Run.TheVariants as run_of
use Rattle.esb_scan.specs.Loaders.{loader_of}
use Rattle.esb_scan.specs.Likeness.{normal_product, IsPlacedProduct}
use Rattle.esb_scan.specs.Messages.{cannot_read, not_found, no_loader}
use Rattle.esb_scan.specs.Paths.{below}
use Rattle.esb_scan.specs.Scripts.{script, IsNoSyntaxError, IsPlacedScript}
use Rattle.esb_scan.specs.Unbuilt.{not_built}

-- ---- questions

abbrev pub ask_or : Option Answer → Question → (Answer → Product) → Run
ask_or None asked product_by = run_of.Asks asked
ask_or (Some first) asked product_by = run_of.Done (product_by first)

-- a question, or where the table has its answer the product by that answer
abbrev pub ask : List (Question × Answer) → Question → (Answer → Product) → Run
ask table asked product_by = ask_or (answer_to table asked) asked product_by

-- ---- entries

-- the path of an entry's file
abbrev pub entry_path : Options → List ℕ × List ℕ → List ℕ
entry_path options entry = below options.cwd entry.1

-- a file of the system
abbrev pub system_file : List ℕ → FileName
system_file path = record { namespace = codes "file"; path = path }

-- where an entry leads by what lies at its path
abbrev pub resolved_by : List ℕ → List ℕ → Answer → Resolved
resolved_by path spec answer.File = resolved.To (system_file path) false
resolved_by path spec answer.Folder = resolved.Refused (not_found spec)
resolved_by path spec answer.Missing = resolved.Refused (not_found spec)
resolved_by path spec answer.TooBig = resolved.Refused (not_found spec)
resolved_by path spec answer.Fault = resolved.Refused (cannot_read path)
resolved_by path spec (answer.Bytes contents) = resolved.Refused (not_found spec)

-- the run for an entry
abbrev pub run_entry : Options → List (Question × Answer) → List ℕ × List ℕ → Run
run_entry options table entry =
    let path = entry_path options entry in
    ask table (question.Kind path) (λ first. product.Entry (resolved_by path entry.1 first))

abbrev pub run_numbered : Options → List (Question × Answer) → Option (List ℕ × List ℕ) → Run
run_numbered options table None = run_of.Done (product.Entry resolved.Left)
run_numbered options table (Some entry) = run_entry options table entry

-- ---- loads

-- What the loading gives of a file's contents. A loader that says `empty` doesn't look at them.
abbrev pub read_by : Options → FileName → List ℕ → Option Loader → Loaded
read_by options name contents None = loaded.Refused (no_loader options.cwd name)
read_by options name contents (Some loader.Copy) = loaded.Copied contents
read_by options name contents (Some loader.Js) = script options.cwd name contents
read_by options name contents (Some loader.Empty) = loaded.Copied []
read_by options name contents (Some loader.Json) = loaded.Refused (not_built options.cwd name)
read_by options name contents (Some loader.Txt) = loaded.Refused (not_built options.cwd name)

-- What the loading gives by what the file has. Its loader is looked at once the contents are there. A syntax error has no place here.
abbrev pub loaded_by : Options → FileName → Answer → Loaded
loaded_by options name answer.File = loaded.Refused (cannot_read name.path)
loaded_by options name answer.Folder = loaded.Refused (cannot_read name.path)
loaded_by options name answer.Missing = loaded.Refused (cannot_read name.path)
loaded_by options name answer.TooBig = loaded.Refused (cannot_read name.path)
loaded_by options name answer.Fault = loaded.Refused (cannot_read name.path)
loaded_by options name (answer.Bytes contents) = read_by options name contents (loader_of options.flags name.path)

-- a syntax error in it is at a place of what the file has
abbrev pub IsPlacedAnswer : List ℕ → FileName → Answer → Loaded → Type 0
IsPlacedAnswer cwd name answer.File loading = IsNoSyntaxError loading
IsPlacedAnswer cwd name answer.Folder loading = IsNoSyntaxError loading
IsPlacedAnswer cwd name answer.Missing loading = IsNoSyntaxError loading
IsPlacedAnswer cwd name answer.TooBig loading = IsNoSyntaxError loading
IsPlacedAnswer cwd name answer.Fault loading = IsNoSyntaxError loading
IsPlacedAnswer cwd name (answer.Bytes contents) loading = IsPlacedScript cwd name contents loading

-- the run for a file
abbrev pub run_load : Options → List (Question × Answer) → FileName → Run
run_load options table name = ask table (question.Read name.path) (λ first. product.Load (loaded_by options name first))

-- ---- tasks

-- what a task asks over the table, or else what it gives
abbrev pub run : Options → List (Question × Answer) → Task → Run
run options table (task.Entry number) = run_numbered options table (slice_get options.entries number)
run options table (task.Load name) = run_load options table name

abbrev pub entry_trail : Options → Option (List ℕ × List ℕ) → List Question
entry_trail options None = []
entry_trail options (Some entry) = question.Kind (entry_path options entry) ∷ []

-- the questions that the task meets, up to and with the first that the table lacks: it meets one at most
abbrev pub trail : Options → List (Question × Answer) → Task → List Question
trail options table (task.Entry number) = entry_trail options (slice_get options.entries number)
trail options table (task.Load name) = question.Read name.path ∷ []

-- the further tasks that a product names
abbrev pub names : Product → List Task
names (product.Entry (resolved.To name marked)) = task.Load name ∷ []
names (product.Entry resolved.External) = []
names (product.Entry resolved.Left) = []
names (product.Entry (resolved.Refused message)) = []
names (product.Load loading) = []

-- what a task asks: an entry's what lies at a path, and a load what the file at a path has
abbrev pub question_fits : Task → Question → Bool
question_fits (task.Entry number) (question.Kind path) = true
question_fits (task.Entry number) (question.Read path) = false
question_fits (task.Load name) (question.Kind path) = false
question_fits (task.Load name) (question.Read path) = true

-- whether a task loads a file
abbrev pub is_load : Task → Bool
is_load (task.Entry number) = false
is_load (task.Load name) = true

-- whether the task has a product
abbrev pub is_done : Run → Bool
is_done (run_of.Asks asked) = false
is_done (run_of.Done given) = true
is_done run_of.Memory = false

-- the run is as defined, or memory was refused
abbrev pub IsRun : Run → Run → Type 0
IsRun wanted (run_of.Asks asked) = run_of.Asks asked ≡ wanted
IsRun wanted (run_of.Done given) = run_of.Done given ≡ wanted
IsRun wanted run_of.Memory = Unit {0}

-- the same but for the place of a syntax error, which is any of its file
abbrev pub IsRunBut : List ℕ → List (Question × Answer) → Run → Run → Type 0
IsRunBut cwd table wanted (run_of.Asks asked) = run_of.Asks asked ≡ wanted
IsRunBut cwd table wanted (run_of.Done given) = (run_of.Done (normal_product given) ≡ wanted) × IsPlacedProduct cwd table given
IsRunBut cwd table wanted run_of.Memory = Unit {0}
