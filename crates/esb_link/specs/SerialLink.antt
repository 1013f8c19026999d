-- How a build ends over a complete table.
use Rattle.std.specs.Prelude.{◌≡◌, ◌≢◌, ℕ, Bool, true, false, not, if◌then◌else◌, List, [], ◌∷◌, ◌++◌, Option, Some, None, Result, Ok, Err, codes, map, unwrap_or}
use Rattle.std.specs.List.{AllByRecursion, flat_map}
use Rattle.std.specs.Map.{lookup}
use Rattle.std.specs.Str.{bytes_eq}
use Rattle.esb_base.specs.declared.file_name.FileName.{FileName}
use Rattle.esb_base.specs.declared.flags.Loader.{Loader}
use Rattle.esb_base.specs.declared.flags.Loader.TheVariants as loader
use Rattle.esb_flags.specs.declared.options.Options.{Options}
use Rattle.esb_ask.specs.declared.question.Question.{Question}
use Rattle.esb_ask.specs.declared.answer.Answer.{Answer}
use Rattle.esb_ask.specs.declared.message.Message.{Message}
use Rattle.esb_ask.specs.declared.outcome.OutFile.{OutFile}
use Rattle.esb_ask.specs.declared.product.Product.TheVariants as product
use Rattle.esb_ask.specs.declared.product.Resolved.{Resolved}
use Rattle.esb_ask.specs.declared.product.Resolved.TheVariants as resolved
use Rattle.esb_ask.specs.declared.product.Loaded.{Loaded}
use Rattle.esb_ask.specs.declared.product.Loaded.TheVariants as loaded
use Rattle.esb_wire.specs.Written.{put_by_key, by_key}
use Rattle.esb_scan.specs.declared.run.Run.{Run}
use Rattle.esb_scan.specs.declared.run.Run.TheVariants as run_of
use Rattle.esb_scan.specs.Likeness.{normal_message, IsPlaced}
use Rattle.esb_scan.specs.Loaders.{loader_of, stem_of}
use Rattle.esb_scan.specs.Messages.{unplaced}
use Rattle.esb_scan.specs.Paths.{below}
use Rattle.esb_scan.specs.Run.{run_entry, run_load, is_done}
pub use Rattle.esb_scan.specs.Complete.{IsComplete}
use Rattle.esb_link.specs.declared.fault.LinkFault.{LinkFault}
use Rattle.esb_link.specs.declared.fault.LinkFault.TheVariants as fault

-- ---- what the scan gave. Over a complete table each run is done.

abbrev pub resolved_in : Run → Resolved
resolved_in (run_of.Asks asked) = resolved.Left
resolved_in (run_of.Done (product.Entry where_to)) = where_to
resolved_in (run_of.Done (product.Load loading)) = resolved.Left
resolved_in run_of.Memory = resolved.Left

-- where an entry leads
abbrev pub resolution : Options → List (Question × Answer) → List ℕ × List ℕ → Resolved
resolution options table entry = resolved_in (run_entry options table entry)

abbrev pub loaded_in : Run → Option Loaded
loaded_in (run_of.Asks asked) = None
loaded_in (run_of.Done (product.Entry where_to)) = None
loaded_in (run_of.Done (product.Load loading)) = Some loading
loaded_in run_of.Memory = None

-- what the load gave of the file to which an entry leads
abbrev pub load_of : Options → List (Question × Answer) → Resolved → Option Loaded
load_of options table (resolved.To name marked) = loaded_in (run_load options table name)
load_of options table resolved.External = None
load_of options table resolved.Left = None
load_of options table (resolved.Refused message) = None

-- ---- messages

abbrev pub found_messages : Resolved → List Message
found_messages (resolved.To name marked) = []
found_messages resolved.External = []
found_messages resolved.Left = []
found_messages (resolved.Refused message) = message ∷ []

abbrev pub load_messages : Option Loaded → List Message
load_messages None = []
load_messages (Some (loaded.Copied contents)) = []
load_messages (Some (loaded.Refused message)) = message ∷ []

-- the messages of the entries in their order
abbrev pub entry_messages : Options → List (Question × Answer) → List Message
entry_messages options table = flat_map (λ entry. found_messages (resolution options table entry)) options.entries

-- the messages of the files to which they lead, in the order of the entries
abbrev pub file_messages : Options → List (Question × Answer) → List Message
file_messages options table = flat_map (λ entry. load_messages (load_of options table (resolution options table entry))) options.entries

-- ---- files

-- the folder of the outputs: the empty text where none was given
abbrev pub out_folder : Options → List ℕ
out_folder options = below options.cwd (unwrap_or options.flags.outdir [])

-- the name of an output, by the loader of its file: a copied file keeps its own, and others have `.js` in the place of the extension
abbrev pub out_name : Option Loader → List ℕ → List ℕ
out_name (Some loader.Copy) name = name
out_name (Some loader.Js) name = stem_of name ++ codes ".js"
out_name (Some loader.Json) name = stem_of name ++ codes ".js"
out_name (Some loader.Txt) name = stem_of name ++ codes ".js"
out_name (Some loader.Empty) name = stem_of name ++ codes ".js"
out_name None name = stem_of name ++ codes ".js"

-- the path of the output of an entry that leads to a file
abbrev pub out_path : Options → List ℕ × List ℕ → FileName → List ℕ
out_path options entry name = below (out_folder options) (out_name (loader_of options.flags name.path) entry.1)

abbrev pub output_by : List ℕ → Option Loaded → List (List ℕ × List ℕ)
output_by path None = []
output_by path (Some (loaded.Copied contents)) = (path, contents) ∷ []
output_by path (Some (loaded.Refused message)) = []

-- the output of an entry
abbrev pub output_of : Options → List (Question × Answer) → List ℕ × List ℕ → Resolved → List (List ℕ × List ℕ)
output_of options table entry (resolved.To name marked) = output_by (out_path options entry name) (loaded_in (run_load options table name))
output_of options table entry resolved.External = []
output_of options table entry resolved.Left = []
output_of options table entry (resolved.Refused message) = []

-- the outputs in the order of the entries, each as its path and its contents
abbrev pub outputs : Options → List (Question × Answer) → List (List ℕ × List ℕ)
outputs options table = flat_map (λ entry. output_of options table entry (resolution options table entry)) options.entries

abbrev pub out_file : List ℕ × List ℕ → OutFile
out_file pair = record { path = pair.0; contents = pair.1 }

-- the files of a build in the order of their paths' bytes: outputs with one path are one file
abbrev pub out_files : Options → List (Question × Answer) → List OutFile
out_files options table = map out_file (by_key (outputs options table))

-- ---- shared paths

-- the contents that some outputs have at a path
abbrev pub contents_at : List ℕ → List (List ℕ × List ℕ) → Option (List ℕ)
contents_at path sorted = lookup (bytes_eq path) sorted

-- whether an output has other contents than the one before it with its path, if there is one
abbrev pub is_other : Option (List ℕ) → List ℕ → Bool
is_other None contents = false
is_other (Some earlier) contents = not (bytes_eq earlier contents)

-- the paths that outputs share with other contents, behind outputs by their paths
abbrev pub shared_from : List (List ℕ × List ℕ) → List (List ℕ × List ℕ) → List (List ℕ × Unit {0})
shared_from sorted [] = []
shared_from sorted (output ∷ more) = (if is_other (contents_at output.0 sorted) output.1 then (output.0, tt) ∷ [] else []) ++ shared_from (put_by_key sorted output) more

abbrev pub shares_path : List ℕ → Message
shares_path path = unplaced (codes "Two output files share the path " ++ path)

-- a message for each path that outputs share with other contents, in the order of their bytes
abbrev pub path_messages : List (List ℕ × List ℕ) → List Message
path_messages outs = map (λ pair. shares_path pair.0) (by_key (shared_from [] outs))

-- ---- the end

-- the messages where there are any, else those of paths where there are any, and else the files
abbrev pub ended : List Message → List Message → List OutFile → Result (List OutFile) (List Message)
ended [] [] files = Ok files
ended [] (message ∷ messages) files = Err (message ∷ messages)
ended (message ∷ messages) shared files = Err (message ∷ messages)

-- First the messages of the entries and then those of their files; then those of shared paths; then the files. A syntax error has no place here.
abbrev pub serial_link : Options → List (Question × Answer) → Result (List OutFile) (List Message)
serial_link options table = ended (entry_messages options table ++ file_messages options table) (path_messages (outputs options table)) (out_files options table)

-- The fault has the messages, of which there are some, but for the place of a syntax error, which is any of its file. Or memory was refused.
abbrev pub IsFault : Options → List (Question × Answer) → LinkFault → Type 0
IsFault options table (fault.Errors messages) = (serial_link options table ≡ Err (map normal_message messages)) × (messages ≢ []) × AllByRecursion (IsPlaced options.cwd table) messages
IsFault options table fault.Memory = Unit {0}

-- an entry's task has a product, and so has the load of the file to which it leads
pub record IsEntryComplete (options : Options) (table : List (Question × Answer)) (entry : List ℕ × List ℕ) : Type 0 where
  pub entry_done : is_done (run_entry options table entry) ≡ true
  pub load_done : (name : FileName) (marked : Bool) → run_entry options table entry ≡ run_of.Done (product.Entry (resolved.To name marked)) → is_done (run_load options table name) ≡ true

-- the text by which an entry names its file
abbrev pub in_text : List ℕ × List ℕ → List ℕ
in_text entry = entry.1

abbrev pub path_of : OutFile → List ℕ
path_of file = file.path
