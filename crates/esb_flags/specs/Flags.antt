-- What the flags of a build ask for, and which are refused.
use Rattle.std.specs.Prelude.{◌≡◌, ℕ, ◌==◌, Bool, true, false, not, ◌&&◌, if◌then◌else◌, nat_eq, List, [], ◌∷◌, ◌++◌, length, drop, filter_map, codes, Option, Some, None, Result, Ok, Err}
use Rattle.std.specs.List.{list_all, list_any, slice_split, slice_get, starts_with}
use Rattle.std.specs.Option.{option_or, is_some}
use Rattle.std.specs.Str.{bytes_eq}
use Rattle.esb_base.specs.declared.flags.Flags.{Flags}
use Rattle.esb_base.specs.declared.flags.Loader.{Loader}
use Rattle.esb_base.specs.declared.flags.Loader.TheVariants as loader
use Rattle.esb_flags.specs.declared.fault.FlagFault.{FlagFault}
use Rattle.esb_flags.specs.declared.fault.FlagFault.TheVariants as faults
use Rattle.esb_flags.specs.declared.kind.Kind.{Kind}
use Rattle.esb_flags.specs.declared.kind.Kind.TheVariants as kind
use Rattle.esb_flags.specs.Shapes.{◌>>=◌}
use Rattle.esb_flags.specs.Words.{is_word, behind, before}

-- ---- one word: its front says which flag it is, and what stands behind the front is its value

abbrev pub front : Kind → List ℕ
front kind.Outdir = codes "--outdir="
front kind.Outfile = codes "--outfile="
front kind.Splitting = codes "--splitting"
front kind.Bundle = codes "--bundle"
front kind.LogLevel = codes "--log-level="
front kind.LogLimit = codes "--log-limit="
front kind.Color = codes "--color="
front kind.Format = codes "--format="
front kind.Loader = codes "--loader:."
front kind.External = codes "--external:"
front kind.Conditions = codes "--conditions="
front kind.EntryNames = codes "--entry-names="
front kind.ChunkNames = codes "--chunk-names="

abbrev pub is_given : List ℕ → Bool
is_given value = not (length value == 0)

-- the texts between commas
abbrev pub listed : List ℕ → List (List ℕ)
listed value = slice_split (λ b. b == 44) value

-- E and L of `E=L`, where L has this name
unfoldable pub ending : List ℕ → Loader → List ℕ → Option (List ℕ × Loader)
ending name loader value = do
  extension ← before name value
  if is_word extension then Some (extension, loader) else None

-- the extension and the loader of `E=L`
unfoldable pub assigned : List ℕ → Option (List ℕ × Loader)
assigned value = option_or (ending (codes "=js") loader.Js value)
    (option_or (ending (codes "=json") loader.Json value)
    (option_or (ending (codes "=text") loader.Txt value)
    (option_or (ending (codes "=copy") loader.Copy value)
    (ending (codes "=empty") loader.Empty value))))

-- what may stand behind the `[` of a mark
abbrev pub is_chunk_mark : List ℕ → Bool
is_chunk_mark rest = list_any (starts_with nat_eq rest) (codes "name]" ∷ codes "hash]" ∷ [])

abbrev pub is_entry_mark : List ℕ → Bool
is_entry_mark rest = list_any (starts_with nat_eq rest) (codes "dir]" ∷ codes "name]" ∷ codes "hash]" ∷ [])

-- what stands behind each `[`, up to the next
abbrev pub behind_brackets : List ℕ → List (List ℕ)
behind_brackets value = drop 1 (slice_split (λ b. b == 91) value)

-- whether a flag may have the value
abbrev pub fits : Kind → List ℕ → Bool
fits kind.Outdir value = true
fits kind.Outfile value = true
fits kind.Splitting value = bytes_eq value []
fits kind.Bundle value = bytes_eq value []
fits kind.LogLevel value = true
fits kind.LogLimit value = true
fits kind.Color value = true
fits kind.Format value = bytes_eq value (codes "esm")
fits kind.Loader value = is_some (assigned value)
fits kind.External value = is_given value
fits kind.Conditions value = list_all is_given (listed value)
fits kind.EntryNames value = is_given value && list_all is_entry_mark (behind_brackets value)
fits kind.ChunkNames value = is_given value && list_all is_chunk_mark (behind_brackets value)

unfoldable pub valued : Kind → List ℕ → Option (Kind × List ℕ)
valued kind word = do
  value ← behind (front kind) word
  if fits kind value then Some (kind, value) else None

-- the flags that say where the outputs go, those with no effect, and those of the files that are read
unfoldable pub output_flag : List ℕ → Option (Kind × List ℕ)
output_flag word = option_or (valued kind.Outdir word)
    (option_or (valued kind.Outfile word)
    (option_or (valued kind.Splitting word)
    (option_or (valued kind.EntryNames word)
    (valued kind.ChunkNames word))))

unfoldable pub idle_flag : List ℕ → Option (Kind × List ℕ)
idle_flag word = option_or (valued kind.Bundle word)
    (option_or (valued kind.LogLevel word)
    (option_or (valued kind.LogLimit word)
    (option_or (valued kind.Color word)
    (valued kind.Format word))))

unfoldable pub input_flag : List ℕ → Option (Kind × List ℕ)
input_flag word = option_or (valued kind.Loader word)
    (option_or (valued kind.External word)
    (valued kind.Conditions word))

-- the flag that a word is, with its value; no front begins another
unfoldable pub flag_of : List ℕ → Option (Kind × List ℕ)
flag_of word = option_or (output_flag word) (option_or (idle_flag word) (input_flag word))

-- ---- repeats

-- what stands before the loader's name
unfoldable pub unassigned : List ℕ → Option (List ℕ)
unassigned word = option_or (before (codes "=js") word)
    (option_or (before (codes "=json") word)
    (option_or (before (codes "=text") word)
    (option_or (before (codes "=copy") word)
    (before (codes "=empty") word))))

-- The text that no two flags may share: the front of most, the same for both paths, the front and the extension of a loader, and none for the flag that may stand any number of times.
abbrev pub shared : Kind → List ℕ → Option (List ℕ)
shared kind.Outfile word = Some (front kind.Outdir)
shared kind.Loader word = unassigned word
shared kind.External word = None
shared other word = Some (front other)

unfoldable pub once : List ℕ → Option (List ℕ)
once word = do
  flag ← flag_of word
  shared flag.0 word

abbrev pub is_there : List ℕ → Option (List ℕ) → Bool
is_there chars None = false
is_there chars (Some found) = bytes_eq found chars

abbrev pub is_among : List (List ℕ) → Option (List ℕ) → Bool
is_among words None = false
is_among words (Some chars) = list_any (λ word. is_there chars (once word)) words

-- ---- the first word that is bad or a repeat

-- what is wrong with a word, by the words before it
abbrev pub fault_of : List (List ℕ) → List ℕ → Option FlagFault
fault_of earlier word = if is_some (flag_of word)
    then (if is_among earlier (once word) then Some (faults.Repeated (length earlier)) else None)
    else Some (faults.BadFlag (length earlier))

abbrev pub first_fault : List (List ℕ) → List (List ℕ) → Option FlagFault
first_fault earlier [] = None
first_fault earlier (word ∷ others) = option_or (fault_of earlier word) (first_fault (earlier ++ word ∷ []) others)

-- ---- what the words ask for

-- the values of the words with the front, in their order
abbrev pub values_of : List ℕ → List (List ℕ) → List (List ℕ)
values_of front words = filter_map (behind front) words

abbrev pub value_of : List ℕ → List (List ℕ) → Option (List ℕ)
value_of front words = slice_get (values_of front words) 0

abbrev pub has_splitting : List (List ℕ) → Bool
has_splitting words = list_any (λ word. bytes_eq word (front kind.Splitting)) words

unfoldable pub loader_of : List ℕ → Option (List ℕ × Loader)
loader_of word = do
  value ← behind (front kind.Loader) word
  assigned value

abbrev pub or_text : List ℕ → Option (List ℕ) → List ℕ
or_text absent None = absent
or_text absent (Some value) = value

abbrev pub or_listed : Option (List ℕ) → List (List ℕ)
or_listed None = []
or_listed (Some value) = listed value

unfoldable pub flags_of : List (List ℕ) → Flags
flags_of words = record {
  outdir = value_of (front kind.Outdir) words;
  outfile = value_of (front kind.Outfile) words;
  splitting = has_splitting words;
  loaders = filter_map loader_of words;
  externals = values_of (front kind.External) words;
  conditions = or_listed (value_of (front kind.Conditions) words);
  entry_names = or_text (codes "[dir]/[name]") (value_of (front kind.EntryNames) words);
  chunk_names = or_text (codes "[name]-[hash]") (value_of (front kind.ChunkNames) words);
}

-- neither a folder, nor a path that is enough for one entry
unfoldable pub needs_outdir : ℕ → Flags → Bool
needs_outdir entries flags = not (is_some flags.outdir) && not (is_some flags.outfile && (entries == 1) && not flags.splitting)

abbrev pub if_placed : ℕ → Flags → Result Flags FlagFault
if_placed entries flags = if needs_outdir entries flags then Err faults.NeedsOutdir else Ok flags

abbrev pub unless : Option FlagFault → Result Flags FlagFault → Result Flags FlagFault
unless None flags = flags
unless (Some fault) flags = Err fault

-- what flags of a build with so many entries ask for, or their first fault
unfoldable pub read : ℕ → List (List ℕ) → Result Flags FlagFault
read entries words = unless (first_fault [] words) (if_placed entries (flags_of words))

-- the result of a call, which may be refused memory instead
abbrev pub AnswersFlags : Result Flags FlagFault → Result Flags FlagFault → Type 0
AnswersFlags (Err faults.Memory) said = Unit {0}
AnswersFlags result said = result ≡ said

-- the word at a place, or an empty text where there is none
abbrev pub word_at : List (List ℕ) → ℕ → List ℕ
word_at words place = or_text [] (slice_get words place)

-- the text of the refusal for a fault of these words. No words have the last one.
abbrev pub refusal : List (List ℕ) → FlagFault → List ℕ
refusal words (faults.BadFlag place) = codes "Bad flag: " ++ word_at words place
refusal words (faults.Repeated place) = codes "Repeated flag: " ++ word_at words place
refusal words faults.NeedsOutdir = codes "Must use outdir"
refusal words faults.SplittingNeedsEsm = codes "Splitting needs esm"
refusal words faults.Memory = []
