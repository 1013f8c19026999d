-- Which builds this version takes. All others are refused as not built yet.
use Rattle.std.specs.Prelude.{ℕ, ◌==◌, Bool, true, false, not, ◌&&◌, nat_eq, List, [], ◌∷◌, length, map, codes, Option, Some, None}
use Rattle.std.specs.List.{list_all, list_any, slice_split, starts_with}
use Rattle.std.specs.Option.{is_some}
use Rattle.std.specs.Str.{bytes_eq}
use Rattle.esb_flags.specs.declared.fields.Fields.{Fields}
use Rattle.esb_flags.specs.declared.kind.Kind.{Kind}
use Rattle.esb_flags.specs.declared.kind.Kind.TheVariants as kind
use Rattle.esb_flags.specs.Flags.{front, behind_brackets}
use Rattle.esb_flags.specs.Words.{slash, holds, behind}

-- ---- paths: files of the working folder, and outputs in one folder of it that are named as their entries

abbrev pub is_segment : List ℕ → Bool
is_segment segment = not (length segment == 0) && not (bytes_eq segment (codes ".")) && not (bytes_eq segment (codes ".."))

-- an absolute path below the root, with no segment that is empty, one dot or two dots
abbrev pub is_folder : List ℕ → Bool
is_folder [] = false
is_folder (first ∷ rest) = (first == slash) && list_all is_segment (slice_split (λ b. b == slash) rest)

-- what a file or a folder of a folder may be called
abbrev pub is_name : List ℕ → Bool
is_name chars = is_segment chars && not (holds slash chars)

-- an entry with no output path of its own, and a file of the working folder
abbrev pub is_plain : List ℕ × List ℕ → Bool
is_plain entry = (length entry.0 == 0) && is_name entry.1

-- no text stands twice
abbrev pub all_differ : List (List ℕ) → Bool
all_differ [] = true
all_differ (chars ∷ others) = not (list_any (bytes_eq chars) others) && all_differ others

abbrev pub is_flag : Kind → List ℕ → Bool
is_flag which word = is_some (behind (front which) word)

-- a value that is there is a name
abbrev pub if_name : Option (List ℕ) → Bool
if_name None = true
if_name (Some value) = is_name value

-- A word that moves no output, but into a folder of the working folder. No other word is looked at, and no word is judged.
abbrev pub is_placed : List ℕ → Bool
is_placed word = not (is_flag kind.Outfile word) && not (is_flag kind.EntryNames word) && if_name (behind (front kind.Outdir) word)

-- ---- chunks: one for each entry, and no name that has a hash

abbrev pub has_hash : List ℕ → Bool
has_hash value = list_any (λ rest. starts_with nat_eq rest (codes "hash]")) (behind_brackets value)

-- a value that is there has no hash
abbrev pub if_unhashed : Option (List ℕ) → Bool
if_unhashed None = true
if_unhashed (Some value) = not (has_hash value)

abbrev pub is_unsplit : List ℕ → Bool
is_unsplit word = not (bytes_eq word (front kind.Splitting)) && if_unhashed (behind (front kind.EntryNames) word) && if_unhashed (behind (front kind.ChunkNames) word)

-- ---- a build

unfoldable pub is_built : Fields → Bool
is_built fields = (length fields.plugins == 0) && is_folder fields.cwd
    && list_all is_plain fields.entries && all_differ (map (λ entry. entry.1) fields.entries)
    && list_all is_placed fields.flags && list_all is_unsplit fields.flags
