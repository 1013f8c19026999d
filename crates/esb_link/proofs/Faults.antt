-- What a build ends with that has messages.
use Rattle.std.proofs.Common.{◌≡◌, ◌≢◌, ℕ, List, [], ◌∷◌, ◌++◌, map, Option, None, Some, Ok, Err, slice_index_or, refl, sym, ap, subst, ◌∙◌, arith}
use Rattle.std.specs.List.{AllByRecursion, flat_map}
use Rattle.esb_flags.specs.declared.options.Options.{Options}
use Rattle.esb_ask.specs.declared.question.Question.{Question}
use Rattle.esb_ask.specs.declared.question.Question.TheVariants as question
use Rattle.esb_ask.specs.declared.answer.Answer.{Answer}
use Rattle.esb_ask.specs.declared.answer.Answer.TheVariants as answer
use Rattle.esb_ask.specs.declared.message.Message.{Message}
use Rattle.esb_ask.specs.declared.outcome.OutFile.{OutFile}
use Rattle.esb_ask.specs.declared.product.Product.TheVariants as product
use Rattle.esb_ask.specs.declared.product.Loaded.{Loaded}
use Rattle.esb_ask.specs.declared.product.Loaded.TheVariants as loaded
use Rattle.esb_ask.specs.Table.{answer_to}
use Rattle.esb_wire.specs.Written.{by_key}
use Rattle.esb_scan.specs.Likeness.{normal_loaded, normal_message, IsPlaced, IsPlacedLoad, IsSyntaxError}
use Rattle.esb_scan.specs.Messages.{syntax_text}
use Rattle.esb_scan.specs.Run.{ask_or, entry_path, resolved_by}
use Rattle.esb_link.specs.declared.fault.LinkFault.TheVariants as fault
use Rattle.esb_link.specs.SerialLink.{IsFault, resolved_in, resolution, found_messages, load_messages, entry_messages, file_messages, output_by, outputs, out_file, out_files, shared_from, shares_path, path_messages, ended, serial_link}

-- ---- lists

map-append : {X Y : Type 0} (f : X → Y) (xs ys : List X) → map f (xs ++ ys) ≡ map f xs ++ map f ys
map-append f [] ys = refl
map-append f (x ∷ xs) ys = ap (λ zs. f x ∷ zs) (map-append f xs ys)

all-append : {X : Type 0} (P : X → Type 0) (xs ys : List X) → AllByRecursion P xs → AllByRecursion P ys → AllByRecursion P (xs ++ ys)
all-append P [] ys h k = k
all-append P (x ∷ xs) ys h k = (h.0, all-append P xs ys h.1 k)

same-parts : {X Y : Type 0} (f : Y → Y) (g : X → List Y) → ((x : X) → map f (g x) ≡ g x) → (xs : List X) → map f (flat_map g xs) ≡ flat_map g xs
same-parts f g h [] = refl
same-parts f g h (x ∷ xs) = map-append f (g x) (flat_map g xs) ∙ (λ i. h x i ++ same-parts f g h xs i)

all-parts : {X Y : Type 0} (P : Y → Type 0) (g : X → List Y) → ((x : X) → AllByRecursion P (g x)) → (xs : List X) → AllByRecursion P (flat_map g xs)
all-parts P g h [] = tt
all-parts P g h (x ∷ xs) = all-append P (g x) (flat_map g xs) (h x) (all-parts P g h xs)

-- texts that begin with different characters
apart : {Y : Type 0} (c d : ℕ) (xs ys : List ℕ) → c ≢ d → c ∷ xs ≡ d ∷ ys → Y
apart c d xs ys ne e = absurd (ne (ap (λ (zs : List ℕ). slice_index_or zs 0 0) e))

-- ---- messages of entries, and of paths, are no syntax errors

module _ (options : Options) (table : List (Question × Answer)) where
  abbrev found_at : List ℕ × List ℕ → Option Answer → List Message
  found_at entry r = found_messages (resolved_in (ask_or r (question.Kind (entry_path options entry)) (λ first. product.Entry (resolved_by (entry_path options entry) entry.1 first))))

  found_normal : (entry : List ℕ × List ℕ) (r : Option Answer) → map normal_message (found_at entry r) ≡ found_at entry r
  found_normal entry None = refl
  found_normal entry (Some answer.File) = refl
  found_normal entry (Some answer.Folder) = refl
  found_normal entry (Some answer.Missing) = refl
  found_normal entry (Some answer.TooBig) = refl
  found_normal entry (Some answer.Fault) = refl
  found_normal entry (Some (answer.Bytes contents)) = refl

  found_placed : (entry : List ℕ × List ℕ) (r : Option Answer) → AllByRecursion (IsPlaced options.cwd table) (found_at entry r)
  found_placed entry None = tt
  found_placed entry (Some answer.File) = tt
  found_placed entry (Some answer.Folder) = (λ e. apart 67 83 _ _ (λ f. omega (arith, f)) e, tt)
  found_placed entry (Some answer.Missing) = (λ e. apart 67 83 _ _ (λ f. omega (arith, f)) e, tt)
  found_placed entry (Some answer.TooBig) = (λ e. apart 67 83 _ _ (λ f. omega (arith, f)) e, tt)
  found_placed entry (Some answer.Fault) = (λ e. apart 67 83 _ _ (λ f. omega (arith, f)) e, tt)
  found_placed entry (Some (answer.Bytes contents)) = (λ e. apart 67 83 _ _ (λ f. omega (arith, f)) e, tt)

  entries_normal : map normal_message (entry_messages options table) ≡ entry_messages options table
  entries_normal = same-parts normal_message (λ (entry : List ℕ × List ℕ). found_messages (resolution options table entry)) (λ entry. found_normal entry (answer_to table (question.Kind (entry_path options entry)))) options.entries

  entries_placed : AllByRecursion (IsPlaced options.cwd table) (entry_messages options table)
  entries_placed =
      all-parts (IsPlaced options.cwd table) (λ (entry : List ℕ × List ℕ). found_messages (resolution options table entry)) (λ entry. found_placed entry (answer_to table (question.Kind (entry_path options entry)))) options.entries

  paths_normal : (pairs : List (List ℕ × Unit {0})) → map normal_message (map (λ pair. shares_path pair.0) pairs) ≡ map (λ pair. shares_path pair.0) pairs
  paths_normal [] = refl
  paths_normal (pair ∷ pairs) = ap (λ (ms : List Message). shares_path pair.0 ∷ ms) (paths_normal pairs)

  paths_placed : (pairs : List (List ℕ × Unit {0})) → AllByRecursion (IsPlaced options.cwd table) (map (λ pair. shares_path pair.0) pairs)
  paths_placed [] = tt
  paths_placed (pair ∷ pairs) = (λ e. apart 84 83 _ _ (λ f. omega (arith, f)) e, paths_placed pairs)

  -- ---- the three ends

  ended_scanned : (ms shared : List Message) (files : List OutFile) → ms ≢ [] → ended ms shared files ≡ Err ms
  ended_scanned [] shared files some = absurd (some refl)
  ended_scanned (m ∷ ms) shared files some = refl

  ended_shared : (shared : List Message) (files : List OutFile) → shared ≢ [] → ended [] shared files ≡ Err shared
  ended_shared [] files some = absurd (some refl)
  ended_shared (m ∷ ms) files some = refl

  not_mapped : (ms : List Message) → ms ≢ [] → map normal_message ms ≢ []
  not_mapped [] some e = some refl
  not_mapped (m ∷ ms) some e = cc

  -- what was scanned, but for the places of syntax errors
  scanned_is : (of_entries of_files : List Message) → of_entries ≡ entry_messages options table → map normal_message of_files ≡ file_messages options table
      → map normal_message (of_entries ++ of_files) ≡ entry_messages options table ++ file_messages options table
  scanned_is of_entries of_files e f =
      map-append normal_message of_entries of_files ∙ (λ i. map normal_message (e i) ++ f i) ∙ ap (λ (ms : List Message). ms ++ file_messages options table) entries_normal

  pub scanned_fault : (of_entries of_files : List Message) → of_entries ≡ entry_messages options table → map normal_message of_files ≡ file_messages options table → AllByRecursion (IsPlaced options.cwd table) of_files
      → of_entries ++ of_files ≢ [] → IsFault options table (fault.Errors (of_entries ++ of_files))
  scanned_fault of_entries of_files e f placed some =
      let is = scanned_is of_entries of_files e f in (
        ap (λ (ms : List Message). ended ms (path_messages (outputs options table)) (out_files options table)) (sym is)
            ∙ ended_scanned (map normal_message (of_entries ++ of_files)) (path_messages (outputs options table)) (out_files options table) (not_mapped (of_entries ++ of_files) some),
        some,
        all-append (IsPlaced options.cwd table) of_entries of_files (subst (λ (ms : List Message). AllByRecursion (IsPlaced options.cwd table) ms) (sym e) entries_placed) placed,
      )

  none_scanned : (of_entries of_files : List Message) → of_entries ≡ entry_messages options table → map normal_message of_files ≡ file_messages options table → of_entries ++ of_files ≡ [] → entry_messages options table ++ file_messages options table ≡ []
  none_scanned of_entries of_files e f none = sym (scanned_is of_entries of_files e f) ∙ ap (map normal_message) none

  pub shared_fault : (of_entries of_files : List Message) (outs : List (List ℕ × List ℕ)) (shared : List Message) → of_entries ≡ entry_messages options table → map normal_message of_files ≡ file_messages options table → of_entries ++ of_files ≡ []
      → outs ≡ outputs options table → shared ≡ path_messages outs → shared ≢ [] → IsFault options table (fault.Errors shared)
  shared_fault of_entries of_files outs shared e f none is told some =
      let own : shared ≡ path_messages (outputs options table) = told ∙ ap path_messages is in
      let plain : map normal_message shared ≡ shared =
      ap (map normal_message) own ∙ paths_normal (by_key (shared_from [] (outputs options table))) ∙ sym own in (
        ap (λ (ms : List Message). ended ms (path_messages (outputs options table)) (out_files options table)) (none_scanned of_entries of_files e f none)
            ∙ ap (λ (ms : List Message). ended [] ms (out_files options table)) (sym own)
            ∙ ended_shared shared (out_files options table) some
            ∙ ap Err (sym plain),
        some,
        subst (λ (ms : List Message). AllByRecursion (IsPlaced options.cwd table) ms) (sym own) (paths_placed (by_key (shared_from [] (outputs options table)))),
      )

  pub no_fault : (of_entries of_files : List Message) (outs : List (List ℕ × List ℕ)) (shared : List Message) (files : List OutFile) → of_entries ≡ entry_messages options table → map normal_message of_files ≡ file_messages options table → of_entries ++ of_files ≡ []
      → outs ≡ outputs options table → shared ≡ path_messages outs → shared ≡ [] → files ≡ map out_file (by_key outs) → serial_link options table ≡ Ok files
  no_fault of_entries of_files outs shared files e f none is told none_too sorted =
      let own : path_messages (outputs options table) ≡ [] = sym (told ∙ ap path_messages is) ∙ none_too in
      ap (λ (ms : List Message). ended ms (path_messages (outputs options table)) (out_files options table)) (none_scanned of_entries of_files e f none)
      ∙ ap (λ (ms : List Message). ended [] ms (out_files options table)) own
      ∙ ap Ok (sym (sorted ∙ ap (λ (os : List (List ℕ × List ℕ)). map out_file (by_key os)) is))

-- ---- what a load adds

pub normal_messages : (l : Loaded) → load_messages (Some (normal_loaded l)) ≡ map normal_message (load_messages (Some l))
normal_messages (loaded.Copied contents) = refl
normal_messages (loaded.Refused message) = refl

pub normal_output : (path : List ℕ) (l : Loaded) → output_by path (Some (normal_loaded l)) ≡ output_by path (Some l)
normal_output path (loaded.Copied contents) = refl
normal_output path (loaded.Refused message) = refl

placed_messages : (cwd : List ℕ) (table : List (Question × Answer)) (l : Loaded) → IsPlacedLoad cwd table l → AllByRecursion (IsPlaced cwd table) (load_messages (Some l))
placed_messages cwd table (loaded.Copied contents) h = tt
placed_messages cwd table (loaded.Refused message) h = (h, tt)

pub more_messages : (ms : List Message) (l : Loaded) (given : Option Loaded) → given ≡ Some (normal_loaded l) → map normal_message (ms ++ load_messages (Some l)) ≡ map normal_message ms ++ load_messages given
more_messages ms l given e =
    map-append normal_message ms (load_messages (Some l)) ∙ ap (λ (ns : List Message). map normal_message ms ++ ns) (sym (normal_messages l))
    ∙ ap (λ (g : Option Loaded). map normal_message ms ++ load_messages g) (sym e)

pub more_placed : (cwd : List ℕ) (table : List (Question × Answer)) (ms : List Message) (l : Loaded) → IsPlacedLoad cwd table l → AllByRecursion (IsPlaced cwd table) ms → AllByRecursion (IsPlaced cwd table) (ms ++ load_messages (Some l))
more_placed cwd table ms l h all = all-append (IsPlaced cwd table) ms (load_messages (Some l)) all (placed_messages cwd table l h)
