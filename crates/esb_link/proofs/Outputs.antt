-- The files of a build ascend by their paths, and each entry has its own, with the contents that were read.
use Rattle.std.proofs.Common.{◌≡◌, ◌≢◌, ℕ, zero, suc, ◌<◌, Bool, true, false, List, [], ◌∷◌, ◌++◌, length, map, Option, None, Some, Ok, Contains, slice_get, slice_index_or, refl, sym, ap, subst, ◌∙◌, true≢false, arith}
use Rattle.std.specs.Cmp.Lexicographic.{slice_cmp}
use Rattle.std.specs.List.{AllByRecursion, flat_map}
use Rattle.std.specs.List.Sorted.{IsStrictlySortedBy}
use Rattle.std.specs.Ordering.{nat_cmp}
use Rattle.std.proofs.lemmas.List.{get_or-map, length-map}
use Rattle.std.proofs.lemmas.List.Elements.{Contains-append_left, Contains-append_right}
use Rattle.std.proofs.lemmas.Option.{slice_get_within}
use Rattle.esb_base.specs.declared.file_name.FileName.{FileName}
use Rattle.esb_base.specs.declared.flags.Loader.{Loader}
use Rattle.esb_base.specs.declared.flags.Loader.TheVariants as loader
use Rattle.esb_flags.specs.declared.options.Options.{Options}
use Rattle.esb_ask.specs.declared.question.Question.{Question}
use Rattle.esb_ask.specs.declared.question.Question.TheVariants as question
use Rattle.esb_ask.specs.declared.answer.Answer.{Answer}
use Rattle.esb_ask.specs.declared.answer.Answer.TheVariants as answer
use Rattle.esb_ask.specs.declared.message.Message.{Message}
use Rattle.esb_ask.specs.declared.outcome.OutFile.{OutFile}
use Rattle.esb_ask.specs.declared.product.Product.{Product}
use Rattle.esb_ask.specs.declared.product.Product.TheVariants as product
use Rattle.esb_ask.specs.declared.product.Resolved.{Resolved}
use Rattle.esb_ask.specs.declared.product.Resolved.TheVariants as resolved
use Rattle.esb_ask.specs.declared.product.Loaded.{Loaded}
use Rattle.esb_ask.specs.declared.product.Loaded.TheVariants as loaded
use Rattle.esb_ask.specs.Table.{answer_to}
use Rattle.esb_wire.specs.Written.{by_key}
use Rattle.esb_wire.proofs.Ordered.{by_key_ascends}
use Rattle.esb_scan.specs.declared.run.Run.{Run}
use Rattle.esb_scan.specs.declared.run.Run.TheVariants as run_of
use Rattle.esb_scan.specs.Loaders.{loader_of}
use Rattle.esb_scan.specs.Run.{ask_or, entry_path, system_file, resolved_by, read_by, loaded_by, run_numbered, run_entry, run_load, is_done}
use Rattle.esb_link.specs.SerialLink.{IsComplete, IsEntryComplete, resolved_in, resolution, loaded_in, load_of, found_messages, load_messages, entry_messages, file_messages, out_path, output_by, output_of, outputs, out_file, out_files, path_messages, ended, serial_link, path_of}
use Rattle.esb_link.proofs.Kept.{each_kept, each_output, none_shared}

-- ---- in order

abbrev key : List ℕ × List ℕ → List ℕ
key pair = pair.0

paths : (pairs : List (List ℕ × List ℕ)) → map path_of (map out_file pairs) ≡ map key pairs
paths [] = refl
paths (x ∷ xs) = ap (λ (ps : List (List ℕ)). x.0 ∷ ps) (paths xs)

pub out_files_ascend : (options : Options) (table : List (Question × Answer)) → IsStrictlySortedBy (slice_cmp nat_cmp) (map path_of (out_files options table))
out_files_ascend options table =
    subst (λ (ps : List (List ℕ)). IsStrictlySortedBy (slice_cmp nat_cmp) ps) (sym (paths (by_key (outputs options table)))) (by_key_ascends (outputs options table))

-- ---- lists

contains_at : {X Y : Type 0} (f : X → List Y) (xs : List X) (i : ℕ) (x : X) (y : Y) → slice_get xs i ≡ Some x → Contains (f x) y → Contains (flat_map f xs) y
contains_at f [] i x y e h = absurd cc
contains_at f (z ∷ zs) zero x y e h =
    let same : x ≡ z = cc in
    Contains-append_left (f z) (flat_map f zs) y (subst (λ w. Contains (f w) y) same h)
contains_at f (z ∷ zs) (suc i) x y e h = Contains-append_right (f z) (flat_map f zs) y (contains_at f zs i x y e h)

contains_map : {X Y : Type 0} (f : X → Y) (xs : List X) (x : X) → Contains xs x → Contains (map f xs) (f x)
contains_map f xs x h = (h.0, omega (arith, length-map xs f, h.1), get_or-map f xs h.0 x (f x) h.1 ∙ ap f h.2)

-- what stands in a list has what all in it have
all_has : {X : Type 0} (P : X → Type 0) (xs : List X) (x : X) → AllByRecursion P xs → Contains xs x → P x
all_has P xs x all h = by xs h.0 all h.1 h.2
  where
    by : (ys : List _) (i : ℕ) → AllByRecursion P ys → i < length ys → slice_index_or ys i x ≡ x → P x
    by [] i all lt e = absurd (omega arith)
    by (y ∷ ys) zero all lt e = subst P e all.0
    by (y ∷ ys) (suc i) all lt e = by ys i all.1 (omega arith) e

-- an element that stands in a list stands at some place
place_of : {X : Type 0} (xs : List X) (x : X) → Contains xs x → (i : ℕ) × (slice_get xs i ≡ Some x)
place_of xs x h = by xs h.0 h.1 h.2
  where
    by : (ys : List _) (i : ℕ) → i < length ys → slice_index_or ys i x ≡ x → (j : ℕ) × (slice_get ys j ≡ Some x)
    by [] i lt e = absurd (omega arith)
    by (y ∷ ys) zero lt e = (0, ap Some e)
    by (y ∷ ys) (suc i) lt e = let rest = by ys i (omega arith) e in (suc rest.0, rest.1)

-- what a mapped list has is made of what the list has
from_map : {X Y : Type 0} (f : X → Y) (xs : List X) (y : Y) → Contains (map f xs) y → (x : X) × Contains xs x × (y ≡ f x)
from_map f xs y h = let at = place_of (map f xs) y h in by xs at.0 at.1
  where
    by : (ys : List _) (i : ℕ) → slice_get (map f ys) i ≡ Some y → (x : _) × Contains ys x × (y ≡ f x)
    by [] i e = absurd cc
    by (x ∷ xs) zero e = let same : f x ≡ y = cc in (x, (0, omega arith, refl), sym same)
    by (x ∷ xs) (suc i) e = let rest = by xs i e in (rest.0, (suc rest.1.0, omega (arith, rest.1.1), rest.1.2), rest.2)

nil_parts : {X : Type 0} (xs ys : List X) → xs ++ ys ≡ [] → (xs ≡ []) × (ys ≡ [])
nil_parts [] ys e = (refl, e)
nil_parts (x ∷ xs) ys e = absurd cc

part_of : {X Y : Type 0} (f : X → List Y) (xs : List X) (i : ℕ) (x : X) → slice_get xs i ≡ Some x → flat_map f xs ≡ [] → f x ≡ []
part_of f [] i x e none = absurd cc
part_of f (y ∷ ys) zero x e none =
    let same : y ≡ x = cc in
    ap f (sym same) ∙ (nil_parts (f y) (flat_map f ys) none).0
part_of f (y ∷ ys) (suc i) x e none = part_of f ys i x e (nil_parts (f y) (flat_map f ys) none).1

-- ---- a build that ends with files

pub record EndsWell (scanned shared : List Message) (own files : List OutFile) : Type 0 where
  pub none_scanned : scanned ≡ []
  pub none_shared : shared ≡ []
  pub same : own ≡ files

ended_ok : (scanned shared : List Message) (own files : List OutFile) → ended scanned shared own ≡ Ok files → EndsWell scanned shared own files
ended_ok [] [] own files e = record { none_scanned = refl; none_shared = refl; same = cc }
ended_ok [] (m ∷ ms) own files e = absurd cc
ended_ok (m ∷ ms) shared own files e = absurd cc

module _ (options : Options) (table : List (Question × Answer)) (files : List OutFile) (e : serial_link options table ≡ Ok files) where
  end : EndsWell (entry_messages options table ++ file_messages options table) (path_messages (outputs options table)) (out_files options table) files
  end = ended_ok (entry_messages options table ++ file_messages options table) (path_messages (outputs options table)) (out_files options table) files e

  pub output_is : (output : List ℕ × List ℕ) → Contains (outputs options table) output → Contains files (out_file output)
  output_is output h =
      let at = place_of (outputs options table) output h in
      subst (λ (fs : List OutFile). Contains fs (out_file output)) end.same
      (contains_map out_file (by_key (outputs options table)) output (each_kept (outputs options table) at.0 output at.1 (none_shared (outputs options table) end.none_shared)))

  pub file_is : (file : OutFile) → Contains files file → (output : List ℕ × List ℕ) × Contains (outputs options table) output × (file ≡ out_file output)
  file_is file h =
      let made = from_map out_file (by_key (outputs options table)) file (subst (λ (fs : List OutFile). Contains fs file) (sym end.same) h) in
      (made.0, all_has (Contains (outputs options table)) (by_key (outputs options table)) made.0 (each_output (outputs options table)) made.1, made.2)

-- ---- the output of an entry

module _ (options : Options) (table : List (Question × Answer)) where
  abbrev path : List ℕ × List ℕ → List ℕ
  path entry = entry_path options entry

  abbrev own_file : List ℕ × List ℕ → FileName
  own_file entry = system_file (path entry)

  abbrev own_path : List ℕ × List ℕ → List ℕ
  own_path entry = out_path options entry (own_file entry)

  abbrev entry_by : List ℕ × List ℕ → Answer → Product
  entry_by entry first = product.Entry (resolved_by (path entry) entry.1 first)

  abbrev load_by : List ℕ × List ℕ → Answer → Product
  load_by entry first = product.Load (loaded_by options (own_file entry) first)

  abbrev outputs_at : List ℕ × List ℕ → List (List ℕ × List ℕ)
  outputs_at entry = output_of options table entry (resolution options table entry)

  -- an entry that leads to a file whose load gives contents has the output of these
  found : (entry : List ℕ × List ℕ) (contents : List ℕ) → answer_to table (question.Kind (path entry)) ≡ Some answer.File → loaded_in (run_load options table (own_file entry)) ≡ Some (loaded.Copied contents)
      → outputs_at entry ≡ (own_path entry, contents) ∷ []
  found entry contents kind load =
      ap (λ (r : Option Answer). output_of options table entry (resolved_in (ask_or r (question.Kind (path entry)) (entry_by entry)))) kind
      ∙ ap (λ (l : Option Loaded). output_by (own_path entry) l) load

  there : (number : ℕ) (entry : List ℕ × List ℕ) (contents : List ℕ) → slice_get options.entries number ≡ Some entry → outputs_at entry ≡ (own_path entry, contents) ∷ [] → Contains (outputs options table) (own_path entry, contents)
  there number entry contents at is =
      contains_at outputs_at options.entries number entry (own_path entry, contents) at
      (subst (λ (os : List (List ℕ × List ℕ)). Contains os (own_path entry, contents)) (sym is) (0, omega arith, refl))

  -- a copied file has the contents that were read
  pub copied_there : (number : ℕ) (entry : List ℕ × List ℕ) (contents : List ℕ) → slice_get options.entries number ≡ Some entry
      → answer_to table (question.Kind (path entry)) ≡ Some answer.File → answer_to table (question.Read (path entry)) ≡ Some (answer.Bytes contents) → loader_of options.flags (path entry) ≡ Some loader.Copy
      → Contains (outputs options table) (own_path entry, contents)
  copied_there number entry contents at kind read copies =
      there number entry contents at
      (found entry contents kind
      (ap (λ (r : Option Answer). loaded_in (ask_or r (question.Read (path entry)) (load_by entry))) read
      ∙ ap (λ (l : Option Loader). Some (read_by options (own_file entry) contents l)) copies))

  -- a load without a message gives contents
  load_given : (entry : List ℕ × List ℕ) (r : Option Answer) → is_done (ask_or r (question.Read (path entry)) (load_by entry)) ≡ true → load_messages (loaded_in (ask_or r (question.Read (path entry)) (load_by entry))) ≡ []
      → (contents : List ℕ) × (loaded_in (ask_or r (question.Read (path entry)) (load_by entry)) ≡ Some (loaded.Copied contents))
  load_given entry None done none = absurd (true≢false (sym done))
  load_given entry (Some first) done none = by (loaded_by options (own_file entry) first) none
    where
      by : (l : Loaded) → load_messages (Some l) ≡ [] → (contents : List ℕ) × (Some l ≡ Some (loaded.Copied contents))
      by (loaded.Copied contents) h = (contents, refl)
      by (loaded.Refused message) h = absurd cc

  -- an entry without messages has an output
  entry_given : (entry : List ℕ × List ℕ) (r : Option Answer) → answer_to table (question.Kind (path entry)) ≡ r → is_done (ask_or r (question.Kind (path entry)) (entry_by entry)) ≡ true
      → ((name : FileName) (marked : Bool) → ask_or r (question.Kind (path entry)) (entry_by entry) ≡ run_of.Done (product.Entry (resolved.To name marked)) → is_done (run_load options table name) ≡ true)
      → found_messages (resolved_in (ask_or r (question.Kind (path entry)) (entry_by entry))) ≡ [] → load_messages (load_of options table (resolved_in (ask_or r (question.Kind (path entry)) (entry_by entry)))) ≡ []
      → (contents : List ℕ) × (outputs_at entry ≡ (own_path entry, contents) ∷ [])
  entry_given entry None kind done loads none none_too = absurd (true≢false (sym done))
  entry_given entry (Some answer.File) kind done loads none none_too =
      let given = load_given entry (answer_to table (question.Read (path entry))) (loads (own_file entry) false refl) none_too in
      (given.0, found entry given.0 kind given.1)
  entry_given entry (Some answer.Folder) kind done loads none none_too = absurd cc
  entry_given entry (Some answer.Missing) kind done loads none none_too = absurd cc
  entry_given entry (Some answer.TooBig) kind done loads none none_too = absurd cc
  entry_given entry (Some answer.Fault) kind done loads none none_too = absurd cc
  entry_given entry (Some (answer.Bytes contents)) kind done loads none none_too = absurd cc

  complete_at : (i : ℕ) (entry : List ℕ × List ℕ) → IsComplete options table → slice_get options.entries i ≡ Some entry → IsEntryComplete options table entry
  complete_at i entry complete e = record {
    entry_done = subst (λ (o : Option (List ℕ × List ℕ)). is_done (run_numbered options table o) ≡ true) e (complete.entries i (slice_get_within options.entries i entry e));
    load_done = λ name marked h. complete.loads i name marked (ap (λ (o : Option (List ℕ × List ℕ)). run_numbered options table o) e ∙ h);
  }

  -- each entry of a build without messages has an output
  pub one_there : IsComplete options table → entry_messages options table ≡ [] → file_messages options table ≡ [] → (number : ℕ) (entry : List ℕ × List ℕ) → slice_get options.entries number ≡ Some entry
      → (contents : List ℕ) × Contains (outputs options table) (own_path entry, contents)
  one_there complete none none_too number entry at =
      let own = complete_at number entry complete at in
      let given =
      entry_given entry (answer_to table (question.Kind (path entry))) refl own.entry_done own.load_done
      (part_of (λ (e : List ℕ × List ℕ). found_messages (resolution options table e)) options.entries number entry at none)
      (part_of (λ (e : List ℕ × List ℕ). load_messages (load_of options table (resolution options table e))) options.entries number entry at none_too) in
      (given.0, there number entry given.0 at given.1)

-- each entry has its file
pub one_file : (options : Options) (table : List (Question × Answer)) (files : List OutFile) → IsComplete options table → serial_link options table ≡ Ok files → (number : ℕ) (entry : List ℕ × List ℕ)
    → slice_get options.entries number ≡ Some entry → (contents : List ℕ) × Contains files (out_file (out_path options entry (system_file (entry_path options entry)), contents))
one_file options table files complete e number entry at =
    let parts = nil_parts (entry_messages options table) (file_messages options table) (end options table files e).none_scanned in
    let given = one_there options table complete parts.0 parts.1 number entry at in
    (given.0, output_is options table files e (out_path options entry (system_file (entry_path options entry)), given.0) given.1)

pub copied_file : (options : Options) (table : List (Question × Answer)) (files : List OutFile) → serial_link options table ≡ Ok files → (number : ℕ) (entry : List ℕ × List ℕ) (contents : List ℕ)
    → slice_get options.entries number ≡ Some entry → answer_to table (question.Kind (entry_path options entry)) ≡ Some answer.File → answer_to table (question.Read (entry_path options entry)) ≡ Some (answer.Bytes contents)
    → loader_of options.flags (entry_path options entry) ≡ Some loader.Copy → Contains files (out_file (out_path options entry (system_file (entry_path options entry)), contents))
copied_file options table files e number entry contents at kind read copies =
    output_is options table files e (out_path options entry (system_file (entry_path options entry)), contents) (copied_there options table number entry contents at kind read copies)

-- the files of a build without messages
pub files_are : (options : Options) (table : List (Question × Answer)) (files : List OutFile) → serial_link options table ≡ Ok files → out_files options table ≡ files
files_are options table files e = (end options table files e).same
