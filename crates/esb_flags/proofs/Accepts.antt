-- What a build that is accepted has.
use Rattle.std.proofs.Common.{◌≡◌, ℕ, Bool, true, false, not, ◌&&◌, cond, List, [], ◌∷◌, length, map, Option, Some, None, Result, Ok, Err, refl, sym, ap, ◌∙◌, subst, true≢false}
use Rattle.std.specs.Prelude.{codes}
use Rattle.std.specs.List.{list_all}
use Rattle.std.specs.Option.{is_some}
use Rattle.std.proofs.lemmas.Bool.{and_parts, not-true, eqb-true, leb-true}
use Rattle.esb_base.specs.declared.flags.Flags.{Flags}
use Rattle.esb_wire.specs.declared.value.Value.{Value, out-Value}
use Rattle.esb_wire.specs.declared.value.Value.TheOpen.{Value-F}
use Rattle.esb_flags.specs.declared.command.Command.{Command}
use Rattle.esb_flags.specs.declared.command.Command.TheVariants as command
use Rattle.esb_flags.specs.declared.fault.FlagFault.{FlagFault}
use Rattle.esb_flags.specs.declared.fault.FlagFault.TheVariants as faults
use Rattle.esb_flags.specs.declared.fields.Fields.{Fields}
use Rattle.esb_flags.specs.declared.kind.Kind.TheVariants as kind
use Rattle.esb_flags.specs.declared.options.Options.{Options}
use Rattle.esb_flags.specs.declared.options.Plugin.{Plugin}
use Rattle.esb_flags.specs.Accepted.{IsAccepted, HasFlags}
use Rattle.esb_flags.specs.Command.{asked, node_asked, command_of, build_of, build_flags, or_refusal, if_built, options_of}
use Rattle.esb_flags.specs.Fields.{Answer, ◌>>=◌, needed, allowed, fields_of}
use Rattle.esb_flags.specs.Flags.{front, values_of, first_fault, flags_of, needs_outdir, if_placed, unless, read}
use Rattle.esb_flags.specs.Named.{NodeIsMap, IsMap}
use Rattle.esb_flags.specs.Shapes.{number, boolean, text, list_of, required, entry, plugins}
use Rattle.esb_flags.specs.Unbuilt.{is_folder, is_plain, all_differ, is_flag, is_placed, is_unsplit, is_built}
use Rattle.esb_flags.specs.Words.{behind}
use Rattle.esb_flags.proofs.Says.{Built, built, both, there, named, says}
use Rattle.esb_flags.proofs.Seen.{IsDistinct-from_test}

empty_list : {X : Type 0} (xs : List X) → length xs ≡ 0 → xs ≡ []
empty_list [] e = refl
empty_list (x ∷ xs) e = cc

-- what holds of the fields of a build that is taken
record Taken (fields : Fields) : Type 0 where
  alone : fields.plugins ≡ []
  differ : all_differ (map (λ entry. entry.1) fields.entries) ≡ true
  placed : list_all is_placed fields.flags ≡ true

taken : (fields : Fields) → is_built fields ≡ true → Taken fields
unfolding is_built
taken fields is =
    let a = and_parts _ (list_all is_unsplit fields.flags) is in
    let b = and_parts _ (list_all is_placed fields.flags) a.0 in
    let c = and_parts _ (all_differ (map (λ entry. entry.1) fields.entries)) b.0 in
    let d = and_parts _ (list_all is_plain fields.entries) c.0 in
    let e = and_parts _ (is_folder fields.cwd) d.0 in
    record {
      alone = empty_list fields.plugins (eqb-true _ _ e.0);
      differ = c.1;
      placed = b.1;
    }

-- ---- the folder of the outputs

none_from : (o : Option (List ℕ)) → is_some o ≡ false → o ≡ None
none_from None e = refl
none_from (Some x) e = cc

-- a word of a build that is taken is no path of an output
not_outfile : (word : List ℕ) → is_placed word ≡ true → behind (front kind.Outfile) word ≡ None
not_outfile word is =
    let a = and_parts (not (is_flag kind.Outfile word) && not (is_flag kind.EntryNames word)) _ is in
    let b = and_parts (not (is_flag kind.Outfile word)) _ a.0 in
    none_from (behind (front kind.Outfile) word) (not-true (is_flag kind.Outfile word) b.0)

no_outfile : (words : List (List ℕ)) → list_all is_placed words ≡ true → values_of (front kind.Outfile) words ≡ []
no_outfile [] is = refl
no_outfile (word ∷ words) is =
    let parts = and_parts (is_placed word) (list_all is_placed words) is in
    rw (not_outfile word parts.0) (no_outfile words parts.1)

outfile-flags : (words : List (List ℕ)) → list_all is_placed words ≡ true → (flags_of words).outfile ≡ None
unfolding flags_of
outfile-flags words placed = rw (no_outfile words placed) refl

needed_folder : (entries : ℕ) (flags : Flags) (outdir : Option (List ℕ)) → flags.outdir ≡ outdir → flags.outfile ≡ None → needs_outdir entries flags ≡ false → (folder : List ℕ) × (flags.outdir ≡ Some folder)
unfolding needs_outdir
needed_folder entries flags None is lacks needs = absurd (true≢false (rw (is, lacks) at needs))
needed_folder entries flags (Some folder) is lacks needs = (folder, is)

placed_folder : (entries : ℕ) (own flags : Flags) (b : Bool) → own.outfile ≡ None → needs_outdir entries own ≡ b → cond b (Err faults.NeedsOutdir) (Ok own) ≡ Ok flags → (folder : List ℕ) × (flags.outdir ≡ Some folder)
placed_folder entries own flags true lacks needs e = cc
placed_folder entries own flags false lacks needs e =
    let same : own ≡ flags = cc in
    subst (λ (f : Flags). (folder : List ℕ) × (f.outdir ≡ Some folder)) same (needed_folder entries own own.outdir refl lacks needs)

faultless : (fault : Option FlagFault) (placed : Result Flags FlagFault) (flags : Flags) → unless fault placed ≡ Ok flags → placed ≡ Ok flags
faultless None placed flags e = e
faultless (Some fault) placed flags e = cc

folder_there : (entries : ℕ) (words : List (List ℕ)) (flags : Flags) → list_all is_placed words ≡ true → read entries words ≡ Ok flags → (folder : List ℕ) × (flags.outdir ≡ Some folder)
unfolding read
folder_there entries words flags placed e =
    placed_folder entries (flags_of words) flags (needs_outdir entries (flags_of words)) (outfile-flags words placed) refl
    (faultless (first_fault [] words) (if_placed entries (flags_of words)) flags e)

-- ---- a build's fields

answered : (words : List (List ℕ)) (given : Result Flags FlagFault) (flags : Flags) → or_refusal words given ≡ Ok flags → given ≡ Ok flags
answered words (Ok own) flags e = let same : own ≡ flags = cc in ap Ok same
answered words (Err fault) flags e = cc

flags_read : (fields : Fields) (flags : Flags) → build_flags fields ≡ Ok flags → read (length fields.entries) fields.flags ≡ Ok flags
flags_read fields flags e = answered fields.flags (read (length fields.entries) fields.flags) flags e

-- the flags among a build's fields
flags_stay : (a : Answer ℕ) (entries : Answer (List (List ℕ × List ℕ))) (flags : Answer (List (List ℕ))) (cwd : Answer (List ℕ)) (write context : Answer Bool) (plugin_list : Answer (List Plugin)) (fields : Fields)
    → (do
      k ← a
      e ← entries
      f ← flags
      d ← cwd
      w ← write
      c ← context
      p ← plugin_list
      Ok (record { key = k; entries = e; flags = f; cwd = d; write = w; context = c; plugins = p })) ≡ Ok fields → flags ≡ Ok fields.flags
flags_stay (Err refusal) e f d w c p fields is = cc
flags_stay (Ok k) (Err refusal) f d w c p fields is = cc
flags_stay (Ok k) (Ok e) (Err refusal) d w c p fields is = cc
flags_stay (Ok k) (Ok e) (Ok f) (Err refusal) w c p fields is = cc
flags_stay (Ok k) (Ok e) (Ok f) (Ok d) (Err refusal) c p fields is = cc
flags_stay (Ok k) (Ok e) (Ok f) (Ok d) (Ok w) (Err refusal) p fields is = cc
flags_stay (Ok k) (Ok e) (Ok f) (Ok d) (Ok w) (Ok c) (Err refusal) fields is = cc
flags_stay (Ok k) (Ok e) (Ok f) (Ok d) (Ok w) (Ok c) (Ok p) fields is = ap (λ (a : Answer Fields). a >>= λ (x : Fields). Ok x.flags) is

flags_there : (request : Value) (fields : Fields) → fields_of request ≡ Ok fields → required (codes "flags") (list_of text) request ≡ Some fields.flags
unfolding fields_of
flags_there request fields e =
    there (codes "flags") (required (codes "flags") (list_of text) request) fields.flags
    (flags_stay (needed (codes "key") number request) (needed (codes "entries") (list_of entry) request) (needed (codes "flags") (list_of text) request) (needed (codes "absWorkingDir") text request)
    (needed (codes "write") boolean request) (needed (codes "context") boolean request) (allowed (codes "plugins") [] plugins request) fields e)

-- ---- a build that is accepted

accepted_fields : (key : ℕ) (options : Options) (request : Value) (fields : Fields) → required (codes "flags") (list_of text) request ≡ Some fields.flags → Built fields (command.Build key options) → IsAccepted options × HasFlags request options
accepted_fields key options request fields has b =
    let t = taken fields b.taken in
    let reads = flags_read fields b.flags b.asks in
    let same : options_of fields b.flags ≡ options = cc (b.is) in
    subst (λ (o : Options). IsAccepted o × HasFlags request o) same (
      record {
        few = leb-true _ _ b.few;
        differ = IsDistinct-from_test (map (λ entry. entry.1) fields.entries) t.differ;
        absolute = b.absolute;
        alone = t.alone;
        folder = folder_there (length fields.entries) fields.flags b.flags t.placed reads;
      },
      (fields.flags, (has, reads)),
    )

build_accepted : (key : ℕ) (options : Options) (request : Value) → build_of request ≡ Ok (command.Build key options) → IsAccepted options × HasFlags request options
unfolding build_of
build_accepted key options request e =
    let a = both (fields_of request) (λ fields. if_built fields (is_built fields)) (command.Build key options) e in
    accepted_fields key options request a.0 (flags_there request a.0 a.1.0) (built a.0 (command.Build key options) (is_built a.0) refl a.1.1)

node_map : (request : Value) (layer : Value-F Value) (c : Command) → node_asked request layer ≡ Ok c → NodeIsMap layer
node_map request (Value-F.Map pairs) c e = tt
node_map request layer c e = cc

asked_map : (request : Value) (c : Command) → asked request ≡ Ok c → IsMap request
unfolding asked
asked_map request c e = node_map request (out-Value request) c e

pub accepted : (request : Value) (key : ℕ) (options : Options) → asked request ≡ Ok (command.Build key options) → IsAccepted options × HasFlags request options
unfolding command_of
accepted request key options e =
    let said = says request (command.Build key options) e in
    build_accepted key options request (sym (named request (codes "build") (asked_map request (command.Build key options) e) said.0) ∙ e)
