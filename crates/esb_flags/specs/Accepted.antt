-- What a build that is accepted has.
use Rattle.std.specs.Prelude.{◌≡◌, ℕ, ◌≤◌, true, List, [], length, map, codes, Some, Ok}
use Rattle.std.specs.List.{IsDistinct}
use Rattle.std.specs.Str.{bytes_eq}
use Rattle.esb_flags.specs.declared.options.Options.{Options}
use Rattle.esb_wire.specs.declared.value.Value.{Value}
use Rattle.esb_flags.specs.Command.{is_absolute, most_entries}
use Rattle.esb_flags.specs.Flags.{read}
use Rattle.esb_flags.specs.Shapes.{text, list_of, required}

pub record IsAccepted (options : Options) : Type 0 where
  pub few : length options.entries ≤ most_entries
  pub differ : IsDistinct bytes_eq (map (λ entry. entry.1) options.entries)
  pub absolute : is_absolute options.cwd ≡ true
  pub alone : options.plugins ≡ []
  pub folder : (outdir : List ℕ) × (options.flags.outdir ≡ Some outdir)

-- The request's words ask for the flags of the options.
abbrev pub HasFlags : Value → Options → Type 0
HasFlags request options = (words : List (List ℕ)) × ((required (codes "flags") (list_of text) request ≡ Some words) × (read (length options.entries) words ≡ Ok options.flags))
