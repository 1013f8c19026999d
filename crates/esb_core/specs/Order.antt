-- What holds of each state that events lead to: which builds are active.
use Rattle.std.specs.Prelude.{◌≡◌, ℕ, ◌<◌, true, false, nat_eq, List, length, None, Some, IsSome}
use Rattle.std.specs.Map.{lookup}
use Rattle.esb_ask.specs.declared.outcome.OutFile.{OutFile}
use Rattle.esb_ask.specs.declared.outcome.Outcome.TheVariants as outcome
use Rattle.esb_core.specs.State.{Building, State, build_at}
use Rattle.esb_core.specs.Steps.{active_of}

-- the build is the one of this key that isn't closed
pub record IsActive (s : State) (key n : ℕ) : Type 0 where
  pub begun : n < length s.builds
  pub unclosed : (build_at s.builds n).closed ≡ false
  pub its_key : (build_at s.builds n).key ≡ key

-- files that the build puts were put
abbrev pub IsPut : Building → Type 0
IsPut b = b.options.write ≡ true → (files : List OutFile) → b.outcome ≡ Some (outcome.Files files) → IsSome b.failed

-- the active build is settled, its files are put, and no worker writes them
pub record MayClose (s : State) (key n : ℕ) : Type 0 where
  pub active : IsActive s key n
  pub settled : IsSome (build_at s.builds n).outcome
  pub free : (build_at s.builds n).writer ≡ None
  pub put : IsPut (build_at s.builds n)

-- a build that isn't settled isn't closed, and nor is one whose files are being written, or are to be put and aren't yet
pub record IsSane (b : Building) : Type 0 where
  pub open_still : b.outcome ≡ None → b.closed ≡ false
  pub unwritten : b.outcome ≡ None → b.writer ≡ None
  pub writing : (worker : ℕ) → b.writer ≡ Some worker → b.closed ≡ false
  pub put : b.closed ≡ true → IsPut b

-- the builds that aren't closed are those that are known to be active, by the keys of contexts
pub record IsOrdered (s : State) : Type 0 where
  pub active : (key n : ℕ) → active_of s key ≡ Some n → IsActive s key n
  pub known : (n : ℕ) → n < length s.builds → (build_at s.builds n).closed ≡ false → active_of s (build_at s.builds n).key ≡ Some n
  pub inside : (key n : ℕ) → active_of s key ≡ Some n → IsSome (lookup (nat_eq key) s.contexts)
  pub sane : (n : ℕ) → IsSane (build_at s.builds n)
