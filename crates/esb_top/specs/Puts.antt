-- What a piece of a session does to the files of its host.
use Rattle.std.specs.Prelude.{◌≡◌, ◌≢◌, ◌⊎◌, ◌≤◌, ℕ, List, [], ◌∷◌, ◌++◌, Option, Some}
use Rattle.esb_base.specs.Faults.{Rose}
use Rattle.esb_base.specs.declared.host.PutFault.{PutFault}
use Rattle.esb_base.specs.declared.host.PutFault.TheVariants as put_faults
use Rattle.esb_ask.specs.declared.outcome.OutFile.{OutFile}
use Rattle.esb_core.specs.declared.event.Event.{Event}
use Rattle.esb_sound.specs.Files.{HasPut, failed_puts}
use Rattle.esb_sound.specs.Told.{RoseBy}

-- the contents at each path
abbrev pub Files : Type 0
Files = List ℕ → Option (List ℕ)

-- a file was put, or is listed with its fault
pub record PutsOne (tells : Type 0) (was now : Files) (faults_old faults_new : ℕ) (file : OutFile) (listed_old listed_new : List (List ℕ × PutFault)) : Type 0 where
  pub others : tells → (path : List ℕ) → path ≢ file.path → now path ≡ was path
  pub here : ((listed_new ≡ listed_old) × (tells → now file.path ≡ Some file.contents)) ⊎ ((fault : PutFault) × (listed_new ≡ listed_old ++ (file.path, fault) ∷ []) × (fault ≡ put_faults.Failed → Rose faults_old faults_new))
  pub never_falls : faults_old ≤ faults_new

-- where the host had the files of the events before, it has those of the events since too, and it counted each put that it failed
pub record Puts (tells : Type 0) (was now : Files) (faults_old faults_new : ℕ) (old new : List Event) : Type 0 where
  pub files : tells → (start : Files) → HasPut start was old → HasPut start now new
  pub counted : (start : ℕ) → RoseBy (failed_puts old) start faults_old → RoseBy (failed_puts new) start faults_new
