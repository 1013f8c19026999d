-- What a sink got of the bytes that were to be sent.
use Rattle.std.specs.Prelude.{◌≡◌, ◌⊎◌, ◌∷◌, ℕ, Bool, true, false, List, [], ◌++◌}
use Rattle.esb_base.specs.Faults.{Rose}
use Rattle.esb_wire.specs.declared.value.Packet.{Packet}
use Rattle.esb_core.specs.declared.out.Out.{Out}
use Rattle.esb_core.specs.declared.out.Out.TheVariants as outs
use Rattle.esb_core.specs.declared.out.Body.{Body}
use Rattle.esb_core.specs.declared.out.Body.TheVariants as bodies
use Rattle.esb_core.specs.declared.event.Event.{Event}
use Rattle.esb_core.specs.declared.event.Event.TheVariants as events
use Rattle.esb_core.specs.State.{Building, build_at}
use Rattle.esb_reply.specs.Reply.{packet_for}
use Rattle.std.specs.Prelude.{None}

-- The sink holds, after what it held before, the first of the bytes, and where no write failed all of them.
pub record IsWritten (before now bytes : List ℕ) (whole : Bool) : Type 0 where
  pub written : List ℕ
  pub left : List ℕ
  pub parts : bytes ≡ written ++ left
  pub holds : now ≡ before ++ written
  pub all : whole ≡ true → left ≡ []

-- the same where the sink tells what it holds
abbrev pub Wrote : Type 0 → List ℕ → List ℕ → List ℕ → Bool → Type 0
Wrote tells before now bytes whole = tells → IsWritten before now bytes whole

-- a write failed, since a count stood here
abbrev pub FailedSince : ℕ → ℕ → Bool → Type 0
FailedSince start now whole = whole ≡ false → Rose start now

-- bytes were written, unless a write failed
pub record IsPut (tells : Type 0) (holds_old holds_new : List ℕ) (faults_old faults_new : ℕ) (bytes : List ℕ) : Type 0 where
  pub whole : Bool
  pub wrote : Wrote tells holds_old holds_new bytes whole
  pub failed : FailedSince faults_old faults_new whole

-- the packet of what is owed, by the builds
abbrev pub packet_in_body : List Building → ℕ → Body → Packet
packet_in_body builds id (bodies.Result n) = packet_for (outs.Reply id (bodies.Result n)) (build_at builds n).options.write (build_at builds n).outcome (build_at builds n).failed
packet_in_body builds id bodies.Empty = packet_for (outs.Reply id bodies.Empty) false None None
packet_in_body builds id (bodies.Error text) = packet_for (outs.Reply id (bodies.Error text)) false None None
packet_in_body builds id (bodies.Closed n) = packet_for (outs.Reply id (bodies.Closed n)) false None None

abbrev pub packet_in : List Building → Out → Packet
packet_in builds (outs.Reply id body) = packet_in_body builds id body

-- at most the first that is owed was taken off
abbrev pub PopsOne : List Event → List Event → Type 0
PopsOne old new = (new ≡ old) ⊎ (new ≡ old ++ events.Pop ∷ [])
