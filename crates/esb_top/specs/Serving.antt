-- A session on one thread, from its begin.
use Rattle.std.specs.Prelude.{◌≡◌, ℕ, ◌≤◌, Bool, false, List, ◌++◌}
use Rattle.std.specs.List.{flat_map}
use Rattle.esb_wire.specs.Spelling.{frame}
use Rattle.esb_base.specs.Faults.{Rose}
use Rattle.esb_base.specs.World.{Folder}
use Rattle.esb_sound.specs.Sent.{arrivals, sent}
use Rattle.esb_top.specs.declared.session.Ending.{Ending}
use Rattle.esb_top.specs.Entries.{Entries}
use Rattle.esb_top.specs.Input.{Begins, EndsBy, HasRead, IsAt, IsRead, arrived_bytes}
use Rattle.esb_top.specs.Output.{FailedSince, Wrote}
use Rattle.esb_top.specs.Puts.{Files, Puts}
use Rattle.esb_top.specs.Turn.{IsAtRest}
use Rattle.esb_top.specs.Work.{Goes}

-- what a host, a sink and a source have at a moment
pub record Outside : Type 0 where
  pub world : List Folder
  pub host_faults : ℕ
  pub puts : Files
  pub put_faults : ℕ
  pub holds : List ℕ
  pub sink_faults : ℕ
  pub whole : Bool
  pub unread : List ℕ
  pub source_faults : ℕ
  -- the reads of the source that gave a byte
  pub gave : ℕ

-- a session goes on: what it recorded, sent and read so far
pub record Serving (host_tells sink_tells source_tells : Type 0) (was now : Outside) (old new : Entries) : Type 0 where
  pub goes : Goes host_tells was.world was.host_faults now.host_faults old.events new.events
  pub world : host_tells → now.world ≡ was.world
  pub puts : Puts host_tells was.puts now.puts was.put_faults now.put_faults old.events new.events
  pub room : old.promised ≤ new.promised
  pub wrote : (before front : List ℕ) → Wrote sink_tells before was.holds (front ++ sent old.events) was.whole → Wrote sink_tells before now.holds (front ++ sent new.events) now.whole
  pub failed : (start : ℕ) → start ≤ was.sink_faults → FailedSince start was.sink_faults was.whole → FailedSince start now.sink_faults now.whole
  pub sink_falls : was.sink_faults ≤ now.sink_faults
  pub source_falls : was.source_faults ≤ now.source_faults
  pub stream : (all : List ℕ) → IsRead source_tells all old.events was.unread → IsRead source_tells all new.events now.unread

-- a session that ended because memory was refused before a claim
pub record Refused (host_tells sink_tells source_tells : Type 0) (was now : Outside) (old new : Entries) : Type 0 where
  pub goes : Goes host_tells was.world was.host_faults now.host_faults old.events new.events
  pub room : old.promised ≤ new.promised
  pub wrote : (before front : List ℕ) → Wrote sink_tells before was.holds (front ++ sent old.events) was.whole → Wrote sink_tells before now.holds (front ++ sent new.events) false
  pub sink_falls : was.sink_faults ≤ now.sink_faults
  pub source_falls : was.source_faults ≤ now.source_faults
  pub puts : Puts host_tells was.puts now.puts was.put_faults now.put_faults old.events new.events
  pub stream : (all : List ℕ) → IsRead source_tells all old.events was.unread → source_tells → Begins all (flat_map frame (arrivals new.events))
  pub reads : ℕ
  pub read : HasRead was.gave now.gave 0 reads

-- a session whose input was read to an ending
pub record Ends (host_tells sink_tells source_tells : Type 0) (was now : Outside) (old new : Entries) (ending : Ending) : Type 0 where
  -- what was not handed out as a packet
  pub held : List ℕ
  pub reads : ℕ
  pub serving : Serving host_tells sink_tells source_tells was (record now { unread = held ++ now.unread }) old new
  pub ends : EndsBy source_tells (Rose was.source_faults now.source_faults) (held ++ now.unread) held reads ending
  pub read : HasRead was.gave now.gave 0 reads
  pub rests : IsAtRest new.events
  pub at : IsAt (arrived_bytes new.events) ending
