-- What the turns of a session leave.
use Rattle.std.proofs.Common.{Some, ◌≡◌, ℕ, ◌+◌, ◌-◌, ◌≤◌, false, List, [], ◌∷◌, ◌++◌, inl, inr, refl, sym, ap, subst, ◌∙◌, arith}
use Rattle.std.proofs.Common.{Result, Ok, Err}
use Rattle.std.specs.Prelude.{IfOk}
use Rattle.std.specs.List.{flat_map}
use Rattle.esb_base.specs.World.{Folder}
use Rattle.esb_wire.specs.declared.value.Packet.{Packet}
use Rattle.esb_wire.specs.Written.{written_frame}
use Rattle.esb_wire.specs.Spelling.{frame}
use Rattle.esb_core.specs.declared.event.Event.{Event}
use Rattle.esb_core.specs.declared.event.Event.TheVariants as events
use Rattle.esb_core.specs.State.{State}
use Rattle.esb_core.specs.Steps.{after, moves}
use Rattle.esb_core.specs.History.{replay}
use Rattle.esb_sound.specs.Each.{Each-from}
use Rattle.esb_sound.specs.Likeness.{normal_event}
use Rattle.esb_sound.specs.Serial.{InTurn, IsInTurn, next}
use Rattle.esb_sound.specs.Sound.{IsSound}
use Rattle.esb_sound.specs.Sent.{arrivals, sent, sent_packets}
use Rattle.esb_sound.specs.Told.{AreTold, IsTold, RoseBy, faults}
use Rattle.esb_base.specs.Faults.{Rose}
use Rattle.esb_top.specs.declared.session.Ending.{Ending}
use Rattle.esb_top.specs.declared.session.Ending.TheVariants as endings
use Rattle.esb_top.specs.Input.{ArrivesOne, EndsBy, HasRead}
use Rattle.esb_top.specs.Output.{PopsOne, Wrote}
use Rattle.esb_top.specs.Entries.{Entries}
use Rattle.esb_top.specs.Puts.{Puts}
use Rattle.esb_top.specs.Serving.{Outside, Refused, Serving}
use Rattle.esb_top.specs.Work.{Goes, Worked}
use Rattle.esb_top.proofs.Files.{puts-refl, puts-trans}
use Rattle.esb_top.proofs.Histories.{list_end, each-push, all-push, arrivals-push, sent-push, faults-push, replay-push, all_moved-ended}

module _ (tells : Type 0) (world : List Folder) where
  pub goes-refl : (f : ℕ) (es : List Event) → Goes tells world f f es es
  goes-refl f es = record { sound = λ h. h; from_host = λ t h. h; in_turn = λ h. h; counted = λ start h. h; ended = refl }

  pub goes-trans : (a b c : ℕ) (es fs gs : List Event) → Goes tells world a b es fs → Goes tells world b c fs gs → Goes tells world a c es gs
  goes-trans a b c es fs gs v w = record {
    sound = λ h. w.sound (v.sound h);
    from_host = λ t h. w.from_host t (v.from_host t h);
    in_turn = λ h. w.in_turn (v.in_turn h);
    counted = λ start h. w.counted start (v.counted start h);
    ended = w.ended ∙ v.ended;
  }

  pub goes-worked : (a b : ℕ) (es fs : List Event) → Worked tells world a b es fs → Goes tells world a b es fs
  goes-worked a b es fs w = record { sound = w.sound; from_host = w.from_host; in_turn = w.in_turn; counted = w.counted; ended = w.ended }

  -- an event of the outside
  goes-push : (f : ℕ) (es fs : List Event) (e : Event) → fs ≡ es ++ e ∷ [] → IsSound es e → IsTold world e → (InTurn tells world es → InTurn tells world fs) → faults (es ++ e ∷ []) ≡ faults es → (after (replay es) e).ended ≡ (replay es).ended → Goes tells world f f es fs
  goes-push f es fs e is sound told turn none ended = subst (λ (ds : List Event). Goes tells world f f es ds) (sym is) record {
    sound = λ h. each-push IsSound es e h sound;
    from_host = λ t h. all-push (IsTold world) es e h told;
    in_turn = λ h. subst (λ (ds : List Event). InTurn tells world ds) is (turn h);
    counted = λ start h. subst (λ (k : ℕ). RoseBy k start f) (sym none) h;
    ended = ap (λ (s : State). s.ended) (replay-push es e) ∙ ended;
  }

  pub goes-pops : (f : ℕ) (es fs : List Event) → PopsOne es fs → (InTurn tells world es → InTurn tells world fs) → Goes tells world f f es fs
  goes-pops f es fs (inl is) turn = subst (λ (ds : List Event). Goes tells world f f es ds) (sym is) (goes-refl f es)
  goes-pops f es fs (inr is) turn = goes-push f es fs events.Pop is tt tt turn (faults-push es events.Pop ∙ omega arith) refl

  arrive-ended : (s : State) (p : Packet) → (after s (events.Arrive p)).ended ≡ s.ended
  arrive-ended s p = all_moved-ended s (moves s (events.Arrive p))

  pub goes-arrives : (f : ℕ) (es fs : List Event) → ArrivesOne es fs → (InTurn tells world es → InTurn tells world fs) → Goes tells world f f es fs
  goes-arrives f es fs (inl is) turn = subst (λ (ds : List Event). Goes tells world f f es ds) (sym is) (goes-refl f es)
  goes-arrives f es fs (inr h) turn = goes-push f es fs (events.Arrive h.0) h.1 tt tt turn (faults-push es (events.Arrive h.0) ∙ omega arith) (arrive-ended (replay es) h.0)

-- what is sent is the same where a packet arrives, and what arrived where one is sent
pub sent-arrives : (es fs : List Event) → ArrivesOne es fs → sent fs ≡ sent es
sent-arrives es fs (inl is) = ap sent is
sent-arrives es fs (inr h) = ap sent h.1 ∙ ap (λ (ps : List Packet). flat_map written_frame ps) (sent-push es (events.Arrive h.0) ∙ list_end (sent_packets es))

pub arrivals-pops : (es fs : List Event) → PopsOne es fs → arrivals fs ≡ arrivals es
arrivals-pops es fs (inl is) = ap arrivals is
arrivals-pops es fs (inr is) = ap arrivals is ∙ arrivals-push es events.Pop ∙ list_end (arrivals es)

pub sent-worked : (es fs : List Event) → sent_packets fs ≡ sent_packets es → sent fs ≡ sent es
sent-worked es fs is = ap (λ (ps : List Packet). flat_map written_frame ps) is

pub if_ok : {X E : Type 0} (r : Result X E) (P : X → Type 0) → ((x : X) → P x) → IfOk r P
if_ok (Ok x) P h = h x
if_ok (Err e) P h = tt

pub if_ok-map : {X E : Type 0} (r : Result X E) (P Q : X → Type 0) → ((x : X) → P x → Q x) → IfOk r P → IfOk r Q
if_ok-map (Ok x) P Q h p = h x p
if_ok-map (Err e) P Q h p = tt

-- the same of a world that is told as another
in-world : (tells : Type 0) (world other : List Folder) → (tells → world ≡ other) → (before es : List Event) → Each-from (IsInTurn tells world) before es → Each-from (IsInTurn tells other) before es
in-world tells world other same before [] all = tt
in-world tells world other same before (e ∷ es) all = (
  record {
    goes_on = all.0.goes_on;
    handles = all.0.handles;
    follows = λ t lapse packets arrives. subst (λ (w : List Folder). next w packets before ≡ Some (normal_event e)) (same t) (all.0.follows t lapse packets arrives);
  },
  in-world tells world other same (before ++ e ∷ []) es all.1,
)

-- ---- reads

pub read-refl : (gave reads : ℕ) → HasRead gave gave reads reads
read-refl gave reads = record { counted = λ few. omega arith; rises = omega arith; within = λ h. h }

pub read-trans : (a b c r s t : ℕ) → HasRead a b r s → HasRead b c s t → HasRead a c r t
read-trans a b c r s t v w = record {
  counted = λ few.
      let first : b ≡ a + (s - r) = v.counted (omega (arith, few, v.rises, w.rises)) in
      let second : c ≡ b + (t - s) = w.counted (omega (arith, few, first, v.rises, w.rises)) in
      omega (arith, first, second, v.rises, w.rises);
  rises = omega (arith, v.rises, w.rises);
  within = λ h. w.within (v.within h);
}

-- a turn that memory was refused
pub record RefusedNow (ht kt : Type 0) (was now : Outside) (old new : Entries) : Type 0 where
  pub goes : Goes ht was.world was.host_faults now.host_faults old.events new.events
  pub room : old.promised ≤ new.promised
  pub wrote : (before front : List ℕ) → Wrote kt before was.holds (front ++ sent old.events) was.whole → Wrote kt before now.holds (front ++ sent new.events) false
  pub sink_falls : was.sink_faults ≤ now.sink_faults
  pub source_falls : was.source_faults ≤ now.source_faults
  pub arrived : arrivals new.events ≡ arrivals old.events
  pub puts : Puts ht was.puts now.puts was.put_faults now.put_faults old.events new.events

module _ (ht kt st : Type 0) where
  pub serving-refl : (was : Outside) (old : Entries) → Serving ht kt st was was old old
  serving-refl was old = record {
    goes = goes-refl ht was.world was.host_faults old.events;
    world = λ t. refl;
    puts = puts-refl ht was.puts was.put_faults old.events;
    room = omega arith;
    wrote = λ before front w. w;
    failed = λ start le f. f;
    sink_falls = omega arith;
    source_falls = omega arith;
    stream = λ all r. r;
  }

  along : (world world' : List Folder) (a b : ℕ) (es fs : List Event) → (ht → world' ≡ world) → Goes ht world' a b es fs → Goes ht world a b es fs
  along world world' a b es fs same g = record {
    sound = g.sound;
    in_turn = λ h. in-world ht world' world same [] fs (g.in_turn (in-world ht world world' (λ t. sym (same t)) [] es h));
    from_host = λ t h. subst (λ (w : List Folder). AreTold w fs) (same t) (g.from_host t (subst (λ (w : List Folder). AreTold w es) (sym (same t)) h));
    counted = g.counted;
    ended = g.ended;
  }

  pub serving-trans : (was mid now : Outside) (old between new : Entries) → Serving ht kt st was mid old between → Serving ht kt st mid now between new → Serving ht kt st was now old new
  serving-trans was mid now old between new v w = record {
    goes = goes-trans ht was.world was.host_faults mid.host_faults now.host_faults old.events between.events new.events v.goes (along was.world mid.world mid.host_faults now.host_faults between.events new.events v.world w.goes);
    world = λ t. w.world t ∙ v.world t;
    puts = puts-trans ht was.puts mid.puts now.puts was.put_faults mid.put_faults now.put_faults old.events between.events new.events v.puts w.puts;
    room = let a = v.room in let b = w.room in omega arith;
    wrote = λ before front h. w.wrote before front (v.wrote before front h);
    failed = λ start le f. w.failed start (let a = v.sink_falls in omega (arith, le)) (v.failed start le f);
    sink_falls = let a = v.sink_falls in let b = w.sink_falls in omega arith;
    source_falls = let a = v.source_falls in let b = w.source_falls in omega arith;
    stream = λ all r. w.stream all (v.stream all r);
  }

  pub refused-trans : (was mid now : Outside) (old between new : Entries) (reads_old reads_new : ℕ) → Serving ht kt st was mid old between → HasRead was.gave mid.gave 0 reads_old → HasRead mid.gave now.gave reads_old reads_new
      → RefusedNow ht kt mid now between new → Refused ht kt st was now old new
  refused-trans was mid now old between new reads_old reads_new v r r' w = record {
    puts = puts-trans ht was.puts mid.puts now.puts was.put_faults mid.put_faults now.put_faults old.events between.events new.events v.puts w.puts;
    stream = λ all r t. record { rest = mid.unread; parts = v.stream all r t ∙ ap (λ (ps : List Packet). flat_map frame ps ++ mid.unread) (sym w.arrived) };
    reads = reads_new;
    read = read-trans was.gave mid.gave now.gave 0 reads_old reads_new r r';
    goes = goes-trans ht was.world was.host_faults mid.host_faults now.host_faults old.events between.events new.events v.goes (along was.world mid.world mid.host_faults now.host_faults between.events new.events v.world w.goes);
    room = let a = v.room in let b = w.room in omega arith;
    wrote = λ before front h. w.wrote before front (v.wrote before front h);
    sink_falls = let a = v.sink_falls in let b = w.sink_falls in omega arith;
    source_falls = let a = v.source_falls in let b = w.source_falls in omega arith;
  }

rose-earlier : (was mid now : ℕ) → was ≤ mid → Rose mid now → Rose was now
rose-earlier was mid now le (inl more) = inl (omega arith)
rose-earlier was mid now le (inr most) = inr most

-- a cause since a later moment is one since an earlier
pub ends-earlier : (tells : Type 0) (was mid now : ℕ) (unread held : List ℕ) (reads : ℕ) (ending : Ending) → was ≤ mid → EndsBy tells (Rose mid now) unread held reads ending → EndsBy tells (Rose was now) unread held reads ending
ends-earlier tells was mid now unread held reads endings.Done le h = h
ends-earlier tells was mid now unread held reads (endings.Malformed place) le h = h
ends-earlier tells was mid now unread held reads endings.ReadFault le h = (rose-earlier was mid now le h.0, h.1)
ends-earlier tells was mid now unread held reads endings.Budget le h = h
