-- A session is as promised.
use Rattle.std.proofs.Common.{◌≡◌, ◌⊎◌, ℕ, ◌<◌, ◌≤◌, cond, Option, None, Some, Bool, true, false, List, [], ◌∷◌, ◌++◌, inl, inr, refl, sym, ap, subst, ◌∙◌, arith}
use Rattle.std.specs.List.{flat_map, list_any}
use Rattle.std.proofs.lemmas.Bool.{false≢true}
use Rattle.std.proofs.lemmas.List.Sums.{sum_by-append}
use Rattle.esb_ask.specs.declared.outcome.Outcome.{Outcome}
use Rattle.esb_core.specs.Moves.{Move}
use Rattle.esb_core.specs.State.{State, start}
use Rattle.esb_core.proofs.Laws.{reads-legal}
use Rattle.esb_core.proofs.Moving.{moves-push}
use Rattle.esb_sound.proofs.Hands.{in-turn-done}
use Rattle.esb_sound.proofs.Writers.{in-turn-closed}
use Rattle.esb_sound.proofs.Outcomes.{ends-right}
use Rattle.esb_core.proofs.Claims.{both_parts}
use Rattle.esb_core.proofs.Replays.{is_legal_from-append}
use Rattle.std.specs.Prelude.{Result, Ok, Err, IfOk, IsSome, OnErr, length}
use Rattle.esb_base.specs.Faults.{Rose}
use Rattle.esb_base.specs.declared.memory.Memory.{Memory}
use Rattle.esb_wire.specs.declared.value.Packet.{Packet}
use Rattle.esb_wire.specs.Spelling.{frame}
use Rattle.esb_wire.specs.Stream.{BeginsWithNone}
use Rattle.esb_wire.specs.Written.{written_frame}
use Rattle.esb_core.specs.declared.event.Event.{Event}
use Rattle.esb_core.specs.declared.event.Event.TheVariants as events
use Rattle.esb_core.specs.History.{Begun, builds, builds_in, closed, closed_in, is_legal, is_legal_from, moves_in, outcome, outcome_in, owed, replay}
use Rattle.esb_sound.specs.Files.{Fits, HasPut, failed_puts, fate}
use Rattle.esb_sound.specs.Sound.{Sound, IsSound}
use Rattle.esb_sound.specs.Sent.{arrivals, sent, sent_packets}
use Rattle.esb_sound.specs.Told.{AreTold, IsTold, RoseBy, faults}
use Rattle.esb_top.specs.declared.session.Ending.{Ending}
use Rattle.esb_top.specs.declared.session.Ending.TheVariants as endings
use Rattle.esb_top.specs.Entries.{Entries}
use Rattle.esb_wire.specs.Budget.{budget}
use Rattle.esb_wire.specs.Stream.{Counts}
use Rattle.esb_sound.specs.Serial.{InTurn, IsSerial, input_step, is_lapse, is_refused, lapses}
use Rattle.esb_sound.proofs.Serial.{all-follow, get-past}
use Rattle.esb_wire.specs.declared.reader.Stop.TheVariants as stops
use Rattle.esb_top.specs.Input.{Begins, EndsBy, HasRead, IsAt, IsStopped, arrived_bytes, stop_of}
use Rattle.esb_top.specs.Turn.{IsAtRest}
use Rattle.esb_top.proofs.InOrder.{next-read}
use Rattle.esb_top.specs.Output.{IsWritten, Wrote, FailedSince}
use Rattle.esb_top.specs.Puts.{Puts}
use Rattle.esb_top.specs.Serving.{Ends, Outside, Refused}
use Rattle.esb_top.specs.Session.{IsSession, IsCutAt, is_known, is_whole, place_if, place_of, status_by, status_if, status_of}
use Rattle.esb_top.specs.Work.{Goes}
use Rattle.esb_top.proofs.Histories.{replay-push, list_end, each-push, all-push, arrivals-push, sent-push, faults-push}
use Rattle.esb_top.proofs.Outputs.{wrote-part}
use Rattle.esb_top.proofs.Files.{failed_puts-same, has-same}

-- ---- the end of the input

sent-end : (es fs : List Event) → fs ≡ es ++ events.EndOfInput ∷ [] → sent fs ≡ sent es
sent-end es fs is = ap sent is ∙ ap (λ (ps : List Packet). flat_map written_frame ps) (sent-push es events.EndOfInput ∙ list_end (sent_packets es))

arrivals-end : (es fs : List Event) → fs ≡ es ++ events.EndOfInput ∷ [] → arrivals fs ≡ arrivals es
arrivals-end es fs is = ap arrivals is ∙ arrivals-push es events.EndOfInput ∙ list_end (arrivals es)

neither : {A B X : Type 0} → A ⊎ B → (A → X) → (B → X) → X
neither (inl a) f g = f a
neither (inr b) f g = g b

-- a session in which a write failed tells no place
unplaced-by : (ending : Ending) → place_if false ending ≡ 0
unplaced-by endings.Done = refl
unplaced-by (endings.Malformed place) = refl
unplaced-by endings.ReadFault = refl
unplaced-by endings.Budget = refl

-- nothing was written so far
pub wrote-nothing : (before : List ℕ) → IsWritten before before [] true
wrote-nothing before = record { written = []; left = []; parts = refl; holds = sym (list_end before); all = λ e. refl }

-- a session says nothing of whether a sink is whole
any-whole : (ht kt st : Type 0) (greeting : List ℕ) (was now : Outside) (status place : ℕ) (journal : List Event) → IsSession ht kt st greeting was now status place journal → IsSession ht kt st greeting was (record now { whole = true }) status place journal
any-whole ht kt st greeting was now status place journal s = record {
  known = s.known;
  legal = s.legal;
  ended = s.ended;
  empty_or_ended = s.empty_or_ended;
  none_owed = s.none_owed;
  settled = s.settled;
  closed = s.closed;
  unrefused = s.unrefused;
  files = s.files;
  put_counted = s.put_counted;
  sound = s.sound;
  right = s.right;
  from_host = s.from_host;
  counted = s.counted;
  serial = s.serial;
  sends = s.sends;
  write_fault = s.write_fault;
  read_fault = s.read_fault;
  stream = s.stream;
  stopped = s.stopped;
  malformed = s.malformed;
  placed = s.placed;
  unplaced = s.unplaced;
  whole_input = s.whole_input;
  reads = s.reads;
  read = s.read;
  within_budget = s.within_budget;
  spent = s.spent;
  unspent = s.unspent;
}

module _ (ht kt st : Type 0) (greeting : List ℕ) (was mid : Outside) (old : Entries) (fresh : old.events ≡ []) (same_world : mid.world ≡ was.world) (same_faults : mid.host_faults ≡ was.host_faults) (same_unread : mid.unread ≡ was.unread)
    (same_source : mid.source_faults ≡ was.source_faults) (same_gave : mid.gave ≡ was.gave) (same_puts : (path : List ℕ) → mid.puts path ≡ was.puts path) (same_put_faults : mid.put_faults ≡ was.put_faults) (greeted : Wrote kt was.holds mid.holds greeting mid.whole) (failed : FailedSince was.sink_faults mid.sink_faults mid.whole) (falls : was.sink_faults ≤ mid.sink_faults) where
  start_sound : Sound old.events
  start_sound = subst (λ (es : List Event). Sound es) (sym fresh) tt

  start_told : ht → AreTold mid.world old.events
  start_told t = subst (λ (es : List Event). AreTold mid.world es) (sym fresh) tt

  start_turn : InTurn ht mid.world old.events
  start_turn = subst (λ (es : List Event). InTurn ht mid.world es) (sym fresh) tt

  start_counted : RoseBy (faults old.events) was.host_faults mid.host_faults
  start_counted = subst (λ (es : List Event). RoseBy (faults es) was.host_faults mid.host_faults) (sym fresh) (inl (omega (arith, same_faults)))

  start_wrote : Wrote kt was.holds mid.holds (greeting ++ sent old.events) mid.whole
  start_wrote t = subst (λ (es : List Event). IsWritten was.holds mid.holds (greeting ++ sent es) mid.whole) (sym fresh) (subst (λ (bs : List ℕ). IsWritten was.holds mid.holds bs mid.whole) (sym (list_end greeting)) (greeted t))

  -- what the journal has once the input ended
  module _ (new : Entries) (final : List Event) (now : Outside) (is : final ≡ new.events ++ events.EndOfInput ∷ []) (goes : Goes ht mid.world mid.host_faults now.host_faults old.events new.events) where
    final_sound : Sound final
    final_sound = subst (λ (es : List Event). Sound es) (sym is) (each-push IsSound new.events events.EndOfInput (goes.sound start_sound) tt)

    final_told : ht → AreTold was.world final
    final_told t =
        subst (λ (es : List Event). AreTold was.world es) (sym is)
        (all-push (IsTold was.world) new.events events.EndOfInput (subst (λ w. AreTold w new.events) same_world (goes.from_host t (start_told t))) tt)

    final_counted : RoseBy (faults final) was.host_faults now.host_faults
    final_counted =
        subst (λ (k : ℕ). RoseBy k was.host_faults now.host_faults) (sym (ap faults is ∙ faults-push new.events events.EndOfInput ∙ omega arith)) (goes.counted was.host_faults start_counted)

    lapses-end : lapses final ≡ lapses new.events
    lapses-end = ap lapses is ∙ sum_by-append (λ d. cond (is_lapse d) 1 0) new.events (events.EndOfInput ∷ []) ∙ omega arith

    final_serial : is_legal new.events ≡ true → IsAtRest new.events → ht → lapses final ≡ 0 → IsSerial was.world (arrivals final) final
    final_serial legal rest t none =
        let turn : InTurn ht was.world new.events = subst (λ w. InTurn ht w new.events) same_world (goes.in_turn start_turn) in
        subst (λ (ps : List Packet). IsSerial was.world ps final) (sym (arrivals-end new.events final is)) record {
          before = new.events;
          steps = all-follow ht was.world new.events t turn (sym lapses-end ∙ none);
          last = next-read ht was.world new.events (arrivals new.events) legal rest ∙ ap (λ (p : Option Packet). Some (input_step p)) (get-past (arrivals new.events));
          whole = is;
        }

    final_reads : (reads : ℕ) → HasRead mid.gave now.gave 0 reads → Counts was.gave now.gave 0 reads
    final_reads reads r = subst (λ (k : ℕ). Counts k now.gave 0 reads) same_gave r.counted

    in_budget : (reads : ℕ) → HasRead mid.gave now.gave 0 reads → reads ≤ budget
    in_budget reads r = r.within (omega arith)

    final_sent : (whole : Bool) → IsWritten was.holds now.holds (greeting ++ sent new.events) whole → IsWritten was.holds now.holds (greeting ++ sent final) whole
    final_sent whole w = subst (λ (bs : List ℕ). IsWritten was.holds now.holds (greeting ++ bs) whole) (sym (sent-end new.events final is)) w

    -- the end of an input that was not malformed, and its bytes
    final_read : (unread : List ℕ) → (st → was.unread ≡ flat_map frame (arrivals new.events) ++ unread) → st → was.unread ≡ flat_map frame (arrivals final) ++ unread
    final_read unread read t = subst (λ (ps : List Packet). was.unread ≡ flat_map frame ps ++ unread) (sym (arrivals-end new.events final is)) (read t)

    start_read : st → was.unread ≡ flat_map frame (arrivals old.events) ++ mid.unread
    start_read t = subst (λ (es : List Event). was.unread ≡ flat_map frame (arrivals es) ++ mid.unread) (sym fresh) (sym same_unread)

    final_files : Puts ht mid.puts now.puts mid.put_faults now.put_faults old.events new.events → ht → HasPut was.puts now.puts final
    final_files p t =
        has-same was.puts now.puts new.events final events.EndOfInput is refl
        (p.files t was.puts (λ path. subst (λ (es : List Event). Fits (fate path es) (was.puts path) (mid.puts path)) (sym fresh) (same_puts path)))

    final_put_counted : Puts ht mid.puts now.puts mid.put_faults now.put_faults old.events new.events → RoseBy (failed_puts final) was.put_faults now.put_faults
    final_put_counted p =
        subst (λ (k : ℕ). RoseBy k was.put_faults now.put_faults) (sym (failed_puts-same new.events final events.EndOfInput is refl))
        (p.counted was.put_faults (subst (λ (es : List Event). RoseBy (failed_puts es) was.put_faults mid.put_faults) (sym fresh) (inl (omega (arith, same_put_faults)))))

    pub session-refused : is_legal final ≡ true → Refused ht kt st mid now old new → IsSession ht kt st greeting was now 5 0 final
    session-refused legal r = record {
      known = refl;
      legal = legal;
      ended = λ not_five. absurd (not_five refl);
      empty_or_ended = inr (new.events, is);
      none_owed = λ not_five. absurd (not_five refl);
      settled = λ not_five. absurd (not_five refl);
      closed = λ not_five. absurd (not_five refl);
      unrefused = λ e. absurd cc;
      files = final_files r.puts;
      put_counted = final_put_counted r.puts;
      sound = final_sound;
      right = λ n o ended. ends-right final n o legal final_sound ended;
      from_host = final_told;
      counted = final_counted;
      serial = λ t not_five. absurd (not_five refl);
      sends = λ t. final_sent false (r.wrote was.holds greeting start_wrote t);
      write_fault = λ e. absurd cc;
      read_fault = λ e. absurd cc;
      stream = λ t. subst (λ (ps : List Packet). Begins was.unread (flat_map frame ps)) (sym (arrivals-end new.events final is)) (r.stream was.unread start_read t);
      stopped = λ not_five. absurd (not_five refl);
      malformed = λ e. absurd cc;
      placed = λ e. absurd cc;
      unplaced = λ e. refl;
      whole_input = λ e. absurd cc;
      reads = r.reads;
      read = final_reads r.reads r.read;
      within_budget = in_budget r.reads r.read;
      spent = λ e. absurd cc;
      unspent = λ x. neither x (λ y. absurd cc) (λ y. absurd cc);
    }

    cut : (unread : List ℕ) → (st → was.unread ≡ flat_map frame (arrivals new.events) ++ unread) → (st → BeginsWithNone unread × (unread ≡ [] → ⊥)) → st → IsCutAt was.unread final
    cut unread read none t = record { rest = unread; parts = final_read unread read t; none = (none t).0; some = (none t).1 }

    all_read : (unread : List ℕ) → (st → was.unread ≡ flat_map frame (arrivals new.events) ++ unread) → (st → unread ≡ []) → st → was.unread ≡ flat_map frame (arrivals final)
    all_read unread read none t = final_read unread read t ∙ ap (λ (bs : List ℕ). flat_map frame (arrivals final) ++ bs) (none t) ∙ list_end (flat_map frame (arrivals final))

    rose_source : Rose mid.source_faults now.source_faults → Rose was.source_faults now.source_faults
    rose_source r = subst (λ (n : ℕ). Rose n now.source_faults) same_source r

    legal_before : is_legal final ≡ true → is_legal new.events ≡ true
    legal_before legal = (both_parts (is_legal new.events) (is_legal_from (replay new.events) (events.EndOfInput ∷ [])) (sym (is_legal_from-append start new.events (events.EndOfInput ∷ [])) ∙ ap is_legal (sym is) ∙ legal)).0

    final_owed : is_legal final ≡ true → IsAtRest new.events → owed final ≡ []
    final_owed legal rest = sym (reads-legal final legal).owed ∙ ap (λ (es : List Event). (replay es).owed) is ∙ ap (λ (s : State). s.owed) (replay-push new.events events.EndOfInput) ∙ rest.none_owed

    -- the end of the input comes to no move
    moves-end : moves_in final ≡ moves_in new.events
    moves-end = ap moves_in is ∙ moves-push new.events events.EndOfInput ∙ list_end (moves_in new.events)

    builds-end : builds final ≡ builds new.events
    builds-end = ap builds_in moves-end

    outcome-end : (n : ℕ) → outcome final n ≡ outcome new.events n
    outcome-end n = ap (λ (ms : List Move). outcome_in ms n) moves-end

    final_settled : is_legal final ≡ true → IsAtRest new.events → (n : ℕ) → n < length (builds final) → IsSome (outcome final n)
    final_settled legal rest n lt =
        subst (λ (o : Option Outcome). IsSome o) (sym (outcome-end n))
        (in-turn-done ht mid.world new.events (legal_before legal) (goes.in_turn start_turn) rest.free rest.no_job n (subst (λ (bs : List Begun). n < length bs) builds-end lt))

    final_closed : is_legal final ≡ true → IsAtRest new.events → (n : ℕ) → n < length (builds final) → closed final n ≡ true
    final_closed legal rest n lt =
        ap (λ (ms : List Move). closed_in ms n) moves-end
        ∙ in-turn-closed ht mid.world new.events (legal_before legal) (goes.in_turn start_turn) rest.free rest.no_job n (subst (λ (bs : List Begun). n < length bs) builds-end lt)

    -- a session whose input was read to an ending
    made : (status place reads : ℕ) (held : List ℕ) → is_known status ≡ true → is_legal final ≡ true → IsAtRest new.events → HasRead mid.gave now.gave 0 reads
        → Puts ht mid.puts now.puts mid.put_faults now.put_faults old.events new.events → (st → was.unread ≡ flat_map frame (arrivals new.events) ++ (held ++ now.unread))
        → ((status ≡ 5 → ⊥) → IsStopped st was.unread final now.unread reads status) → (kt → IsWritten was.holds now.holds (greeting ++ sent final) (is_whole status))
        → (status ≡ 4 → Rose was.sink_faults now.sink_faults) → (status ≡ 3 → Rose was.source_faults now.source_faults) → (status ≡ 2 → st → IsCutAt was.unread final)
        → (status ≡ 0 → st → was.unread ≡ flat_map frame (arrivals final)) → (status ≡ 0 → list_any is_refused final ≡ false) → (status ≡ 6 → reads ≡ budget)
        → ((status ≡ 0) ⊎ (status ≡ 3) → reads < budget)
        → (status ≡ 2 → place ≡ arrived_bytes new.events) → ((status ≡ 2 → ⊥) → place ≡ 0) → IsSession ht kt st greeting was now status place final
    made status place reads held known legal rest r puts read stopped sends write_fault read_fault malformed whole_input unrefused spent unspent placed unplaced = record {
      placed = λ two. placed two ∙ ap (λ (ps : List Packet). length (flat_map frame ps)) (sym (arrivals-end new.events final is));
      unplaced = unplaced;
      known = known;
      reads = reads;
      legal = legal;
      ended = λ not_five. (new.events, is);
      empty_or_ended = inr (new.events, is);
      none_owed = λ not_five. final_owed legal rest;
      settled = λ not_five. final_settled legal rest;
      closed = λ not_five. final_closed legal rest;
      unrefused = unrefused;
      files = final_files puts;
      put_counted = final_put_counted puts;
      sound = final_sound;
      right = λ n o ended. ends-right final n o legal final_sound ended;
      from_host = final_told;
      counted = final_counted;
      serial = λ t not_five none. final_serial (legal_before legal) rest t none;
      sends = sends;
      write_fault = write_fault;
      read_fault = read_fault;
      stream = λ t. record { rest = held ++ now.unread; parts = final_read (held ++ now.unread) read t };
      stopped = stopped;
      malformed = malformed;
      whole_input = whole_input;
      read = final_reads reads r;
      within_budget = in_budget reads r;
      spent = spent;
      unspent = unspent;
    }

    by_ending : (ending : Ending) (refused : Bool) (held : List ℕ) (reads : ℕ) → refused ≡ list_any is_refused final → is_legal final ≡ true → IsAtRest new.events
        → HasRead mid.gave now.gave 0 reads → Puts ht mid.puts now.puts mid.put_faults now.put_faults old.events new.events → (kt → IsWritten was.holds now.holds (greeting ++ sent new.events) true)
        → (st → was.unread ≡ flat_map frame (arrivals new.events) ++ (held ++ now.unread)) → EndsBy st (Rose mid.source_faults now.source_faults) (held ++ now.unread) held reads ending
        → IsAt (arrived_bytes new.events) ending → IsSession ht kt st greeting was now (status_by ending refused) (place_if true ending) final
    by_ending endings.ReadFault refused held reads flag legal rest r puts w read e at =
        made 3 0 reads held refl legal rest r puts read
        (λ five. record { held = held; stop = stops.ReadFault; parts = final_read (held ++ now.unread) read; judged = e.1; by = λ four. refl })
        (λ t. final_sent true (w t)) (λ x. absurd cc) (λ x. rose_source e.0) (λ x. absurd cc) (λ x. absurd cc) (λ x. absurd cc) (λ x. absurd cc) (λ x. e.1.1) (λ x. absurd cc) (λ x. refl)
    by_ending (endings.Malformed place) refused held reads flag legal rest r puts w read e at =
        made 2 place reads held refl legal rest r puts read
        (λ five. record { held = held; stop = stops.Malformed; parts = final_read (held ++ now.unread) read; judged = e.1; by = λ four. refl })
        (λ t. final_sent true (w t)) (λ x. absurd cc) (λ x. absurd cc) (λ x. cut (held ++ now.unread) read e.0) (λ x. absurd cc) (λ x. absurd cc) (λ x. absurd cc)
        (λ x. neither x (λ y. absurd cc) (λ y. absurd cc)) (λ x. at) (λ x. absurd (x refl))
    by_ending endings.Budget refused held reads flag legal rest r puts w read e at =
        made 6 0 reads held refl legal rest r puts read
        (λ five. record { held = held; stop = stops.Budget; parts = final_read (held ++ now.unread) read; judged = e.1; by = λ four. refl })
        (λ t. final_sent true (w t)) (λ x. absurd cc) (λ x. absurd cc) (λ x. absurd cc) (λ x. absurd cc) (λ x. absurd cc) (λ x. e.0.0)
        (λ x. neither x (λ y. absurd cc) (λ y. absurd cc)) (λ x. absurd cc) (λ x. refl)
    by_ending endings.Done true held reads flag legal rest r puts w read e at =
        made 5 0 reads held refl legal rest r puts read (λ five. absurd (five refl))
        (λ t. wrote-part was.holds now.holds (greeting ++ sent final) true (final_sent true (w t))) (λ x. absurd cc) (λ x. absurd cc) (λ x. absurd cc) (λ x. absurd cc) (λ x. absurd cc)
        (λ x. absurd cc) (λ x. neither x (λ y. absurd cc) (λ y. absurd cc)) (λ x. absurd cc) (λ x. refl)
    by_ending endings.Done false held reads flag legal rest r puts w read e at =
        made 0 0 reads held refl legal rest r puts read
        (λ five. record { held = held; stop = stops.End; parts = final_read (held ++ now.unread) read; judged = e.1; by = λ four. refl })
        (λ t. final_sent true (w t)) (λ x. absurd cc) (λ x. absurd cc) (λ x. absurd cc) (λ x. all_read (held ++ now.unread) read e.0) (λ x. sym flag) (λ x. absurd cc) (λ x. e.1.1) (λ x. absurd cc) (λ x. refl)

    if_whole : (whole : Bool) (ending : Ending) (refused : Bool) (held : List ℕ) (reads : ℕ) → refused ≡ list_any is_refused final → is_legal final ≡ true → IsAtRest new.events
        → HasRead mid.gave now.gave 0 reads → Puts ht mid.puts now.puts mid.put_faults now.put_faults old.events new.events → FailedSince was.sink_faults now.sink_faults whole
        → (kt → IsWritten was.holds now.holds (greeting ++ sent new.events) whole) → (st → was.unread ≡ flat_map frame (arrivals new.events) ++ (held ++ now.unread))
        → EndsBy st (Rose mid.source_faults now.source_faults) (held ++ now.unread) held reads ending → IsAt (arrived_bytes new.events) ending
        → IsSession ht kt st greeting was now (status_if whole ending refused) (place_if whole ending) final
    if_whole false ending refused held reads flag legal rest r puts fell w read e at =
        made 4 0 reads held refl legal rest r puts read
        (λ five. record { held = held; stop = stop_of ending; parts = final_read (held ++ now.unread) read; judged = e.1; by = λ four. absurd (four refl) })
        (λ t. final_sent false (w t)) (λ x. fell refl) (λ x. absurd cc) (λ x. absurd cc) (λ x. absurd cc) (λ x. absurd cc) (λ x. absurd cc)
        (λ x. neither x (λ y. absurd cc) (λ y. absurd cc)) (λ x. absurd cc) (λ x. unplaced-by ending)
    if_whole true ending refused held reads flag legal rest r puts fell w read e at = by_ending ending refused held reads flag legal rest r puts w read e at

    pub session-ok : (ending : Ending) (refused : Bool) → refused ≡ list_any is_refused final → is_legal final ≡ true → Ends ht kt st mid now old new ending
        → IsSession ht kt st greeting was now (status_if now.whole ending refused) (place_if now.whole ending) final
    session-ok ending refused flag legal e =
        if_whole now.whole ending refused e.held e.reads flag legal e.rests e.read e.serving.puts (e.serving.failed was.sink_faults falls failed) (e.serving.wrote was.holds greeting start_wrote)
        (e.serving.stream was.unread start_read) e.ends e.at

  pub session-any : (new : Entries) (final : List Event) (now : Outside) (result : Result Ending Memory) (refused : Bool) → refused ≡ list_any is_refused final → final ≡ new.events ++ events.EndOfInput ∷ [] → is_legal final ≡ true
      → IfOk result (λ ending. Ends ht kt st mid now old new ending) → OnErr result (Refused ht kt st mid now old new) → IsSession ht kt st greeting was (record now { whole = true }) (status_of result now.whole refused) (place_of result now.whole) final
  session-any new final now (Ok ending) refused flag is legal ok err = any-whole ht kt st greeting was now _ _ final (session-ok new final now is ok.serving.goes ending refused flag legal ok)
  session-any new final now (Err refusal) refused flag is legal ok err = any-whole ht kt st greeting was now _ _ final (session-refused new final now is err.goes legal err)

-- a session that never began, for want of memory
pub session-none : (ht kt st : Type 0) (greeting : List ℕ) (was : Outside) (journal : List Event) → journal ≡ [] → IsSession ht kt st greeting was was 5 0 journal
session-none ht kt st greeting was journal none = subst (λ (es : List Event). IsSession ht kt st greeting was was 5 0 es) (sym none) (record {
  known = refl;
  legal = refl;
  ended = λ not_five. absurd (not_five refl);
  empty_or_ended = inl refl;
  none_owed = λ not_five. absurd (not_five refl);
  settled = λ not_five. absurd (not_five refl);
  closed = λ not_five. absurd (not_five refl);
  unrefused = λ e. absurd cc;
  files = λ t path. refl;
  put_counted = inl (omega arith);
  sound = tt;
  right = λ n o ended. absurd (let h : None ≡ Some o = ended in let f : ⊥ = cc in f);
  from_host = λ t. tt;
  counted = inl (omega arith);
  serial = λ t not_five. absurd (not_five refl);
  sends = λ t. record { written = []; left = greeting ++ sent []; parts = refl; holds = sym (list_end was.holds); all = λ e. absurd (false≢true e) };
  write_fault = λ e. absurd cc;
  read_fault = λ e. absurd cc;
  stream = λ t. record { rest = was.unread; parts = refl };
  stopped = λ not_five. absurd (not_five refl);
  malformed = λ e. absurd cc;
  placed = λ e. absurd cc;
  unplaced = λ e. refl;
  whole_input = λ e. absurd cc;
  reads = 0;
  read = λ few. omega arith;
  within_budget = omega arith;
  spent = λ x. absurd cc;
  unspent = λ x. neither x (λ y. absurd cc) (λ y. absurd cc);
})
