-- What a sink holds once it got more bytes.
use Rattle.std.proofs.Common.{◌≡◌, ℕ, Bool, true, false, subst, List, [], ◌∷◌, ◌++◌, take, drop, refl, sym, ap, ◌∙◌, append_assoc, Result, Ok, Err}
use Rattle.std.specs.Prelude.{OnOk, OnErr, is_ok}
use Rattle.std.proofs.lemmas.List.{take-append-drop}
use Rattle.std.proofs.lemmas.Bool.{false≢true}
use Rattle.esb_base.specs.Sink.{AppendsPrefix}
use Rattle.esb_base.specs.declared.sink.Failed.{Failed}
use Rattle.esb_top.specs.Output.{IsWritten}
use Rattle.std.proofs.Common.{Option, Some, slice_get}
use Rattle.std.specs.List.{flat_map}
use Rattle.esb_flags.specs.declared.options.Options.{Options}
use Rattle.esb_ask.specs.declared.outcome.Failures.{Failures}
use Rattle.esb_ask.specs.declared.outcome.Outcome.{Outcome}
use Rattle.esb_wire.specs.declared.value.Packet.{Packet}
use Rattle.esb_wire.specs.Written.{written_frame}
use Rattle.esb_core.specs.declared.out.Out.{Out}
use Rattle.esb_core.specs.declared.out.Out.TheVariants as outs
use Rattle.esb_core.specs.declared.out.Body.TheVariants as bodies
use Rattle.esb_core.specs.declared.event.Event.{Event}
use Rattle.esb_core.specs.declared.event.Event.TheVariants as events
use Rattle.esb_core.specs.State.{Building, State, build_at}
use Rattle.esb_core.specs.History.{failed, is_legal, outcome, owed, replay}
use Rattle.esb_core.proofs.Laws.{reads-legal}
use Rattle.esb_reply.specs.Reply.{packet_for}
use Rattle.esb_sound.specs.Sent.{first_packet, packet_after, sends, sent, sent_packets}
use Rattle.esb_sound.specs.Ready.{IsReady}
use Rattle.esb_top.specs.Output.{packet_in}
use Rattle.esb_top.proofs.Working.{options-are}
use Rattle.esb_top.proofs.Histories.{flat_map-push, list_end, replay-push, sent-push}

-- nothing more was written
pub wrote-none : (before now so_far more : List ℕ) (whole : Bool) → IsWritten before now so_far whole → IsWritten before now (so_far ++ more) false
wrote-none before now so_far more whole w = record {
  written = w.written;
  left = w.left ++ more;
  parts = ap (λ b. b ++ more) w.parts ∙ append_assoc w.written w.left more;
  holds = w.holds;
  all = λ e. absurd (false≢true e);
}

-- more was written, whole or in part
pub wrote-more : (before old now so_far more : List ℕ) (result : Result (Unit {0}) Failed) → IsWritten before old so_far true
    → OnOk result (now ≡ old ++ more) → OnErr result (AppendsPrefix old now more) → IsWritten before now (so_far ++ more) (is_ok result)
wrote-more before old now so_far more (Ok u) w ok err = record {
  written = w.written ++ more;
  left = [];
  parts = ap (λ b. b ++ more) (w.parts ∙ ap (λ l. w.written ++ l) (w.all refl) ∙ list_end w.written) ∙ sym (list_end (w.written ++ more));
  holds = ok ∙ ap (λ b. b ++ more) w.holds ∙ append_assoc before w.written more;
  all = λ e. refl;
}
wrote-more before old now so_far more (Err f) w ok err =
    let n = err.0 in
    record {
      written = w.written ++ take n more;
      left = drop n more;
      parts =
          ap (λ b. b ++ more) (w.parts ∙ ap (λ l. w.written ++ l) (w.all refl) ∙ list_end w.written) ∙ ap (λ m. w.written ++ m) (sym (take-append-drop n more))
          ∙ sym (append_assoc w.written (take n more) (drop n more));
      holds = err.1 ∙ ap (λ b. b ++ take n more) w.holds ∙ append_assoc before w.written (take n more);
      all = λ e. absurd (false≢true e);
    }

-- ---- a pop

packet-is : (es : List Event) (out : Out) → is_legal es ≡ true → packet_after es out ≡ packet_in (replay es).builds out
packet-is es (outs.Reply id bodies.Empty) legal = refl
packet-is es (outs.Reply id (bodies.Error text)) legal = refl
packet-is es (outs.Reply id (bodies.Closed n)) legal = refl
packet-is es (outs.Reply id (bodies.Result n)) legal =
    ap (λ (o : Options). packet_for (outs.Reply id (bodies.Result n)) o.write (outcome es n) (failed es n)) (options-are es n legal)
    ∙ ap (λ (o : Option Outcome). packet_for (outs.Reply id (bodies.Result n)) (build_at (replay es).builds n).options.write o (failed es n)) (sym ((reads-legal es legal).outcomes n))
    ∙ ap (λ (f : Option Failures). packet_for (outs.Reply id (bodies.Result n)) (build_at (replay es).builds n).options.write (build_at (replay es).builds n).outcome f) (sym ((reads-legal es legal).failures n))

-- the bytes that a pop sends
pub sent-pop : (es new : List Event) (out : Out) → is_legal es ≡ true → slice_get (replay es).owed 0 ≡ Some out → new ≡ es ++ events.Pop ∷ []
    → sent new ≡ sent es ++ written_frame (packet_in (replay new).builds out)
sent-pop es new out legal first is =
    let owed_first : slice_get (owed es) 0 ≡ Some out = ap (λ (os : List Out). slice_get os 0) (sym (reads-legal es legal).owed) ∙ first in
    let one : sends es events.Pop ≡ packet_in (replay es).builds out ∷ [] = ap (λ o. first_packet es o) owed_first ∙ ap (λ (p : Packet). p ∷ []) (packet-is es out legal) in
    let builds_are : (replay new).builds ≡ (replay es).builds = ap (λ (es : List Event). (replay es).builds) is ∙ ap (λ (s : State). s.builds) (replay-push es events.Pop) in
    ap (λ (ds : List Event). sent ds) is ∙ ap (λ (ps : List Packet). flat_map written_frame ps) (sent-push es events.Pop ∙ ap (λ (ps : List Packet). sent_packets es ++ ps) one)
    ∙ flat_map-push written_frame (sent_packets es) (packet_in (replay es).builds out) ∙ ap (λ bs. sent es ++ written_frame (packet_in bs out)) (sym builds_are)

pub ready-after : (es new : List Event) (out : Out) → new ≡ es ++ events.Pop ∷ [] → IsReady (replay es).builds out → IsReady (replay new).builds out
ready-after es new out is ready =
    subst (λ (bs : List Building). IsReady bs out) (sym (ap (λ (ds : List Event). (replay ds).builds) is ∙ ap (λ (s : State). s.builds) (replay-push es events.Pop))) ready

-- a pop whose packet was written, whole or in part
pub popped-ok : (es new : List Event) (out : Out) (before front now : List ℕ) (whole : Bool) → is_legal es ≡ true → slice_get (replay es).owed 0 ≡ Some out → new ≡ es ++ events.Pop ∷ []
    → IsWritten before now ((front ++ sent es) ++ written_frame (packet_in (replay new).builds out)) whole → IsWritten before now (front ++ sent new) whole
popped-ok es new out before front now whole legal first is w =
    subst (λ (bs : List ℕ). IsWritten before now bs whole)
    (append_assoc front (sent es) (written_frame (packet_in (replay new).builds out)) ∙ ap (λ bs. front ++ bs) (sym (sent-pop es new out legal first is))) w

-- a pop whose packet was not written
pub popped-err : (es new : List Event) (out : Out) (before front now : List ℕ) (whole : Bool) → is_legal es ≡ true → slice_get (replay es).owed 0 ≡ Some out → new ≡ es ++ events.Pop ∷ []
    → IsWritten before now (front ++ sent es) whole → IsWritten before now (front ++ sent new) false
popped-err es new out before front now whole legal first is w =
    popped-ok es new out before front now false legal first is (wrote-none before now (front ++ sent es) (written_frame (packet_in (replay new).builds out)) whole w)

-- the same bytes, of which nothing is said but that they are a part
pub wrote-part : (before now bytes : List ℕ) (whole : Bool) → IsWritten before now bytes whole → IsWritten before now bytes false
wrote-part before now bytes whole w = record { written = w.written; left = w.left; parts = w.parts; holds = w.holds; all = λ e. absurd (false≢true e) }

pub on_err : {X E : Type 0} (result : Result X E) (P : Type 0) → P → OnErr result P
on_err (Ok x) P p = tt
on_err (Err e) P p = p

pub on_err-map : {X E : Type 0} {P Q : Type 0} (result : Result X E) → (P → Q) → OnErr result P → OnErr result Q
on_err-map (Ok x) f p = tt
on_err-map (Err e) f p = f p
