-- Which packets have a frame.
use Rattle.std.proofs.Common.{◌≡◌, ℕ, ◌+◌, ◌^◌, ◌<◌, ◌≤◌, Bool, true, false, cond, List, [], ◌∷◌, length, min, Option, sym, ap, arith, lit≤}
use Rattle.std.specs.Prelude.{codes}
use Rattle.std.specs.List.{flat_map}
use Rattle.std.proofs.lemmas.Bool.{le-leb, lt-leb}
use Rattle.std.proofs.lemmas.List.{length-append}
use Rattle.esb_wire.specs.declared.value.Value.{Value}
use Rattle.esb_wire.specs.declared.value.Value.TheVariants as v
use Rattle.esb_wire.specs.Spelling.{spelling, body, max_depth, IsPacket}
use Rattle.esb_wire.specs.Size.{IsShaped, pair_spelled}
use Rattle.esb_wire.proofs.Sizes.{fits_short, IsShaped-deeper, length-spelling-Str, length-spelling-Map}
use Rattle.esb_reply.specs.Reply.{error_value, reply_packet, fits_frame, too_large, sent_packet, packet_for}
use Rattle.esb_ask.specs.declared.outcome.Failures.{Failures}
use Rattle.esb_ask.specs.declared.outcome.Outcome.{Outcome}
use Rattle.esb_core.specs.declared.out.Body.TheVariants as bodies
use Rattle.esb_core.specs.declared.out.Out.TheVariants as outs

-- ---- sizes

length-body : (id : ℕ) (value : Value) → length (body (reply_packet id value)) ≡ 4 + length (spelling value)
length-body id value = omega arith

pub length-spelling-error : (text : List ℕ) → length (spelling (error_value text)) ≡ 19 + length text
length-spelling-error text =
    let inside : length (flat_map pair_spelled ((codes "error", v.Str text) ∷ [])) ≡ 9 + length (spelling (v.Str text)) = omega (arith, length-append (spelling (v.Str text)) []) in
    omega (arith, length-spelling-Map ((codes "error", v.Str text) ∷ []), inside, length-spelling-Str text)

-- ---- frames

fits : (id : ℕ) (value : Value) → 4 + length (spelling value) ≤ 2 ^ 28 → fits_frame (reply_packet id value) ≡ true
unfolding fits_frame
fits id value short = le-leb (length (body (reply_packet id value))) (2 ^ 28) (omega (arith, length-body id value))

other : (id : ℕ) (value : Value) → 2 ^ 28 < 4 + length (spelling value) → fits_frame (reply_packet id value) ≡ false
unfolding fits_frame
other id value long = lt-leb (length (body (reply_packet id value))) (2 ^ 28) (omega (arith, length-body id value))

-- an error of a short text is sent as it is
pub error_fits : (id : ℕ) (text : List ℕ) → length text ≤ 1000 → fits_frame (reply_packet id (error_value text)) ≡ true
error_fits id text short = fits id (error_value text) (omega (arith, length-spelling-error text))

-- ---- the packet that is sent, by the length that was counted

pub sent_whole : (id length_of : ℕ) (value : Value) → length_of ≡ min (length (spelling value)) (2 ^ 32) → length_of + 4 ≤ 2 ^ 28 → reply_packet id value ≡ sent_packet (reply_packet id value)
sent_whole id length_of value counted within =
    let e : 4 + length (spelling value) ≤ 2 ^ 28 = omega arith in
    sym (ap (λ (b : Bool). cond b (reply_packet id value) (too_large id)) (fits id value e))

pub sent_replaced : (id length_of : ℕ) (value : Value) → length_of ≡ min (length (spelling value)) (2 ^ 32) → 2 ^ 28 < length_of + 4 → too_large id ≡ sent_packet (reply_packet id value)
sent_replaced id length_of value counted over =
    let e : 2 ^ 28 < 4 + length (spelling value) = omega arith in
    sym (ap (λ (b : Bool). cond b (reply_packet id value) (too_large id)) (other id value e))

-- ---- packets

pub is_packet : (id : ℕ) (value : Value) → id < 2 ^ 31 → IsShaped 4 value → 4 + length (spelling value) ≤ 2 ^ 28 → IsPacket (reply_packet id value)
is_packet id value small shaped short = record {
  id = small;
  value = fits_short max_depth value (IsShaped-deeper 4 max_depth (lit≤ tt) value shaped) (omega arith);
  size = omega (arith, length-body id value);
}

pub whole_is_packet : (id length_of : ℕ) (value : Value) → id < 2 ^ 31 → IsShaped 4 value → length_of ≡ min (length (spelling value)) (2 ^ 32) → length_of + 4 ≤ 2 ^ 28 → IsPacket (reply_packet id value)
whole_is_packet id length_of value small shaped counted within = is_packet id value small shaped (omega arith)

pub error_is_packet : (id : ℕ) (text : List ℕ) → id < 2 ^ 31 → IsShaped 4 (error_value text) → length text ≤ 1000 → IsPacket (reply_packet id (error_value text))
error_is_packet id text small shaped short = is_packet id (error_value text) small shaped (omega (arith, length-spelling-error text))

-- ---- laws

pub replacement_fits : (id : ℕ) → fits_frame (too_large id) ≡ true
replacement_fits id = error_fits id (codes "Reply is too large") (lit≤ tt)

pub short_errors_are_sent : (id : ℕ) (text : List ℕ) (write : Bool) (outcome : Option Outcome) (failed : Option Failures) → length text ≤ 1000 → packet_for (outs.Reply id (bodies.Error text)) write outcome failed ≡ reply_packet id (error_value text)
unfolding packet_for
short_errors_are_sent id text write outcome failed short =
    ap (λ (b : Bool). cond b (reply_packet id (error_value text)) (too_large id)) (error_fits id text short)
