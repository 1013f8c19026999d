-- What has a frame may arrive.
use Rattle.std.proofs.Common.{◌≡◌, ℕ, zero, suc, true, false, not, List, [], ◌∷◌, map, refl, ap, nat_lt}
use Rattle.std.specs.List.{list_all, AllByRecursion}
use Rattle.std.proofs.lemmas.Bool.{and_from, lt-ltb}
use Rattle.esb_wire.specs.declared.value.Packet.{Packet}
use Rattle.esb_wire.specs.declared.value.Value.{Value, out-Value}
use Rattle.esb_wire.specs.declared.value.Value.TheOpen.{Value-F}
use Rattle.esb_wire.specs.Reading.{all_differ}
use Rattle.esb_wire.specs.Spelling.{Fits, NodeFits, PairFits, IsPacket, max_depth}
use Rattle.esb_wire.proofs.Values.{test-from_IsDistinct}
use Rattle.esb_core.specs.declared.event.Event.TheVariants as events
use Rattle.esb_core.specs.State.{State}
use Rattle.esb_core.specs.Allowed.{allowed, is_proper, node_ok, may_arrive, id_limit}

all-proper : (depth : ℕ) → ((v : Value) → Fits depth v → is_proper depth v ≡ true) → (values : List Value) → AllByRecursion (Fits depth) values → list_all (is_proper depth) values ≡ true
all-proper depth rec [] fits = refl
all-proper depth rec (v ∷ vs) fits = and_from (is_proper depth v) (list_all (is_proper depth) vs) (rec v fits.0) (all-proper depth rec vs fits.1)

pairs-proper : (depth : ℕ) → ((v : Value) → Fits depth v → is_proper depth v ≡ true) → (pairs : List (List ℕ × Value)) → AllByRecursion (PairFits depth) pairs → list_all (λ pair. is_proper depth pair.1) pairs ≡ true
pairs-proper depth rec [] fits = refl
pairs-proper depth rec (p ∷ ps) fits = and_from (is_proper depth p.1) (list_all (λ pair. is_proper depth pair.1) ps) (rec p.1 fits.0.2) (pairs-proper depth rec ps fits.1)

node-proper : (depth : ℕ) → ((v : Value) → Fits depth v → is_proper depth v ≡ true) → (layer : Value-F Value) → NodeFits (Fits depth) layer → node_ok (is_proper depth) layer ≡ true
node-proper depth rec Value-F.Null fits = refl
node-proper depth rec (Value-F.Bool b) fits = refl
node-proper depth rec (Value-F.Number n) fits = refl
node-proper depth rec (Value-F.Str text) fits = refl
node-proper depth rec (Value-F.Bytes bytes) fits = refl
node-proper depth rec (Value-F.Array values) fits = all-proper depth rec values fits.0
node-proper depth rec (Value-F.Map pairs) fits =
    and_from (all_differ (map (λ pair. pair.0) pairs)) (list_all (λ pair. is_proper depth pair.1) pairs) (test-from_IsDistinct (map (λ pair. pair.0) pairs) fits.1) (pairs-proper depth rec pairs fits.0)

fits-proper : (depth : ℕ) (v : Value) → Fits depth v → is_proper depth v ≡ true
fits-proper zero v fits = absurd fits
fits-proper (suc depth) v fits = node-proper depth (λ w h. fits-proper depth w h) (out-Value v) fits

pub packet-arrives : (p : Packet) → IsPacket p → may_arrive p ≡ true
unfolding may_arrive
packet-arrives p fits = and_from (nat_lt p.id id_limit) (is_proper max_depth p.value) (lt-ltb p.id id_limit fits.id) (fits-proper max_depth p.value fits.value)

pub arrival-is_allowed : (s : State) (p : Packet) → s.ended ≡ false → IsPacket p → allowed s (events.Arrive p) ≡ true
arrival-is_allowed s p going fits = and_from (not s.ended) (may_arrive p) (ap not going) (packet-arrives p fits)
