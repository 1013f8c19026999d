-- Which event begins a build.
use Rattle.std.proofs.Common.{◌≡◌, ◌⊎◌, inl, inr, ℕ, ◌+◌, ◌<◌, ◌≤◌, Bool, true, false, cond, List, [], ◌∷◌, ◌++◌, length, Option, None, Some, refl, sym, ap, ◌∙◌, append_assoc, append-nil, arith, nat_lt, slice_index_or, ltb-true, lt-ltb, length-append}
use Rattle.std.proofs.Math.ListN.{get_or-append}
use Rattle.std.proofs.Math.Seq.{get_or-append_seam}
use Rattle.std.proofs.lemmas.List.Sums.{fold-append}
use Rattle.esb_flags.specs.declared.options.Options.{Options}
use Rattle.esb_flags.specs.declared.command.Command.TheVariants as command
use Rattle.esb_core.specs.declared.event.Event.{Event}
use Rattle.esb_core.specs.declared.event.Event.TheVariants as event
use Rattle.esb_core.specs.Moves.{options_of}
use Rattle.esb_core.specs.History.{moves_in, Begun, begun_at, builds_in, no_begun, context, active_build, builds, build}
use Rattle.esb_core.specs.Laws.{Verdict, refused, accepted, verdict, if_idle, begins_by, begins, IsBegunBy}
use Rattle.esb_core.proofs.Legal.{each}
use Rattle.esb_core.proofs.Moving.{IsLonger, moves-longer}
use Rattle.esb_core.proofs.Pushed.{begun_in, begun-from, builds-pushed}

-- the builds of a longer list go on
pub builds-longer : (es fs : List Event) → IsLonger (builds es) (builds (es ++ fs))
builds-longer es fs =
    let more = moves-longer es fs in
    record {
      rest = begun_in more.rest;
      is = ap builds_in more.is ∙ fold-append begun_at [] (moves_in es) more.rest ∙ begun-from (builds es) more.rest;
    }

pub builds-grow : (es fs : List Event) → length (builds es) ≤ length (builds (es ++ fs))
builds-grow es fs = let more = builds-longer es fs in let long = ap length more.is in let sum = length-append (builds es) more.rest in omega (arith, long, sum)

pub build-stays : (es fs : List Event) (n : ℕ) → n < length (builds es) → build (es ++ fs) n ≡ build es n
build-stays es fs n lt = let more = builds-longer es fs in ap (λ bs. slice_index_or bs n no_begun) more.is ∙ get_or-append (builds es) more.rest no_begun n lt

-- an event begins one build at most
AtMostOne : List Begun → Type 0
AtMostOne bs = (bs ≡ []) ⊎ ((b : Begun) × (bs ≡ b ∷ []))

one-at-most : (before : List Event) (e : Event) → AtMostOne (begins before e)
unfolding AtMostOne
one-at-most before (event.Arrive p) = by p.request
  where
    build_of : (key : ℕ) (options : Options) (stays : Bool) → AtMostOne (cond stays [] (record { key = key; options = options } ∷ []))
    build_of key options true = inl refl
    build_of key options false = inr (record { key = key; options = options }, refl)

    idle : (o : Option ℕ) (b : Begun) → AtMostOne (if_idle o b)
    idle None b = inr (b, refl)
    idle (Some n) b = inl refl

    of : (v : Verdict) → AtMostOne (begins_by before v)
    of (refused text) = inl refl
    of (accepted (command.Build key options)) = build_of key options options.context
    of (accepted (command.Rebuild key)) = idle (active_build before key) (record { key = key; options = options_of (context before key) })
    of (accepted (command.Cancel key)) = inl refl
    of (accepted (command.Dispose key)) = inl refl
    of (accepted (command.Watch key)) = inl refl
    of (accepted (command.Serve key port)) = inl refl
    of (accepted command.Ping) = inl refl

    by : (t : Bool) → AtMostOne (cond t (begins_by before (verdict before p)) [])
    by true = of (verdict before p)
    by false = inl refl
one-at-most before event.EndOfInput = inl refl
one-at-most before (event.Claim role job) = inl refl
one-at-most before (event.Record worker n q a) = inl refl
one-at-most before (event.Deliver worker n t p) = inl refl
one-at-most before (event.Settle worker n o) = inl refl
one-at-most before event.Pop = inl refl
one-at-most before (event.Written worker n f) = inl refl

extended : (es : List Event) (e : Event) (n : ℕ) → n < length (builds es) → IsBegunBy es n → IsBegunBy (es ++ e ∷ []) n
extended es e n lt h = record {
  before = h.before;
  by = h.by;
  more = h.more ++ e ∷ [];
  at = ap (λ (xs : List Event). xs ++ e ∷ []) h.at ∙ append_assoc h.before (h.by ∷ h.more) (e ∷ []);
  number = h.number;
  gives = h.gives ∙ ap (λ (b : Begun). b ∷ []) (sym (build-stays es (e ∷ []) n lt));
}

below_or_last : (n m : ℕ) → n < m + 1 → (n < m) ⊎ (n ≡ m)
below_or_last n m lt = by (nat_lt n m) refl
  where
    by : (t : Bool) → nat_lt n m ≡ t → (n < m) ⊎ (n ≡ m)
    by true below = inl (ltb-true n m below)
    by false past = inr (grind (arith, lt-ltb))

pub begun-each : (events : List Event) (n : ℕ) → n < length (builds events) → IsBegunBy events n
unfolding AtMostOne
begun-each events = each (λ es. (n : ℕ) → n < length (builds es) → IsBegunBy es n) (λ n lt. absurd (omega (arith, lt))) step events
  where
    step : (es : List Event) (e : Event) → ((n : ℕ) → n < length (builds es) → IsBegunBy es n) → (n : ℕ) → n < length (builds (es ++ e ∷ [])) → IsBegunBy (es ++ e ∷ []) n
    step es e rec n lt = by (one-at-most es e)
      where
        pushed : builds (es ++ e ∷ []) ≡ builds es ++ begins es e
        pushed = builds-pushed es e

        at : (b : Begun) → begins es e ≡ b ∷ [] → (n < length (builds es)) ⊎ (n ≡ length (builds es)) → IsBegunBy (es ++ e ∷ []) n
        at b is (inl below) = extended es e n below (rec n below)
        at b is (inr last) = record {
          before = es;
          by = e;
          more = [];
          at = refl;
          number = sym last;
          gives =
              is ∙ ap (λ (c : Begun). c ∷ [])
              (sym (ap (λ bs. slice_index_or bs n no_begun) (pushed ∙ ap (λ (cs : List Begun). builds es ++ cs) is) ∙ ap (λ (k : ℕ). slice_index_or (builds es ++ b ∷ []) k no_begun) last
              ∙ get_or-append_seam (builds es) b [] no_begun));
        }

        by : AtMostOne (begins es e) → IsBegunBy (es ++ e ∷ []) n
        by (inl none) =
            let same = ap length (pushed ∙ ap (λ (cs : List Begun). builds es ++ cs) none ∙ append-nil (builds es)) in
            let below : n < length (builds es) = omega (arith, same, lt) in
            extended es e n below (rec n below)
        by (inr one) =
            let long = ap length (pushed ∙ ap (λ (cs : List Begun). builds es ++ cs) one.1) in
            let sum = length-append (builds es) (one.0 ∷ []) in
            at one.0 one.1 (below_or_last n (length (builds es)) (omega (arith, long, sum, lt)))
