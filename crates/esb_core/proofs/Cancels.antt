-- A build is canceled exactly where a cancel or a dispose met it.
use Rattle.std.proofs.Common.{◌≡◌, ◌⊎◌, inl, inr, ℕ, ◌<◌, Bool, true, false, cond, ◌&&◌, List, [], ◌∷◌, ◌++◌, length, Option, None, Some, refl, sym, ap, subst, ◌∙◌, append_assoc, nat_eq, eq-eqb, eqb-true}
use Rattle.std.proofs.lemmas.Bool.{false≢true}
use Rattle.esb_wire.specs.declared.value.Packet.{Packet}
use Rattle.esb_flags.specs.declared.command.Command.{Command}
use Rattle.esb_flags.specs.declared.command.Command.TheVariants as command
use Rattle.esb_ask.specs.declared.outcome.Outcome.{Outcome}
use Rattle.esb_ask.specs.declared.outcome.Outcome.TheVariants as outcomes
use Rattle.esb_core.specs.declared.event.Event.{Event}
use Rattle.esb_core.specs.declared.event.Event.TheVariants as event
use Rattle.esb_core.specs.State.{build_at, start}
use Rattle.esb_core.specs.Sizes.{too_large}
use Rattle.esb_core.specs.Allowed.{allowed, has_begun, may_settle}
use Rattle.esb_core.specs.History.{Begun, active_build, builds, build, or_later, outcome, is_legal, is_legal_from, replay}
use Rattle.esb_core.specs.Laws.{Verdict, refused, accepted, verdict, large_if, overfull, overopened, canceled_if, settled_by, settles, Cancels, IsSettledBy, IsCanceledBy}
use Rattle.esb_core.proofs.Actives.{active-is, is-active, unclosed-still}
use Rattle.esb_core.proofs.Begins.{build-stays}
use Rattle.esb_core.proofs.Claims.{both_parts}
use Rattle.esb_core.proofs.Ends.{settled-earliest, earliest-settled, no-settling, none-settles}
use Rattle.esb_core.proofs.Lookups.{not_none, self}
use Rattle.esb_core.proofs.Replays.{is_legal_from-append}

-- the events before one of a legal list are legal, and it may come after them
parts-legal : (before : List Event) (e : Event) (more : List Event) → is_legal (before ++ e ∷ more) ≡ true → (is_legal before ≡ true) × (allowed (replay before) e ≡ true)
parts-legal before e more legal =
    let parts = both_parts (is_legal before) (is_legal_from (replay before) (e ∷ more)) (sym (is_legal_from-append start before (e ∷ more)) ∙ legal) in
    (parts.0, (both_parts (allowed (replay before) e) _ parts.1).0)

-- no worker cancels
never-canceled : (worker n : ℕ) (before : List Event) → allowed (replay before) (event.Settle worker n outcomes.Canceled) ≡ true → ⊥
never-canceled worker n before may = by (has_begun (replay before) n) may
  where
    by : (t : Bool) → (t && false) ≡ true → ⊥
    by true e = false≢true e
    by false e = false≢true e

-- the build that a command cancels is the active one of its context
canceled-active : (n : ℕ) (o : Option ℕ) → canceled_if n o ≡ Some outcomes.Canceled → o ≡ Some n
canceled-active n None e = not_none outcomes.Canceled (sym e)
canceled-active n (Some m) e = by (nat_eq m n) refl e
  where
    by : (t : Bool) → nat_eq m n ≡ t → cond t (Some outcomes.Canceled) None ≡ Some outcomes.Canceled → Some m ≡ Some n
    by true is e = ap Some (eqb-true m n is)
    by false is e = not_none outcomes.Canceled (sym e)

-- a command that settles a build as canceled names its context
record Names (before : List Event) (n : ℕ) (v : Verdict) : Type 0 where
  key : ℕ
  cancels : Cancels v key
  active : active_build before key ≡ Some n

names : (before : List Event) (n : ℕ) (v : Verdict) → settled_by before n v ≡ Some outcomes.Canceled → Names before n v
names before n (refused text) e = not_none outcomes.Canceled (sym e)
names before n (accepted (command.Build key options)) e = not_none outcomes.Canceled (sym e)
names before n (accepted (command.Rebuild key)) e = not_none outcomes.Canceled (sym e)
names before n (accepted (command.Cancel key)) e = record { key = key; cancels = inl refl; active = canceled-active n (active_build before key) e }
names before n (accepted (command.Dispose key)) e = record { key = key; cancels = inr refl; active = canceled-active n (active_build before key) e }
names before n (accepted (command.Watch key)) e = not_none outcomes.Canceled (sym e)
names before n (accepted (command.Serve key port)) e = not_none outcomes.Canceled (sym e)
names before n (accepted command.Ping) e = not_none outcomes.Canceled (sym e)

pub canceled-by : (events : List Event) (n : ℕ) → is_legal events ≡ true → outcome events n ≡ Some outcomes.Canceled → IsCanceledBy events n
canceled-by events n legal is = by h.by h.at h.gives
  where
    h : IsSettledBy events n outcomes.Canceled
    h = settled-earliest events n outcomes.Canceled is

    arrives : (p : Packet) → events ≡ h.before ++ event.Arrive p ∷ h.more → (t : Bool) → p.request ≡ t → cond t (settled_by h.before n (verdict h.before p)) None ≡ Some outcomes.Canceled → IsCanceledBy events n
    arrives p at true request gives =
        let found = names h.before n (verdict h.before p) gives in
        let before_legal = (parts-legal h.before (event.Arrive p) h.more (ap is_legal (sym at) ∙ legal)).0 in
        let active = active-is h.before found.key n before_legal found.active in
        let stays : build events n ≡ build h.before n = ap (λ (es : List Event). build es n) at ∙ build-stays h.before (event.Arrive p ∷ h.more) n active.begun in
        record {
          before = h.before;
          packet = p;
          more = h.more;
          at = at;
          request = request;
          cancels = subst (λ (k : ℕ). Cancels (verdict h.before p) k) (sym active.its_key ∙ ap (λ (b : Begun). b.key) (sym stays)) found.cancels;
          begun = active.begun;
          unsettled = none-settles h.before n h.earliest;
        }
    arrives p at false request gives = not_none outcomes.Canceled (sym gives)

    -- a build that would be too large isn't canceled
    large : (t l : Bool) → cond t (large_if l) None ≡ Some outcomes.Canceled → IsCanceledBy events n
    large true true e = absurd (let f : Some too_large ≡ Some outcomes.Canceled = e in let g : ⊥ = cc in g)
    large true false e = not_none outcomes.Canceled (sym e)
    large false l e = not_none outcomes.Canceled (sym e)

    by : (e : Event) → events ≡ h.before ++ e ∷ h.more → settles h.before n e ≡ Some outcomes.Canceled → IsCanceledBy events n
    by (event.Arrive p) at gives = arrives p at p.request refl gives
    by (event.Settle worker m o) at gives = settle (nat_eq m n) gives
      where
        settle : (t : Bool) → cond t (Some o) None ≡ Some outcomes.Canceled → IsCanceledBy events n
        settle true e =
            let f : Some o ≡ Some outcomes.Canceled = e in
            let same : o ≡ outcomes.Canceled = cc in
            absurd (never-canceled worker m h.before (sym (ap (λ (p : Outcome). allowed (replay h.before) (event.Settle worker m p)) same) ∙ (parts-legal h.before (event.Settle worker m o) h.more (ap is_legal (sym at) ∙ legal)).1))
        settle false e = not_none outcomes.Canceled (sym e)
    by event.EndOfInput at gives = not_none outcomes.Canceled (sym gives)
    by (event.Claim role job) at gives = not_none outcomes.Canceled (sym gives)
    by (event.Record worker m q a) at gives = large (nat_eq m n) (overfull h.before m q a) gives
    by (event.Deliver worker m t p) at gives = large (nat_eq m n) (overopened h.before m p) gives
    by event.Pop at gives = not_none outcomes.Canceled (sym gives)
    by (event.Written worker m f) at gives = not_none outcomes.Canceled (sym gives)

pub by-cancel : (events : List Event) (n : ℕ) → is_legal events ≡ true → IsCanceledBy events n → outcome events n ≡ Some outcomes.Canceled
by-cancel events n legal h =
    earliest-settled events n outcomes.Canceled (record {
      before = h.before;
      by = event.Arrive h.packet;
      more = h.more;
      at = h.at;
      gives = ap (λ t. cond t (settled_by h.before n (verdict h.before h.packet)) None) h.request ∙ gives h.cancels;
      earliest = λ first e rest at. no-settling h.before first e rest n h.unsettled at;
    })
  where
    before_legal : is_legal h.before ≡ true
    before_legal = (parts-legal h.before (event.Arrive h.packet) h.more (ap is_legal (sym h.at) ∙ legal)).0

    stays : build events n ≡ build h.before n
    stays = ap (λ (es : List Event). build es n) h.at ∙ build-stays h.before (event.Arrive h.packet ∷ h.more) n h.begun

    active : active_build h.before (build events n).key ≡ Some n
    active = is-active h.before (build events n).key n before_legal (record { begun = h.begun; its_key = ap (λ (b : Begun). b.key) (sym stays); unclosed = unclosed-still h.before n before_legal h.unsettled })

    own : canceled_if n (active_build h.before (build events n).key) ≡ Some outcomes.Canceled
    own = ap (λ (o : Option ℕ). canceled_if n o) active ∙ ap (λ t. cond t (Some outcomes.Canceled) None) (self n)

    gives : Cancels (verdict h.before h.packet) (build events n).key → settled_by h.before n (verdict h.before h.packet) ≡ Some outcomes.Canceled
    gives (inl is) = ap (λ v. settled_by h.before n v) is ∙ own
    gives (inr is) = ap (λ v. settled_by h.before n v) is ∙ own
