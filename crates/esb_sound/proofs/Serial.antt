-- A history in which each event is the one that comes next is the only one.
use Rattle.std.proofs.Common.{◌≡◌, ◌+◌, Bool, true, false, cond, List, [], ◌∷◌, ◌++◌, length, map, slice_get, Option, Some, None, refl, sym, ap, subst, ◌∙◌, append_assoc, arith}
use Rattle.std.specs.Prelude.{unwrap_or}
use Rattle.std.proofs.lemmas.Bool.{false≢true}
use Rattle.std.proofs.lemmas.List.Sums.{sum_by-append}
use Rattle.esb_base.specs.World.{Folder}
use Rattle.esb_wire.specs.declared.value.Packet.{Packet}
use Rattle.esb_core.specs.declared.event.Event.{Event}
use Rattle.esb_core.specs.declared.event.Event.TheVariants as events
use Rattle.esb_core.specs.History.{arrived}
use Rattle.esb_sound.specs.Each.{Each, Each-from}
use Rattle.esb_sound.specs.Likeness.{normal_event}
use Rattle.esb_sound.specs.Sent.{arrivals}
use Rattle.esb_sound.specs.Serial.{Arrives, Follows, InTurn, IsInTurn, IsSerial, is_end, is_lapse, lapses, next}
use Rattle.esb_sound.proofs.Likeness.{alike-next, map-append}

list_end : {X : Type 0} (xs : List X) → xs ++ [] ≡ xs
list_end [] = refl
list_end (x ∷ xs) = ap (λ ys. x ∷ ys) (list_end xs)

same-some : {X : Type 0} (x y : X) (o : Option X) → o ≡ Some x → o ≡ Some y → x ≡ y
same-some x y o e f = ap (λ p. unwrap_or p x) (sym e ∙ f)

end-normal : (e : Event) → is_end (normal_event e) ≡ is_end e
end-normal (events.Arrive packet) = refl
end-normal events.EndOfInput = refl
end-normal (events.Claim role job) = refl
end-normal (events.Record worker n question answer) = refl
end-normal (events.Deliver worker n task product) = refl
end-normal (events.Settle worker n outcome) = refl
end-normal (events.Written worker n failures) = refl
end-normal events.Pop = refl

module _ (world : List Folder) (packets : List Packet) where
  no-end : (before : List Event) (f : Event) → next world packets before ≡ Some events.EndOfInput → Follows world packets before f → ⊥
  no-end before f last h = false≢true (sym h.1 ∙ sym (end-normal f) ∙ ap is_end (sym (same-some events.EndOfInput (normal_event f) (next world packets before) last h.0)))

  at-end : (before : List Event) → next world packets (before ++ []) ≡ Some events.EndOfInput → next world packets before ≡ Some events.EndOfInput
  at-end before e = ap (λ (es : List Event). next world packets es) (sym (list_end before)) ∙ e

  along : (before : List Event) (e : Event) (es : List Event) → next world packets (before ++ e ∷ es) ≡ Some events.EndOfInput → next world packets ((before ++ e ∷ []) ++ es) ≡ Some events.EndOfInput
  along before e es h = ap (λ (ds : List Event). next world packets ds) (append_assoc before (e ∷ []) es) ∙ h

  same-steps : (before before' es fs : List Event) → map normal_event before ≡ map normal_event before' → Each-from (Follows world packets) before es → Each-from (Follows world packets) before' fs
      → next world packets (before ++ es) ≡ Some events.EndOfInput → next world packets (before' ++ fs) ≡ Some events.EndOfInput → map normal_event es ≡ map normal_event fs
  same-steps before before' [] [] alike h k last last' = refl
  same-steps before before' [] (f ∷ fs) alike h k last last' = absurd (no-end before' f (sym (alike-next world packets before before' alike) ∙ at-end before last) k.0)
  same-steps before before' (e ∷ es) [] alike h k last last' = absurd (no-end before e (alike-next world packets before before' alike ∙ at-end before' last') h.0)
  same-steps before before' (e ∷ es) (f ∷ fs) alike h k last last' =
      let same : normal_event e ≡ normal_event f = same-some (normal_event e) (normal_event f) (next world packets before) h.0.0 (alike-next world packets before before' alike ∙ k.0.0) in
      let longer : map normal_event (before ++ e ∷ []) ≡ map normal_event (before' ++ f ∷ []) = map-append normal_event before (e ∷ []) ∙ (λ i. alike i ++ same i ∷ []) ∙ sym (map-append normal_event before' (f ∷ [])) in
      let rest = same-steps (before ++ e ∷ []) (before' ++ f ∷ []) es fs longer h.1 k.1 (along before e es last) (along before' f fs last') in
      λ i. same i ∷ rest i

  pub one_history : (one other : List Event) → IsSerial world packets one → IsSerial world packets other → map normal_event one ≡ map normal_event other
  one_history one other h k =
      ap (map normal_event) h.whole
      ∙ map-append normal_event h.before (events.EndOfInput ∷ [])
      ∙ ap (λ (es : List Event). es ++ events.EndOfInput ∷ []) (same-steps [] [] h.before k.before refl h.steps k.steps h.last k.last)
      ∙ sym (map-append normal_event k.before (events.EndOfInput ∷ []))
      ∙ sym (ap (map normal_event) k.whole)

-- ---- histories without lapses

get-middle : {X : Type 0} (xs : List X) (x : X) (ys : List X) → slice_get (xs ++ x ∷ ys) (length xs) ≡ Some x
get-middle [] x ys = refl
get-middle (w ∷ xs) x ys = get-middle xs x ys

pub get-past : {X : Type 0} (xs : List X) → slice_get xs (length xs) ≡ None
get-past [] = refl
get-past (x ∷ xs) = get-past xs

none-here : (e : Event) (es : List Event) → lapses (e ∷ es) ≡ 0 → (is_lapse e ≡ false) × (lapses es ≡ 0)
none-here e es h = by (is_lapse e) refl (sym (sum_by-append (λ d. cond (is_lapse d) 1 0) (e ∷ []) es) ∙ h)
  where
    by : (b : Bool) → is_lapse e ≡ b → (0 + cond b 1 0) + lapses es ≡ 0 → (is_lapse e ≡ false) × (lapses es ≡ 0)
    by false is none = (is, omega (arith, none))
    by true is none = absurd (omega (arith, none))

arrives-here : (packets : List Packet) (before es : List Event) (e : Event) → packets ≡ arrivals before ++ arrivals (e ∷ es) → Arrives packets before e
arrives-here packets before es (events.Arrive packet) is = ap (λ (ps : List Packet). slice_get ps (length (arrivals before))) is ∙ get-middle (arrivals before) packet (arrivals es)
arrives-here packets before es events.EndOfInput is = tt
arrives-here packets before es (events.Claim role job) is = tt
arrives-here packets before es (events.Record worker n question answer) is = tt
arrives-here packets before es (events.Deliver worker n task product) is = tt
arrives-here packets before es (events.Settle worker n outcome) is = tt
arrives-here packets before es (events.Written worker n failures) is = tt
arrives-here packets before es events.Pop is = tt

arrivals-append : (es fs : List Event) → arrivals (es ++ fs) ≡ arrivals es ++ arrivals fs
arrivals-append [] fs = refl
arrivals-append (e ∷ es) fs = ap (λ (ps : List Packet). arrived e ++ ps) (arrivals-append es fs) ∙ sym (append_assoc (arrived e) (arrivals es) (arrivals fs))

follows-from : (tells : Type 0) (world : List Folder) (packets : List Packet) (before es : List Event) → tells → Each-from (IsInTurn tells world) before es → lapses es ≡ 0 → packets ≡ arrivals before ++ arrivals es
    → Each-from (Follows world packets) before es
follows-from tells world packets before [] t all none is = tt
follows-from tells world packets before (e ∷ es) t all none is =
    let rest = none-here e es none in (
      (all.0.follows t rest.0 packets (arrives-here packets before es e is), all.0.goes_on),
      follows-from tells world packets (before ++ e ∷ []) es t all.1 rest.1 (is ∙ one-more),
    )
  where
    one-more : arrivals before ++ arrivals (e ∷ es) ≡ arrivals (before ++ e ∷ []) ++ arrivals es
    one-more = ap (λ (ps : List Packet). arrivals before ++ ps) (arrivals-append (e ∷ []) es) ∙ sym (append_assoc (arrivals before) (arrivals (e ∷ [])) (arrivals es)) ∙ ap (λ (ps : List Packet). ps ++ arrivals es) (sym (arrivals-append before (e ∷ [])))

-- where there are no lapses, each event of a history in turn is the one that comes next
pub all-follow : (tells : Type 0) (world : List Folder) (list : List Event) → tells → InTurn tells world list → lapses list ≡ 0 → Each (Follows world (arrivals list)) list
all-follow tells world list t all none = follows-from tells world (arrivals list) [] list t all none refl
