-- The steps draw and watch keep the lock's rule.
use Rattle.std.proofs.Common.{◌≡◌, ◌≢◌, ℕ, ◌+◌, ◌%◌, ◌^◌, ◌<◌, ◌≤◌, List, [], ◌∷◌, set, sym, refl, ap, ◌∙◌, subst, ⊎_elim, arith, Option, Some}
use Rattle.std.specs.Prelude.{slice_index, slice_set}
use mathlib.Core.Logic.{dite}
use mathlib.Core.Option.{some, none}
use mathlib.Core.List.{IsPrefix}
use native.Mathlib.Decide.{ℕ_discrete, dec_le}
use lib.ListN.{get_elem?}
use Rattle.atomic_table.specs.Table.{State, keeps, takes, stepped, Allows}
use Rattle.atomic_table.proofs.Lists.{at_set, set_here, set_again, one_turn}
use Rattle.esb_turns.specs.declared.view.Stage.TheVariants.{Idle, Waiting}
use Rattle.esb_turns.specs.declared.view.View.{View}
use Rattle.esb_turns.specs.Views.{one, total, waits, serves, holds_ticket, shares_in, owns, waits_at, serves_at, holds_at, waiting, serving}
use Rattle.esb_turns.specs.Rule.{Queued, Fits, InTurn}
use Rattle.esb_turns.specs.Steps.{Seated, Draws, Watches}
use Rattle.esb_turns.proofs.Sums.{one-same, total-set, total-at, total-le}
use Rattle.esb_turns.proofs.Prefixes.{prefix-refl}
use Rattle.esb_turns.proofs.Line.{line-draws, line-calls}

-- what holds of each view holds after one has changed
pub each-set : {V : Type 0} (P : V → Type 0) (views : List V) (id : ℕ) (w : V) → P w → ((j : ℕ) (u : V) → j ≢ id → get_elem? views j ≡ some u → P u) → (j : ℕ) (u : V) → get_elem? (set views id w) j ≡ some u → P u
each-set {V} P views id w mine others j u e = ⊎_elim (λ (x : (j ≡ id) × (w ≡ u)). subst P x.1 mine) (λ (x : (j ≢ id) × (get_elem? views j ≡ some u)). others j u x.0 x.1) (at_set views id j w u e)

next-word : (n : ℕ) → (n % 2 ^ 64 + 1) % 2 ^ 64 ≡ (n + 1) % 2 ^ 64
next-word n = omega arith

module _ {E B : Type 0} (entries : B → List E) (is_at_rest : B → Type 0) (callers : ℕ) where
  abbrev Rule : State (Option B) (View E) → Type 0
  Rule = InTurn entries is_at_rest callers

  pub draws : (slots id : ℕ) (me : Seated E B) → me.0.stage ≡ Idle → 1 ≤ me.0.shares
      → Allows Rule slots id me 0 (λ n. (n + 1) % 2 ^ 64) (Draws me)
  draws slots id me idle some_share s r wide at small =
      let v = me.0 in let n : ℕ = r.next in let w : View E = waiting n v in
      let word : ℕ = slice_index s.words 0 in
      let word_is : word ≡ n % 2 ^ 64 = ap (λ ws. slice_index ws 0) r.words in
      let no_ticket : holds_ticket v ≡ 0 = ap holds_at idle in
      let no_turn : serves v ≡ 0 = ap serves_at idle in
      let tickets = total-set holds_ticket s.views id v w at in
      let turns = total-set serves s.views id v w at in
      let shares = total-set shares_in s.views id v w at in
      let counted = r.counted in
      let turns_same : total serves (set s.views id w) ≡ total serves s.views = omega arith in
      let fits = r.each id v at in (
        w,
        keeps,
        tt,
        record {
          log = r.log;
          turn = r.turn;
          next = n + 1;
          few = r.few;
          words = ap (λ ws. slice_set ws 0 ((slice_index ws 0 + 1) % 2 ^ 64)) r.words ∙ ap (λ k. k ∷ r.turn % 2 ^ 64 ∷ []) (next-word n);
          counted = omega arith;
          queued = λ k. let a : waits k v ≡ 0 = ap (waits_at k) idle in let b = total-set (waits k) s.views id v w at in
              subst (Queued r.turn (n + 1) k (total (waits k) (set s.views id w))) (sym turns_same) (line-draws r.turn n k _ _ _ (r.queued k) (omega arith) (omega arith));
          shared = let a = r.shared in omega arith;
          placed = λ k. let a = r.placed k in let b = total-set (owns k) s.views id v w at in omega arith;
          each = each-set (Fits r.log) s.views id w (record { seen = fits.seen; told = fits.told; own = fits.own; whole = λ e. absurd (omega arith); ticket = some_share; spent = fits.spent })
              (λ j u other e. r.each j u e);
          home = λ e. r.home (sym turns_same ∙ e);
          out = λ e. r.out (let a = turns_same in omega arith);
        },
        (n, word_is, refl),
      )

  -- the line of a caller that waits: its ticket is from `turn` on, below `next`, and these are less than 2 ^ 32 apart
  waits_between : (s : State (Option B) (View E)) (r : Rule s) (id n : ℕ) (v : View E) → get_elem? s.views id ≡ some v → v.stage ≡ Waiting n
      → (r.turn ≤ n) × (n < r.next) × (r.next < r.turn + 2 ^ 32)
  waits_between s r id n v at is =
      let mine : waits n v ≡ 1 = ap (waits_at n) is ∙ one-same n n refl in
      let all = total-at (waits n) s.views id v at in
      let line = r.queued n in let gone = line.gone in let not_yet = line.not_yet in
      let tickets : total holds_ticket s.views ≤ total shares_in s.views = total-le holds_ticket shares_in s.views (λ i u e. (r.each i u e).ticket) in
      let few = r.few in let shared = r.shared in let counted = r.counted in (
        dite (dec_le r.turn n) (λ h. h) (λ h. let a = gone (omega arith) in absurd (omega arith)),
        dite (dec_le r.next n) (λ h. let a = not_yet h in absurd (omega arith)) (λ h. omega arith),
        omega arith,
      )

  -- a load that tells nothing
  pub unmoved : (s : State (Option B) (View E)) (r : Rule s) (i id : ℕ) (v : View E) (slots : List (ℕ × Option B)) → get_elem? s.views id ≡ some v
      → slice_set s.words i (slice_index s.words i) ≡ s.words → Rule (stepped s i (slice_index s.words i) id slots v keeps)
  unmoved s r i id v slots at same = let views_same : set s.views id v ≡ s.views = set_again s.views id v at in
      subst Rule (λ j. record { words = sym same j; homes = s.homes; views = sym views_same j }) r

  pub watches : (slots id : ℕ) (me : Seated E B) (n : ℕ) → slots ≡ 1 → me.0.stage ≡ Waiting n
      → Allows Rule slots id me 1 (λ k. k) (Watches entries is_at_rest me)
  watches slots id me n one_slot is s r wide at small =
      let v = me.0 in
      let word : ℕ = slice_index s.words 1 in
      let word_is : word ≡ r.turn % 2 ^ 64 = ap (λ ws. slice_index ws 1) r.words in
      let words_same : slice_set s.words 1 word ≡ r.next % 2 ^ 64 ∷ r.turn % 2 ^ 64 ∷ [] = ap (λ ws. slice_set ws 1 (slice_index ws 1)) r.words in
      let between = waits_between s r id n v at is in
      let after_turn = between.0 in let before_next = between.1 in let near = between.2 in
      let ticket_is : (m : ℕ) → v.stage ≡ Waiting m → m ≡ n = λ m e. let both : Waiting m ≡ Waiting n = sym e ∙ is in cc in
      dite (ℕ_discrete word (n % 2 ^ 64))
      (λ called.
      let here : r.turn ≡ n = one_turn r.turn n (2 ^ 64) after_turn (omega arith) (sym word_is ∙ called) in
      let line = r.queued r.turn in let gone = line.gone in
      let mine : waits r.turn v ≡ 1 = ap (waits_at r.turn) is ∙ one-same r.turn n here in
      let waiting_here = total-at (waits r.turn) s.views id v at in
      let alone = line.in_turn refl (omega arith) in
      let none_serves : total serves s.views ≡ 0 = omega arith in
      let home = r.home none_serves in let book : B = home.0 in
      let w : View E = serving (entries book) v in
      let no_turn : serves v ≡ 0 = ap serves_at is in
      let has_ticket : holds_ticket v ≡ 1 = ap holds_at is in
      let turns = total-set serves s.views id v w at in
      let tickets = total-set holds_ticket s.views id v w at in
      let shares = total-set shares_in s.views id v w at in
      let counted = r.counted in
      let turns_now : total serves (set s.views id w) ≡ total serves s.views + 1 = omega arith in
      let fits = r.each id v at in let list_is = home.3 in let fits_ticket = fits.ticket in
      let seen_now : IsPrefix v.seen (entries book) = let P : List E → Type 0 = λ l. IsPrefix v.seen l in subst P (sym list_is) fits.seen in (
        w,
        takes 0 (Some book),
        home.1,
        record {
          log = r.log;
          turn = r.turn;
          next = r.next;
          few = r.few;
          words = words_same;
          counted = omega arith;
          queued = λ k. let a : waits k v ≡ one k n = ap (waits_at k) is in let b = total-set (waits k) s.views id v w at in
              let same : one k r.turn ≡ one k n = ap (one k) here in
              line-calls r.turn r.next k _ _ _ _ (r.queued k) (omega arith) (omega arith) turns_now;
          shared = let a = r.shared in omega arith;
          placed = λ k. let a = r.placed k in let b = total-set (owns k) s.views id v w at in omega arith;
          each = each-set (Fits r.log) s.views id w
              (record { seen = let P : List E → Type 0 = λ l. IsPrefix l r.log in subst P (sym list_is) (prefix-refl r.log); told = fits.told; own = fits.own; whole = λ e. list_is; ticket = omega arith; spent = λ e. absurd (omega arith) })
              (λ j u other e. r.each j u e);
          home = λ e. absurd (omega arith);
          out = λ e. set_here s.homes 0 none (omega arith);
        },
        (λ m e. ((λ yes. record { book = book; now = refl; rest = home.2; seen = seen_now }), λ no. absurd (no (called ∙ ap (λ k. k % 2 ^ 64) (sym (ticket_is m e)))))),
      ))
      (λ other. (
        v,
        keeps,
        tt,
        unmoved s r 1 id v me.1 at (words_same ∙ sym r.words),
        (λ m e. ((λ yes. absurd (other (yes ∙ ap (λ k. k % 2 ^ 64) (ticket_is m e)))), λ no. refl)),
      ))
