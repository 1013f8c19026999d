-- The steps by which a caller passes the turn on keep the lock's rule.
use Rattle.std.proofs.Common.{◌≡◌, ℕ, zero, suc, ◌+◌, ◌%◌, ◌^◌, List, [], ◌∷◌, ◌++◌, length, set, sym, refl, ap, ◌∙◌, subst, arith, length-append, Option, Some}
use Rattle.std.specs.Prelude.{slice_index, slice_set, slice_get}
use Rattle.std.proofs.lemmas.List.Elements.{All-append}
use mathlib.Core.Logic.{dite}
use mathlib.Core.Option.{some}
use mathlib.Core.List.{IsPrefix}
use native.Mathlib.Decide.{ℕ_discrete, dec_lt}
use lib.ListN.{get_elem?}
use Rattle.atomic_table.specs.Table.{State, gives, stepped, rest as tail, Allows}
use Rattle.atomic_table.proofs.Lists.{set_here}
use Rattle.esb_turns.specs.declared.view.Stage.TheVariants.{Serving}
use Rattle.esb_turns.specs.declared.view.View.{View}
use Rattle.esb_turns.specs.Views.{one, total, below, waits, serves, holds_ticket, shares_in, owns, times, Stands, waits_at, serves_at, holds_at, left_with}
use Rattle.esb_turns.specs.Rule.{Queued, Fits, InTurn}
use Rattle.esb_turns.specs.Steps.{Seated, PassesWith, Passes}
use Rattle.esb_turns.proofs.Sums.{one-same, one-other, below-in, below-out, total-set, total-at, total-append, total-two}
use Rattle.esb_turns.proofs.Prefixes.{prefix-refl, prefix-trans, prefix-append, prefix-get, get-last, snoc-same}
use Rattle.esb_turns.proofs.Line.{line-passes}
use Rattle.esb_turns.proofs.TicketSteps.{each-set}

next-word : (n : ℕ) → (n % 2 ^ 64 + 1) % 2 ^ 64 ≡ (n + 1) % 2 ^ 64
next-word n = omega arith

-- one place more
pub one-more : (k n m : ℕ) → m ≡ n + 1 → one k n + below k n ≡ below k m
one-more k n m e = dite (ℕ_discrete k n)
    (λ same. let a = one-same k n same in let b = below-out k n (omega arith) in let c = below-in k m (omega arith) in omega arith)
    (λ other. let a = one-other k n other in dite (dec_lt k n)
    (λ h. let b = below-in k n h in let c = below-in k m (omega arith) in omega arith)
    (λ h. let b = below-out k n (omega arith) in let c = below-out k m (omega arith) in omega arith))

module _ {E : Type 0} where
  pub stands-longer : (list longer : List E) (own : List (ℕ × E)) → IsPrefix list longer → Stands list own → Stands longer own
  stands-longer list longer own p h = λ k d within. let x = h k d within in prefix-get list longer _ _ p x

  pub stands-one : (list : List E) (n : ℕ) (x : E) → slice_get list n ≡ Some x → Stands list ((n, x) ∷ [])
  stands-one list n x e zero d h = e
  stands-one list n x e (suc k) d h = absurd (omega arith)

  -- one entry more, at the end
  pub stands-more : (list : List E) (own : List (ℕ × E)) (entry : E) → Stands list own → Stands (list ++ entry ∷ []) (own ++ (length list, entry) ∷ [])
  stands-more list own entry h =
      let longer : List E = list ++ entry ∷ [] in
      All-append (λ (p : ℕ × E). slice_get longer p.0 ≡ Some p.1) own ((length list, entry) ∷ []) (stands-longer list longer own (prefix-append list (entry ∷ [])) h)
      (stands-one longer (length list) entry (get-last list entry))

  -- what a view knows is so after the list has grown
  pub fits-longer : (list longer : List E) (v : View E) → IsPrefix list longer → serves v ≡ 0 → Fits list v → Fits longer v
  fits-longer list longer v p no_turn f = record {
    seen = prefix-trans v.seen list longer f.seen p;
    told = prefix-trans v.told list longer f.told p;
    own = stands-longer list longer v.own p f.own;
    whole = λ e. absurd (omega arith);
    ticket = f.ticket;
    spent = f.spent;
  }

-- the value of the first slot
abbrev front : {B : Type 0} → Option B → List (ℕ × Option B) → Option B
front d [] = d
front d (x ∷ xs) = x.1

module _ {E B : Type 0} (entries : B → List E) (is_at_rest : B → Type 0) (callers : ℕ) where
  abbrev Rule : State (Option B) (View E) → Type 0
  Rule = InTurn entries is_at_rest callers

  pass-on : (s : State (Option B) (View E)) (r : Rule s) (id : ℕ) (v : View E) (book : B) (more : List (ℕ × E)) → get_elem? s.views id ≡ some v → length s.homes ≡ 1
      → v.stage ≡ Serving → is_at_rest book → IsPrefix v.seen (entries book) → Stands (entries book) more → ((k : ℕ) → times k more + below k (length v.seen) ≡ below k (length (entries book)))
      → Rule (stepped s 1 ((slice_index s.words 1 + 1) % 2 ^ 64) id ((0, Some book) ∷ []) (left_with (entries book) more v) gives)
  pass-on s r id v book more at wide turn rest longer stands places =
      let list : List E = entries book in let w : View E = left_with list more v in
      let has_turn : serves v ≡ 1 = ap serves_at turn in
      let has_ticket : holds_ticket v ≡ 1 = ap holds_at turn in
      let fits = r.each id v at in let whole = fits.whole has_turn in let fits_ticket = fits.ticket in
      let length_is : length v.seen ≡ length r.log = ap length whole in
      let grows : IsPrefix r.log list = let P : List E → Type 0 = λ l. IsPrefix l list in subst P whole longer in
      let turns = total-set serves s.views id v w at in
      let tickets = total-set holds_ticket s.views id v w at in
      let shares = total-set shares_in s.views id v w at in
      let counted = r.counted in
      let some_turn = total-at serves s.views id v at in
      let line = r.queued r.turn in let more_tickets = line.someone (omega arith) in let alone = line.in_turn refl more_tickets in
      let one_turn : total serves s.views ≡ 1 = omega arith in
      let no_turn : total serves (set s.views id w) ≡ 0 = omega arith in record {
        log = list;
        turn = r.turn + 1;
        next = r.next;
        few = r.few;
        words = ap (λ ws. slice_set ws 1 ((slice_index ws 1 + 1) % 2 ^ 64)) r.words ∙ ap (λ k. r.next % 2 ^ 64 ∷ k ∷ []) (next-word r.turn);
        counted = omega arith;
        queued = λ k. let a : waits k v ≡ 0 = ap (waits_at k) turn in let b = total-set (waits k) s.views id v w at in
            let same : total (waits k) s.views ≡ total (waits k) (set s.views id w) = omega arith in
            let P : ℕ × ℕ → Type 0 = λ p. Queued (r.turn + 1) r.next k p.0 p.1 in
            subst P (λ i. (same i, sym no_turn i)) (line-passes r.turn r.next k (total (waits k) s.views) (total serves s.views) (r.queued k) one_turn);
        shared = let a = r.shared in omega arith;
        placed = λ k. let a = r.placed k in let b = total-set (owns k) s.views id v w at in let c = total-append (λ (p : ℕ × E). one k p.0) v.own more in let d = places k in
            let e : below k (length v.seen) ≡ below k (length r.log) = ap (below k) length_is in omega arith;
        each = each-set (Fits list) s.views id w
            (record {
              seen = prefix-refl list;
              told = prefix-trans v.told r.log list fits.told grows;
              own = All-append (λ (p : ℕ × E). slice_get list p.0 ≡ Some p.1) v.own more (stands-longer r.log list v.own grows fits.own) stands;
              whole = λ e. absurd (omega arith);
              ticket = omega arith;
              spent = λ e. absurd (omega arith);
            })
            (λ j u other e. let two = total-two serves s.views id j v u (λ same. other (sym same)) at e in fits-longer r.log list u grows (omega arith) (r.each j u e));
        home = λ e. (book, set_here s.homes 0 (some (Some book)) (omega arith), rest, refl);
        out = λ e. absurd (omega arith);
      }

  pub passes-with : (slots id : ℕ) (me : Seated E B) (book : B) (entry : E) → slots ≡ 1 → me.1 ≡ (0, Some book) ∷ [] → me.0.stage ≡ Serving → is_at_rest book
      → entries book ≡ me.0.seen ++ entry ∷ [] → Allows Rule slots id me 1 (λ n. (n + 1) % 2 ^ 64) (PassesWith entries me)
  passes-with slots id me book entry one_slot out turn rest list_is s r wide at small =
      let v = me.0 in let more : List (ℕ × E) = (length v.seen, entry) ∷ [] in
      let longer : length (entries book) ≡ length v.seen + 1 = ap length list_is ∙ length-append v.seen (entry ∷ []) in
      let begins : IsPrefix v.seen (entries book) = (entry ∷ [], sym list_is) in
      let stands : Stands (entries book) more = stands-one (entries book) (length v.seen) entry (let P : List E → Type 0 = λ l. slice_get l (length v.seen) ≡ Some entry in subst P (sym list_is) (get-last v.seen entry)) in
      let w : View E = left_with (entries book) more v in let word : ℕ = (slice_index s.words 1 + 1) % 2 ^ 64 in
      let kept = pass-on s r id v book more at (wide ∙ one_slot) turn rest begins stands (λ k. let a = one-more k (length v.seen) (length (entries book)) longer in omega arith) in (
        w,
        gives,
        tt,
        (let P : List (ℕ × Option B) → Type 0 = λ slots. Rule (stepped s 1 word id slots w gives) in subst P (sym out) kept),
        λ book' entry' out' list_is'.
            let slot : Some book ≡ Some book' = ap (front (Some book)) (sym out ∙ out') in
            let same_book : book ≡ book' = cc in
            let same_list : v.seen ++ entry ∷ [] ≡ v.seen ++ entry' ∷ [] = sym list_is ∙ ap entries same_book ∙ list_is' in
            let same : entry ≡ entry' = snoc-same v.seen entry entry' same_list in
            let whole_list : entries book ≡ v.seen ++ entry' ∷ [] = list_is ∙ same_list in
            λ j. (left_with (whole_list j) ((length v.seen, same j) ∷ []) v, tail (out j)),
      )

  pub passes : (slots id : ℕ) (me : Seated E B) (book : B) → slots ≡ 1 → me.1 ≡ (0, Some book) ∷ [] → me.0.stage ≡ Serving → is_at_rest book
      → entries book ≡ me.0.seen → Allows Rule slots id me 1 (λ n. (n + 1) % 2 ^ 64) (Passes me)
  passes slots id me book one_slot out turn rest list_is s r wide at small =
      let v = me.0 in
      let same : length (entries book) ≡ length v.seen = ap length list_is in
      let begins : IsPrefix v.seen (entries book) = let P : List E → Type 0 = λ l. IsPrefix v.seen l in subst P (sym list_is) (prefix-refl v.seen) in
      let w : View E = left_with (entries book) [] v in let word : ℕ = (slice_index s.words 1 + 1) % 2 ^ 64 in
      let kept = pass-on s r id v book [] at (wide ∙ one_slot) turn rest begins (λ k d h. absurd (omega arith)) (λ k. let a = ap (below k) same in omega arith) in (
        w,
        gives,
        tt,
        (let P : List (ℕ × Option B) → Type 0 = λ slots. Rule (stepped s 1 word id slots w gives) in subst P (sym out) kept),
        λ j. (left_with (list_is j) [] v, tail (out j)),
      )
