-- The steps by which passes are split and joined keep the lock's rule, and how it begins and ends.
use Rattle.std.proofs.Common.{◌≡◌, ℕ, zero, suc, ◌^◌, ◌<◌, ◌≤◌, List, [], ◌∷◌, ◌++◌, length, set, sym, refl, ap, ◌∙◌, subst, ⊎_elim, inl, inr, arith, Option, Some}
use Rattle.std.specs.Prelude.{slice_index, slice_set, slice_get}
use Rattle.std.proofs.lemmas.List.Elements.{All-append}
use mathlib.Core.Logic.{dite}
use mathlib.Core.Option.{some, some-injective, some-ne-none}
use mathlib.Core.List.{IsPrefix}
use native.Mathlib.Decide.{dec_le}
use lib.ListN.{get_elem?}
use Rattle.atomic_table.specs.Table.{State, keeps, stepped, Allows, Splits, Joins, opening, Final, Seen}
use Rattle.atomic_table.proofs.Lists.{set_else, at_snoc}
use Rattle.esb_turns.specs.declared.view.Stage.TheVariants.{Idle}
use Rattle.esb_turns.specs.declared.view.View.{View}
use Rattle.esb_turns.specs.Views.{one, total, waits, serves, holds_ticket, shares_in, owns, times, IsWhole, waits_at, serves_at, holds_at, newcomer, spent, fewer, partner, both, informed}
use Rattle.esb_turns.specs.Rule.{Queued, Fits, InTurn}
use Rattle.esb_turns.specs.Steps.{Seated, Compares}
use Rattle.esb_turns.proofs.Sums.{total-set, total-append, total-alone}
use Rattle.esb_turns.proofs.Prefixes.{prefix-refl, prefix-nil, prefix-shorter}
use Rattle.esb_turns.proofs.Line.{quiet}
use Rattle.esb_turns.proofs.TicketSteps.{each-set}

only : {A : Type 0} {a : A} (i : ℕ) (v : A) → get_elem? (a ∷ []) i ≡ some v → a ≡ v
only {A} {a} zero v e = some-injective a v e
only {A} {a} (suc i) v e = absurd (some-ne-none v (sym e))

module _ {E B : Type 0} (entries : B → List E) (is_at_rest : B → Type 0) (callers : ℕ) where
  abbrev Rule : State (Option B) (View E) → Type 0
  Rule = InTurn entries is_at_rest callers

  pub splits : (id n : ℕ) (v : View E) → v.stage ≡ Idle → 1 ≤ n → n < v.shares → Splits Rule id v (fewer n v) (partner n v)
  splits id n v idle some_share fewer_shares s r at =
      let a : View E = fewer n v in let b : View E = partner n v in let views : List (View E) = set s.views id a ++ b ∷ [] in
      let sums = (λ (f : View E → ℕ). total-append f (set s.views id a) (b ∷ [])) in
      let no_ticket : holds_ticket v ≡ 0 = ap holds_at idle in
      let no_turn : serves v ≡ 0 = ap serves_at idle in
      let turns = total-set serves s.views id v a at in let turns' = sums serves in
      let tickets = total-set holds_ticket s.views id v a at in let tickets' = sums holds_ticket in
      let shares = total-set shares_in s.views id v a at in let shares' = sums shares_in in
      let counted = r.counted in let fits = r.each id v at in
      let turns_same : total serves views ≡ total serves s.views = omega arith in record {
        log = r.log;
        turn = r.turn;
        next = r.next;
        few = r.few;
        words = r.words;
        counted = omega arith;
        queued = λ k. let w : waits k v ≡ 0 = ap (waits_at k) idle in let c = total-set (waits k) s.views id v a at in let d = sums (waits k) in
            let same : total (waits k) views ≡ total (waits k) s.views = omega arith in
            let P : ℕ × ℕ → Type 0 = λ p. Queued r.turn r.next k p.0 p.1 in subst P (λ i. (sym same i, sym turns_same i)) (r.queued k);
        shared = let c = r.shared in omega arith;
        placed = λ k. let c = r.placed k in let d = total-set (owns k) s.views id v a at in let e = sums (owns k) in omega arith;
        each = λ j u e. ⊎_elim
            (each-set (Fits r.log) s.views id a (record { seen = fits.seen; told = fits.told; own = fits.own; whole = λ x. absurd (omega arith); ticket = omega arith; spent = λ x. absurd (omega arith) }) (λ j u other e. r.each j u e) j u)
            (λ (x : b ≡ u). subst (Fits r.log) x (record { seen = fits.seen; told = prefix-nil r.log; own = λ k d h. absurd (omega arith); whole = λ x. absurd (omega arith); ticket = omega arith; spent = λ x. absurd (omega arith) }))
            (at_snoc (set s.views id a) b u j e);
        home = λ e. r.home (sym turns_same ∙ e);
        out = λ e. r.out (omega arith);
      }

  pub joins : (id other : ℕ) (v w : View E) → v.stage ≡ Idle → w.stage ≡ Idle → 1 ≤ v.shares → Joins Rule id v other w (both v w) spent
  joins id other v w idle idle' some_share s r at apart at' =
      let a : View E = both v w in let first : List (View E) = set s.views id a in let views : List (View E) = set first other spent in
      let there : get_elem? s.views other ≡ some w = sym (set_else s.views id other a apart) ∙ at' in
      let no_ticket : holds_ticket v ≡ 0 = ap holds_at idle in let no_ticket' : holds_ticket w ≡ 0 = ap holds_at idle' in
      let no_turn : serves v ≡ 0 = ap serves_at idle in let no_turn' : serves w ≡ 0 = ap serves_at idle' in
      let turns = total-set serves s.views id v a at in let turns' = total-set serves first other w spent at' in
      let tickets = total-set holds_ticket s.views id v a at in let tickets' = total-set holds_ticket first other w spent at' in
      let shares = total-set shares_in s.views id v a at in let shares' = total-set shares_in first other w spent at' in
      let counted = r.counted in let fits = r.each id v at in let fits' = r.each other w there in
      let turns_same : total serves views ≡ total serves s.views = omega arith in record {
        log = r.log;
        turn = r.turn;
        next = r.next;
        few = r.few;
        words = r.words;
        counted = omega arith;
        queued = λ k. let p : waits k v ≡ 0 = ap (waits_at k) idle in let q : waits k w ≡ 0 = ap (waits_at k) idle' in
            let c = total-set (waits k) s.views id v a at in let d = total-set (waits k) first other w spent at' in
            let same : total (waits k) views ≡ total (waits k) s.views = omega arith in
            let P : ℕ × ℕ → Type 0 = λ p. Queued r.turn r.next k p.0 p.1 in subst P (λ i. (sym same i, sym turns_same i)) (r.queued k);
        shared = let c = r.shared in omega arith;
        placed = λ k. let c = r.placed k in let d = total-set (owns k) s.views id v a at in let e = total-set (owns k) first other w spent at' in
            let f = total-append (λ (p : ℕ × E). one k p.0) v.own w.own in omega arith;
        each = each-set (Fits r.log) first other spent
            (record { seen = prefix-nil r.log; told = prefix-nil r.log; own = λ k d h. absurd (omega arith); whole = λ x. absurd (omega arith); ticket = omega arith; spent = λ x. (refl, refl, refl) })
            (λ j u unlike e. each-set (Fits r.log) s.views id a
            (record {
              seen = fits.seen;
              told = fits'.seen;
              own = All-append (λ (p : ℕ × E). slice_get r.log p.0 ≡ Some p.1) v.own w.own fits.own fits'.own;
              whole = λ x. absurd (omega arith);
              ticket = omega arith;
              spent = λ x. absurd (omega arith);
            })
            (λ j u unlike e. r.each j u e) j u e);
        home = λ e. r.home (sym turns_same ∙ e);
        out = λ e. r.out (omega arith);
      }

  -- the step where what is told is the whole list that a view has now seen
  compares-to : (s : State (Option B) (View E)) (r : Rule s) (id : ℕ) (me : Seated E B) (list : List E) → get_elem? s.views id ≡ some me.0 → me.0.stage ≡ Idle → 1 ≤ me.0.shares → IsPrefix list r.log
      → Rule (stepped s 0 (slice_index s.words 0) id me.1 (informed list me.0) keeps)
  compares-to s r id me list at idle some_share begins =
      let v = me.0 in let w : View E = informed list v in
      let turns = total-set serves s.views id v w at in let tickets = total-set holds_ticket s.views id v w at in let shares = total-set shares_in s.views id v w at in
      let no_ticket : holds_ticket v ≡ 0 = ap holds_at idle in let no_turn : serves v ≡ 0 = ap serves_at idle in
      let counted = r.counted in let fits = r.each id v at in
      let turns_same : total serves (set s.views id w) ≡ total serves s.views = omega arith in record {
        log = r.log;
        turn = r.turn;
        next = r.next;
        few = r.few;
        words = ap (λ ws. slice_set ws 0 (slice_index ws 0)) r.words;
        counted = omega arith;
        queued = λ k. let d = total-set (waits k) s.views id v w at in let same : total (waits k) (set s.views id w) ≡ total (waits k) s.views = omega arith in
            let P : ℕ × ℕ → Type 0 = λ p. Queued r.turn r.next k p.0 p.1 in subst P (λ i. (sym same i, sym turns_same i)) (r.queued k);
        shared = let c = r.shared in omega arith;
        placed = λ k. let c = r.placed k in let d = total-set (owns k) s.views id v w at in omega arith;
        each = each-set (Fits r.log) s.views id w (record { seen = begins; told = prefix-nil r.log; own = fits.own; whole = λ x. absurd (omega arith); ticket = fits.ticket; spent = λ x. absurd (omega arith) })
            (λ j u other e. r.each j u e);
        home = λ e. r.home (sym turns_same ∙ e);
        out = λ e. r.out (omega arith);
      }

  pub compares : (slots id : ℕ) (me : Seated E B) → me.0.stage ≡ Idle → 1 ≤ me.0.shares → Allows Rule slots id me 0 (λ k. k) (Compares me)
  compares slots id me idle some_share s r wide at small =
      let v = me.0 in let fits = r.each id v at in
      dite (dec_le (length v.seen) (length v.told))
      (λ h. (
        informed v.told v,
        keeps,
        tt,
        compares-to s r id me v.told at idle some_share fits.told,
        (v.told, prefix-shorter v.seen v.told r.log fits.seen fits.told h, prefix-refl v.told, inr refl, refl),
      ))
      (λ h. (
        informed v.seen v,
        keeps,
        tt,
        compares-to s r id me v.seen at idle some_share fits.seen,
        (v.seen, prefix-refl v.seen, prefix-shorter v.told v.seen r.log fits.told fits.seen (omega arith), inl refl, refl),
      ))

  pub opens : (book : B) → is_at_rest book → entries book ≡ [] → 1 ≤ callers → callers < 2 ^ 32 → Rule (opening (0 ∷ 0 ∷ []) (Some book ∷ []) (newcomer callers))
  opens book rest none_yet some_caller few = record {
    log = [];
    turn = 0;
    next = 0;
    few = few;
    words = refl;
    counted = refl;
    queued = λ k. record { gone = λ x. refl; not_yet = λ x. refl; in_line = λ x y. absurd (omega arith); in_turn = λ x y. absurd (omega arith); someone = λ x. absurd (omega arith) };
    shared = omega arith;
    placed = λ k. grind arith;
    each = λ i v e. subst (Fits []) (only i v e)
        (record { seen = prefix-nil []; told = prefix-nil []; own = λ k d h. absurd (omega arith); whole = λ x. absurd (omega arith); ticket = omega arith; spent = λ x. (refl, refl, refl) });
    home = λ e. (book, refl, rest, none_yet);
    out = λ e. absurd (omega arith);
  }

  -- the pass with all shares knows the book when the lock is closed
  pub record IsEnd (v : View E) (slots : List (Option B)) : Type 0 where
    pub book : B
    pub slot : get_elem? slots 0 ≡ some (Some book)
    pub rest : is_at_rest book
    pub whole : IsWhole (entries book) v.own
    pub seen : IsPrefix v.seen (entries book)

  pub closes : (id : ℕ) (v : View E) (words : List ℕ) (slots : List (Option B)) → v.stage ≡ Idle → v.shares ≡ callers → Final (Seen Rule id v) words slots → IsEnd v slots
  closes id v words slots idle all f =
      let s = f.0 in let r = f.1.0 in let at = f.1.1 in let fits = r.each id v at in
      let no_turn : serves v ≡ 0 = ap serves_at idle in
      let shared : total shares_in s.views ≡ shares_in v = r.shared ∙ sym all in
      let tickets : total holds_ticket s.views ≡ holds_ticket v = total-alone holds_ticket shares_in s.views id v at (λ j u e none_left. let t = (r.each j u e).ticket in omega arith) shared in
      let no_ticket : holds_ticket v ≡ 0 = ap holds_at idle in
      let counted = r.counted in let line = r.queued r.turn in
      let turns : total serves s.views ≡ 0 = quiet r.turn r.next _ line.someone (omega arith) in
      let home = r.home turns in let book : B = home.0 in let list_is = home.3 in let list_is' = sym list_is in record {
        book = book;
        slot = f.4 0 (Some book) home.1;
        rest = home.2;
        whole = (let P : List E → Type 0 = λ l. IsWhole l v.own in subst P list_is' (
          (λ k. let own = total-alone (owns k) shares_in s.views id v at (λ j u e none_left. ap (times k) ((r.each j u e).spent none_left).2) shared in sym own ∙ r.placed k),
          fits.own,
        ));
        seen = (let P : List E → Type 0 = λ l. IsPrefix v.seen l in subst P list_is' fits.seen);
      }
