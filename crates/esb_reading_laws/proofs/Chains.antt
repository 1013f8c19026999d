-- A node over a first child and items, where there are items: chains of operators, of members and of calls.
use Rattle.std.proofs.Common.{◌≡◌, ℕ, suc, ◌+◌, ◌<◌, ◌≤◌, ◌⊎◌, inl, inr, max, Bool, true, false, not, ◌&&◌, nat_lt, List, [], ◌∷◌, ◌++◌, map, Some, refl, ap, sym, ◌∙◌, subst, arith}
use Rattle.std.specs.List.{flat_map, AllByRecursion}
use Rattle.esb_token.specs.declared.token.Token.{Token}
use Rattle.esb_token.specs.Tokens.{SpelledBetween}
use Rattle.esb_tree.specs.Levels.{most}
use Rattle.esb_reader.specs.declared.node.Node.{Node}
use Rattle.esb_reader.specs.Places.{Text}
use Rattle.esb_reader.specs.Reader.{Reader, node, none}
use Rattle.esb_reader.specs.Parts.{behind, over, chain}
use Rattle.esb_reader.specs.Stands.{Syntax, Stands, Rule, row, which, list_stops}
use Rattle.esb_reading_laws.specs.Laws.{Longer, Extends}
use Rattle.esb_reading_laws.proofs.Steps.{lt_true, true_lt, then_some, if_some, some_is, then_goes, if_goes, spelled_split, spelled_join}

and_not : (a b : Bool) → a ≡ true → b ≡ false → (a && not b) ≡ true
and_not true false h g = refl
and_not true true h g = cc
and_not false b h g = cc

module _ {A B : Type 0} (text : Text) (n top : ℕ) (S : Syntax A) (T : Syntax B) (Head Whole : A → Type 0) (f : A → List B → A) (begins : Token → Bool) (stops : A → Token → Bool) (item_stops : B → Token → Bool) (whole : A → Token → Bool)
    (head : Reader (Node A)) (items : Reader (Node (List B)))
    (first_rule : Rule text (which S Head) n (suc n) stops head) (items_rule : Rule text (row T) n top (list_stops item_stops begins) items) (nothing : (j : ℕ) → begins (behind text j) ≡ false → items j ≡ Some (none, j)) (room : n ≤ top) (e : Extends text S T Head Whole f begins stops item_stops whole) where
  abbrev Wholes : Syntax A
  Wholes = which S Whole

  over_some : (first : Node A) (tree : List B) (l i m j : ℕ) (y : Node A) (k : ℕ) → Stands text (which S Head) n first i m → Stands text (row T) n (node tree l) m j → over n f first (node tree l) j ≡ Some (y, k) → Stands text Wholes n y i k
  over_some first [] l i m j y k here more h =
      subst (λ p. Stands text Wholes n p.0 i p.1) (some_is _ _ h)
      (record { good = e.alone first.tree here.good; levels = here.levels; fits = here.fits; spelled = subst (λ q. SpelledBetween text i (S.yields first.tree) q) more.spelled here.spelled })
  over_some first (z ∷ zs) l i m j y k here more h =
      let test = if_some (nat_lt (max first.levels l) n) _ (y, k) h in
      let below = lt_true (max first.levels l) n test.0 in
      subst (λ p. Stands text Wholes n p.0 i p.1) (some_is _ _ test.1)
      (record {
        good = e.made first.tree z zs here.good more.good;
        levels = e.levels_of first.tree (z ∷ zs) ∙ ap (λ a. max a (most (map T.levels_of (z ∷ zs))) + 1) here.levels ∙ ap (λ a. max first.levels a + 1) more.levels;
        fits = omega (arith, below);
        spelled = subst (λ ts. SpelledBetween text i ts j) (sym (e.yields first.tree (z ∷ zs))) (spelled_join text i (S.yields first.tree) (flat_map T.yields (z ∷ zs)) m j here.spelled more.spelled);
      })

  chain_some : (i : ℕ) (y : Node A) (j : ℕ) → chain n f head items i ≡ Some (y, j) → Stands text Wholes n y i j
  chain_some i y j h =
      let one = then_some (head i) _ (y, j) h in
      let two = then_some (items one.0.1) (λ rest. over n f one.0.0 rest) (y, j) one.2 in
      over_some one.0.0 two.0.0.tree two.0.0.levels i one.0.1 two.0.1 y j (first_rule.sound i one.0.0 one.0.1 one.1) (items_rule.sound one.0.1 two.0.0 two.0.1 two.1) two.2

  alone_goes : (i : ℕ) (y : Node A) (j : ℕ) → Stands text (which S Head) n y i j → whole y.tree (behind text j) ≡ true → y.levels < suc n → chain n f head items i ≡ Some (y, j)
  alone_goes i y j stands stop low =
      then_goes (head i) _ y j (first_rule.complete i y j stands low (e.head_ends y.tree _ stands.good stop))
      ∙ then_goes (items j) _ none j (nothing j (e.none_begins y.tree _ stop))

  longer_goes : (i : ℕ) (first : A) (z : B) (zs : List B) (j : ℕ) → Head first → AllByRecursion T.Good (z ∷ zs) → SpelledBetween text i (S.yields first ++ flat_map T.yields (z ∷ zs)) j
      → max (S.levels_of first) (most (map T.levels_of (z ∷ zs))) < n → whole (f first (z ∷ zs)) (behind text j) ≡ true
      → chain n f head items i ≡ Some (node (f first (z ∷ zs)) (max (S.levels_of first) (most (map T.levels_of (z ∷ zs))) + 1), j)
  longer_goes i first z zs j good others spelled fits stop =
      let cut = spelled_split text i (S.yields first) (flat_map T.yields (z ∷ zs)) j spelled in
      let m = cut.0 in
      let next = spelled_split text m (T.yields z) (flat_map T.yields zs) j cut.2 in
      let one = node first (S.levels_of first) in
      let l = most (map T.levels_of (z ∷ zs)) in
      let stands : Stands text (which S Head) n one i m = record { good = good; levels = refl; fits = omega arith; spelled = cut.1 } in
      let rest : Stands text (row T) n (node (z ∷ zs) l) m j = record { good = others; levels = refl; fits = omega arith; spelled = cut.2 } in
      then_goes (head i) _ one m (first_rule.complete i one m stands (omega arith) (e.head_apart first _ good (e.starts z m next.0 others.0 next.1)))
      ∙ then_goes (items m) _ (node (z ∷ zs) l) j (items_rule.complete m (node (z ∷ zs) l) j rest (omega arith) (and_not _ _ (e.item_ends first z zs _ stop) (e.none_begins _ _ stop)))
      ∙ if_goes _ _ _ (true_lt (max (S.levels_of first) l) n fits)

  chain_goes : (i : ℕ) (y : Node A) (j : ℕ) → Stands text Wholes n y i j → whole y.tree (behind text j) ≡ true → y.levels < suc n → chain n f head items i ≡ Some (y, j)
  chain_goes i y j stands stop low = by_split (e.split y.tree stands.good)
    where
      by_split : Head y.tree ⊎ Longer T Head f y.tree → chain n f head items i ≡ Some (y, j)
      by_split (inl h) = alone_goes i y j (record { good = h; levels = stands.levels; fits = stands.fits; spelled = stands.spelled }) stop low
      by_split (inr l) =
          let xs = l.second ∷ l.rest in
          let deep : y.levels ≡ max (S.levels_of l.first) (most (map T.levels_of xs)) + 1 = sym stands.levels ∙ ap S.levels_of l.is ∙ e.levels_of l.first xs in
          let spelled = subst (λ ts. SpelledBetween text i ts j) (ap S.yields l.is ∙ e.yields l.first xs) stands.spelled in
          let fits = stands.fits in
          let ends = subst (λ x. whole x (behind text j) ≡ true) l.is stop in
          longer_goes i l.first l.second l.rest j l.head l.tail spelled (omega (arith, deep, fits)) ends
          ∙ ap (λ a. Some (node (f l.first xs) a, j)) (sym deep) ∙ ap (λ t. Some (node t y.levels, j)) (sym l.is)

  pub chain_rule : Rule text Wholes n (suc n) whole (chain n f head items)
  chain_rule = record { sound = chain_some; complete = λ i y j stands low stop. chain_goes i y j stands stop low }
