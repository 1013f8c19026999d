-- Readers that a test at their place tells apart are exact, and lists whose items such a test tells from what ends them.
use Rattle.std.proofs.Common.{◌≡◌, ◌⊎◌, inl, inr, ℕ, suc, ◌<◌, ◌≤◌, max, Bool, true, false, List, [], ◌∷◌, map, length, Some, refl, ap, sym, ◌∙◌, subst, arith}
use Rattle.std.specs.List.{flat_map, AllByRecursion}
use Rattle.esb_token.specs.declared.token.Token.{Token}
use Rattle.esb_token.specs.Tokens.{SpelledBetween}
use Rattle.esb_tree.specs.Levels.{most}
use Rattle.esb_reader.specs.declared.node.Node.{Node}
use Rattle.esb_reader.specs.Places.{Text}
use Rattle.esb_reader.specs.Reader.{Reader, choose, node, none}
use Rattle.esb_reader.specs.Parts.{behind, both}
use Rattle.esb_reader.specs.Stands.{Syntax, Stands, Rule, pairs, row, which, either, last_stops}
use Rattle.esb_reading_laws.specs.Laws.{Repeats}
use Rattle.esb_reading_laws.proofs.Steps.{then_some, if_some, some_is, then_goes, if_goes, if_not, spelled_split, spelled_join}
use Rattle.esb_reading_laws.proofs.Rows.{all_below, list_some, many_goes_each, row_moves}
use Rattle.esb_literal_laws.specs.Forks.{fork, guard, items}

-- What the first reader reads passes the test at its place, and what the second reads doesn't.
pub fork_rule : {A : Type 0} (text : Text) (S : Syntax A) (First Second : A → Type 0) (n top : ℕ) (stops : A → Token → Bool) (test : ℕ → Bool) (p q : Reader (Node A))
    → Rule text (which S First) n top stops p → Rule text (which S Second) n top stops q
    → ((i : ℕ) (x : Node A) (j : ℕ) → Stands text (which S First) n x i j → x.levels < top → stops x.tree (behind text j) ≡ true → test i ≡ true)
    → ((i : ℕ) (x : Node A) (j : ℕ) → Stands text (which S Second) n x i j → x.levels < top → stops x.tree (behind text j) ≡ true → test i ≡ false)
    → Rule text (either S First Second) n top stops (fork test p q)
fork_rule text S First Second n top stops test p q first second is_first is_second = record {
  sound = λ i x j h. by_test i x j (test i) h;
  complete = λ i x j stands low stop. by_kind i x j stands low stop stands.good;
}
  where
    by_test : (i : ℕ) (x : Node _) (j : ℕ) (b : Bool) → choose b p q i ≡ Some (x, j) → Stands text (either S First Second) n x i j
    by_test i x j true h = let s = first.sound i x j h in record { good = inl s.good; levels = s.levels; fits = s.fits; spelled = s.spelled }
    by_test i x j false h = let s = second.sound i x j h in record { good = inr s.good; levels = s.levels; fits = s.fits; spelled = s.spelled }

    by_kind : (i : ℕ) (x : Node _) (j : ℕ) → Stands text (either S First Second) n x i j → x.levels < top → stops x.tree (behind text j) ≡ true → First x.tree ⊎ Second x.tree → fork test p q i ≡ Some (x, j)
    by_kind i x j s low stop (inl g) =
        let stands : Stands text (which S First) n x i j = record { good = g; levels = s.levels; fits = s.fits; spelled = s.spelled } in
        if_goes _ _ _ (is_first i x j stands low stop) ∙ first.complete i x j stands low stop
    by_kind i x j s low stop (inr g) =
        let stands : Stands text (which S Second) n x i j = record { good = g; levels = s.levels; fits = s.fits; spelled = s.spelled } in
        if_not _ _ _ (is_second i x j stands low stop) ∙ second.complete i x j stands low stop

-- A reader behind a test that says at the place of a node what another says of the node.
pub guard_rule : {A : Type 0} (text : Text) (S : Syntax A) (n top : ℕ) (stops : A → Token → Bool) (test : ℕ → Bool) (fact : A → Bool) (p : Reader (Node A))
    → Rule text S n top stops p → ((x : A) (i j : ℕ) → S.Good x → SpelledBetween text i (S.yields x) j → test i ≡ fact x)
    → Rule text (which S (λ x. S.Good x × (fact x ≡ true))) n top stops (guard test p)
guard_rule text S n top stops test fact p rule same = record {
  sound = λ i x j h.
      let passes = if_some (test i) (p i) (x, j) h in
      let s = rule.sound i x j passes.1 in
      record { good = (s.good, sym (same x.tree i j s.good s.spelled) ∙ passes.0); levels = s.levels; fits = s.fits; spelled = s.spelled };
  complete = λ i x j s low stop.
      if_goes _ _ _ (same x.tree i j s.good.0 s.spelled ∙ s.good.1)
      ∙ rule.complete i x j (record { good = s.good.0; levels = s.levels; fits = s.fits; spelled = s.spelled }) low stop;
}

-- a reader that finds the nodes of n levels too finds those of fewer
pub lower_rule : {A : Type 0} (text : Text) (S : Syntax A) (n : ℕ) (stops : A → Token → Bool) (p : Reader (Node A)) → Rule text S n (suc n) stops p → Rule text S n n stops p
lower_rule text S n stops p rule = record {
  sound = rule.sound;
  complete = λ i x j s low stop. rule.complete i x j s (omega (arith, low)) stop;
}

-- fewer tokens that end the nodes
pub fewer_rule : {A : Type 0} (text : Text) (S : Syntax A) (n top : ℕ) (stops ends : A → Token → Bool) (p : Reader (Node A)) → Rule text S n top stops p
    → ((x : A) (t : Token) → S.Good x → ends x t ≡ true → stops x t ≡ true) → Rule text S n top ends p
fewer_rule text S n top stops ends p rule fewer = record {
  sound = rule.sound;
  complete = λ i x j s low stop. rule.complete i x j s low (fewer x.tree (behind text j) s.good stop);
}

-- a list has no more items than the text has bytes
row_short : {A : Type 0} (text : Text) (S : Syntax A) (n top : ℕ) (test : ℕ → Bool) (stops : A → Token → Bool) (item : Reader (Node A)) (r : Repeats text S n top test stops item)
    → (xs : List A) (i j : ℕ) → AllByRecursion S.Good xs → SpelledBetween text i (flat_map S.yields xs) j → length xs ≤ length text
row_short text S n top test stops item r [] i j good h = omega arith
row_short text S n top test stops item r (x ∷ xs) i j good h =
    let cut = spelled_split text i (S.yields x) (flat_map S.yields xs) j h in
    let here = r.moves x i cut.0 good.0 cut.1 in
    let all = row_moves text S n top test stops item r (x ∷ xs) i j good h (omega (arith, here.0, here.1)) in
    omega (arith, all.0, all.1)

-- A list of items and what ends it, which a test at the places tells apart.
pub ended_rule : {A B : Type 0} (text : Text) (S : Syntax A) (T : Syntax B) (n top : ℕ) (test : ℕ → Bool) (stops : A → Token → Bool) (ends : B → Token → Bool) (item : Reader (Node A)) (q : Reader (Node B))
    → Repeats text S n top test stops item → Rule text T n top ends q
    → ((b : B) (m j : ℕ) → T.Good b → SpelledBetween text m (T.yields b) j → test m ≡ false)
    → ((a : A) (b : B) (m j : ℕ) → S.Good a → T.Good b → SpelledBetween text m (T.yields b) j → stops a (behind text m) ≡ true)
    → Rule text (pairs (row S) T) n top (λ p. ends p.1) (both (items text test item) q)
ended_rule text S T n top test stops ends item q r last none_there apart = record {
  sound = λ i x j h.
      let one = then_some (items text test item i) _ (x, j) h in
      let two = then_some (q one.0.1) _ (x, j) one.2 in
      let a = list_some text S n top test stops item r (length text) one.0.0 i one.0.1 one.1 in
      let b = last.sound one.0.1 two.0.0 two.0.1 two.1 in
      subst (λ z. Stands text (pairs (row S) T) n z.0 i z.1) (some_is _ _ two.2)
      (record {
        good = (a.good, b.good);
        levels = ap (λ l. max l (T.levels_of two.0.0.tree)) a.levels ∙ ap (λ l. max one.0.0.levels l) b.levels;
        fits = let u = a.fits in let v = b.fits in omega (arith, u, v);
        spelled = spelled_join text i (flat_map S.yields one.0.0.tree) (T.yields two.0.0.tree) one.0.1 two.0.1 a.spelled b.spelled;
      });
  complete = λ i x j stands low stop.
      let cut = spelled_split text i (flat_map S.yields x.tree.0) (T.yields x.tree.1) j stands.spelled in
      let m = cut.0 in
      let u = node x.tree.0 (max 0 (most (map S.levels_of x.tree.0))) in
      let v = node x.tree.1 (T.levels_of x.tree.1) in
      let deep = stands.levels in
      let fits = stands.fits in
      let b : Stands text T n v m j = record { good = stands.good.1; levels = refl; fits = omega (arith, deep, fits); spelled = cut.2 } in
      then_goes _ _ u m
      (many_goes_each text S n top test stops item r x.tree.0 (length text) none i m stands.good.0 (omega (arith, deep, fits)) (all_below S.levels_of x.tree.0 top (omega (arith, deep, low))) cut.1
      (row_short text S n top test stops item r x.tree.0 i m stands.good.0 cut.1) (none_there x.tree.1 m j stands.good.1 cut.2) (ended x.tree.0 m j stands.good.0 stands.good.1 cut.2))
      ∙ then_goes _ _ v j (last.complete m v j b (omega (arith, deep, low)) stop)
      ∙ ap (λ z. Some (node x.tree z, j)) (let e : max (max 0 (most (map S.levels_of x.tree.0))) (T.levels_of x.tree.1) ≡ x.levels = omega (arith, deep) in e);
}
  where
    ended : (xs : List _) (m j : ℕ) {b : _} → AllByRecursion S.Good xs → T.Good b → SpelledBetween text m (T.yields b) j → last_stops stops xs (behind text m) ≡ true
    ended [] m j good g h = refl
    ended (x ∷ []) m j {b} good g h = apart x b m j good.0 g h
    ended (x ∷ y ∷ ys) m j good g h = ended (y ∷ ys) m j good.1 g h
