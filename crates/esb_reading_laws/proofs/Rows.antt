-- Lists of items are read exactly where their items are.
use Rattle.std.proofs.Common.{◌≡◌, ℕ, zero, suc, ◌+◌, ◌<◌, ◌≤◌, max, Bool, true, false, not, ◌&&◌, cond, List, [], ◌∷◌, ◌++◌, length, map, Some, refl, ap, sym, ◌∙◌, subst, append_assoc, append-nil, arith}
use Rattle.std.specs.List.{flat_map, AllByRecursion}
use Rattle.esb_token.specs.declared.token.Token.{Token}
use Rattle.esb_token.specs.Tokens.{SpelledBetween}
use Rattle.esb_tree.specs.Levels.{most}
use Rattle.esb_reader.specs.declared.node.Node.{Node}
use Rattle.esb_reader.specs.Places.{Text}
use Rattle.esb_reader.specs.Reader.{Reader, and_then, pure, node, none, repeated}
use Rattle.esb_reader.specs.Parts.{behind, many}
use Rattle.esb_reader.specs.Stands.{Syntax, Stands, Rule, row, last_stops, list_stops}
use Rattle.esb_reading_laws.specs.Laws.{Repeats}
use Rattle.esb_reading_laws.proofs.Steps.{then_some, some_is, then_goes, if_goes, if_not, spelled_split, spelled_join}

-- each item of a list has fewer levels than a number
pub all_below : {A : Type 0} (f : A → ℕ) (xs : List A) (top : ℕ) → most (map f xs) < top → AllByRecursion (λ x. f x < top) xs
all_below f [] top h = tt
all_below f (x ∷ xs) top h = (omega arith, all_below f xs top (omega arith))

module _ {A : Type 0} (text : Text) (S : Syntax A) (n top : ℕ) (test : ℕ → Bool) (stops : A → Token → Bool) (item : Reader (Node A)) (r : Repeats text S n top test stops item) where
  -- what was read behind those found
  pub record More (found all : Node (List A)) (i j : ℕ) : Type 0 where
    pub xs : Node (List A)
    pub tree : all.tree ≡ found.tree ++ xs.tree
    pub levels : all.levels ≡ max found.levels xs.levels
    pub stands : Stands text (row S) n xs i j

  nothing_more : (found all : Node (List A)) (i j : ℕ) → pure found i ≡ Some (all, j) → More found all i j
  nothing_more found all i j h =
      let same = some_is _ _ h in
      record {
        xs = none;
        tree = sym (ap (λ p. p.0.tree) same) ∙ sym (append-nil found.tree);
        levels = sym (ap (λ p. p.0.levels) same) ∙ omega arith;
        stands = record { good = tt; levels = refl; fits = omega arith; spelled = ap (λ p. p.1) same };
      }

  one_more : (found all : Node (List A)) (x : Node A) (i m j : ℕ) → Stands text S n x i m → More (node (found.tree ++ x.tree ∷ []) (max found.levels x.levels)) all m j → More found all i j
  one_more found all x i m j here more =
      record {
        xs = node (x.tree ∷ more.xs.tree) (max x.levels more.xs.levels);
        tree = more.tree ∙ append_assoc found.tree (x.tree ∷ []) more.xs.tree;
        levels = let e = more.levels in omega arith;
        stands = record {
          good = (here.good, more.stands.good);
          levels = ap (λ l. max l (most (map S.levels_of more.xs.tree))) here.levels ∙ ap (λ l. max x.levels l) more.stands.levels;
          fits = let a = here.fits in let b = more.stands.fits in omega arith;
          spelled = spelled_join text i (S.yields x.tree) _ m j here.spelled more.stands.spelled;
        };
      }

  pub many_some : (turns : ℕ) (found all : Node (List A)) (i j : ℕ) → repeated test item turns found i ≡ Some (all, j) → More found all i j
  unfolding repeated
  many_some zero found all i j h = nothing_more found all i j h
  many_some (suc turns) found all i j h = by_test (test i) (many_some turns) h
    where
      by_test : (b : Bool) → ((f a : Node (List A)) (k l : ℕ) → repeated test item turns f k ≡ Some (a, l) → More f a k l)
          → cond b (and_then (item i) (λ x. repeated test item turns (node (found.tree ++ x.tree ∷ []) (max found.levels x.levels)))) (Some (found, i)) ≡ Some (all, j) → More found all i j
      by_test false again h = nothing_more found all i j h
      by_test true again h =
          let first = then_some (item i) _ (all, j) h in
          one_more found all first.0.0 i first.0.1 j (r.rule.sound i first.0.0 first.0.1 first.1) (again _ all first.0.1 j first.2)

  -- a list that was read from its beginning
  pub list_some : (turns : ℕ) (all : Node (List A)) (i j : ℕ) → repeated test item turns none i ≡ Some (all, j) → Stands text (row S) n all i j
  list_some turns all i j h =
      let more = many_some turns none all i j h in
      let levels : all.levels ≡ more.xs.levels = let e = more.levels in omega arith in
      record {
        good = subst (AllByRecursion S.Good) (sym more.tree) more.stands.good;
        levels = ap (λ ts. most (map S.levels_of ts)) more.tree ∙ more.stands.levels ∙ sym levels;
        fits = let f = more.stands.fits in omega arith;
        spelled = subst (λ ts. SpelledBetween text i (flat_map S.yields ts) j) (sym more.tree) more.stands.spelled;
      }

  -- each item takes a byte
  pub row_moves : (xs : List A) (i j : ℕ) → AllByRecursion S.Good xs → SpelledBetween text i (flat_map S.yields xs) j → i ≤ length text → (i + length xs ≤ j) × (j ≤ length text)
  row_moves [] i j good h within = let e : i ≡ j = h in (omega arith, omega arith)
  row_moves (x ∷ xs) i j good h within =
      let cut = spelled_split text i (S.yields x) (flat_map S.yields xs) j h in
      let here = r.moves x i cut.0 good.0 cut.1 in
      let rest = row_moves xs cut.0 j good.1 cut.2 here.1 in
      (let a = here.0 in let b = rest.0 in omega arith, rest.1)

  -- an item stops before what follows it in the list
  stops_there : (x : A) (xs : List A) (m j : ℕ) → S.Good x → AllByRecursion S.Good xs → SpelledBetween text m (flat_map S.yields xs) j → last_stops stops (x ∷ xs) (behind text j) ≡ true → stops x (behind text m) ≡ true
  stops_there x [] m j good others h last = subst (λ k. stops x (behind text k) ≡ true) (sym h) last
  stops_there x (y ∷ ys) m j good others h last =
      let cut = spelled_split text m (S.yields y) (flat_map S.yields ys) j h in
      r.apart x m good (r.starts y m cut.0 others.0 cut.1)

  last_of_rest : (x : A) (xs : List A) (t : Token) → last_stops stops (x ∷ xs) t ≡ true → last_stops stops xs t ≡ true
  last_of_rest x [] t h = refl
  last_of_rest x (y ∷ ys) t h = h

  ended : (found : Node (List A)) (tree : List A) (levels i j : ℕ) → found.tree ≡ tree → found.levels ≡ levels → i ≡ j → pure found i ≡ Some (node tree levels, j)
  ended found tree levels i j a b c = ap (λ t. Some (node t found.levels, i)) a ∙ ap (λ l. Some (node tree l, i)) b ∙ ap (λ k. Some (node tree levels, k)) c

  none_of : (a b : Bool) → (a && not b) ≡ true → b ≡ false
  none_of true true h = cc
  none_of true false h = refl
  none_of false b h = cc

  first_of_two : (a b : Bool) → (a && b) ≡ true → a ≡ true
  first_of_two true b h = refl
  first_of_two false b h = cc

  pub many_goes_each : (xs : List A) (turns : ℕ) (found : Node (List A)) (i j : ℕ) → AllByRecursion S.Good xs → most (map S.levels_of xs) ≤ n → AllByRecursion (λ x. S.levels_of x < top) xs → SpelledBetween text i (flat_map S.yields xs) j → length xs ≤ turns
      → test j ≡ false → last_stops stops xs (behind text j) ≡ true
      → repeated test item turns found i ≡ Some (node (found.tree ++ xs) (max found.levels (most (map S.levels_of xs))), j)
  unfolding repeated
  many_goes_each [] zero found i j good fits low h enough none last = ended found _ _ i j (sym (append-nil found.tree)) (omega arith) h
  many_goes_each [] (suc turns) found i j good fits low h enough none last =
      if_not _ _ _ (ap test h ∙ none) ∙ ended found _ _ i j (sym (append-nil found.tree)) (omega arith) h
  many_goes_each (x ∷ xs) zero found i j good fits low h enough none last = absurd (omega arith)
  many_goes_each (x ∷ xs) (suc turns) found i j good fits low h enough none last =
      let cut = spelled_split text i (S.yields x) (flat_map S.yields xs) j h in
      let m = cut.0 in
      let one = node x (S.levels_of x) in
      let stands : Stands text S n one i m = record { good = good.0; levels = refl; fits = omega arith; spelled = cut.1 } in
      let read = r.rule.complete i one m stands low.0 (stops_there x xs m j good.0 good.1 cut.2 last) in
      let rest = many_goes_each xs turns (node (found.tree ++ x ∷ []) (max found.levels (S.levels_of x))) m j good.1 (omega arith) low.1 cut.2 (omega arith) none (last_of_rest x xs (behind text j) last) in
      let regrouped = ended (node ((found.tree ++ x ∷ []) ++ xs) (max (max found.levels (S.levels_of x)) (most (map S.levels_of xs)))) _ _ j j (append_assoc found.tree (x ∷ []) xs) (omega arith) refl in
      if_goes _ _ _ (r.starts x i m good.0 cut.1) ∙ then_goes _ _ one m read ∙ rest ∙ regrouped

  -- a list has no more items than the text has bytes
  row_short : (xs : List A) (i j : ℕ) → AllByRecursion S.Good xs → SpelledBetween text i (flat_map S.yields xs) j → length xs ≤ length text
  row_short [] i j good h = omega arith
  row_short (x ∷ xs) i j good h =
      let cut = spelled_split text i (S.yields x) (flat_map S.yields xs) j h in
      let here = r.moves x i cut.0 good.0 cut.1 in
      let all = row_moves (x ∷ xs) i j good h (omega (arith, here.0, here.1)) in
      omega (arith, all.0, all.1)

-- a list is read exactly, where what follows ends its items and begins none
pub many_rule : {A : Type 0} (text : Text) (S : Syntax A) (n top : ℕ) (begins : Token → Bool) (stops : A → Token → Bool) (item : Reader (Node A)) → Repeats text S n top (λ i. begins (behind text i)) stops item
    → Rule text (row S) n top (list_stops stops begins) (many text begins item)
many_rule text S n top begins stops item r = record {
  sound = λ i x j h. list_some text S n top (λ m. begins (behind text m)) stops item r (length text) x i j h;
  complete = λ i x j stands low stop.
      let test : ℕ → Bool = λ m. begins (behind text m) in
      let deep = stands.levels in
      let fits = stands.fits in
      many_goes_each text S n top test stops item r x.tree (length text) none i j stands.good (omega (arith, deep, fits)) (all_below S.levels_of x.tree top (omega (arith, deep, low))) stands.spelled (row_short text S n top test stops item r x.tree i j stands.good stands.spelled)
      (none_of text S n top test stops item r (last_stops stops x.tree (behind text j)) (begins (behind text j)) stop)
      (first_of_two text S n top test stops item r (last_stops stops x.tree (behind text j)) _ stop)
      ∙ ap (λ l. Some (node x.tree l, j)) (let e : max 0 (most (map S.levels_of x.tree)) ≡ x.levels = omega (arith, deep) in e);
}

pub no_items : {A : Type 0} (text : Text) (begins : Token → Bool) (item : Reader (Node A)) (i : ℕ) → begins (behind text i) ≡ false → many text begins item i ≡ Some (none, i)
unfolding repeated
no_items text begins item i h = by_turns (length text)
  where
    by_turns : (turns : ℕ) → repeated (λ m. begins (behind text m)) item turns none i ≡ Some (none, i)
    by_turns zero = refl
    by_turns (suc turns) = if_not _ _ _ h
