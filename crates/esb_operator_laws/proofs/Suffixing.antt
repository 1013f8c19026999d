-- A node that goes on with a part behind it is read exactly where the node and the part are.
use Rattle.std.proofs.Common.{◌≡◌, ℕ, suc, ◌+◌, ◌<◌, ◌≤◌, inl, inr, max, Bool, true, false, ◌&&◌, nat_lt, ◌++◌, Some, refl, ap, sym, ◌∙◌, subst, arith}
use Rattle.esb_token.specs.declared.token.Token.{Token}
use Rattle.esb_token.specs.Tokens.{SpelledBetween}
use Rattle.esb_reader.specs.declared.node.Node.{Node}
use Rattle.esb_reader.specs.Places.{Text}
use Rattle.esb_reader.specs.Reader.{Reader, choose, pure, node}
use Rattle.esb_reader.specs.Parts.{behind}
use Rattle.esb_reader.specs.Stands.{Syntax, Stands, Rule, which}
use Rattle.esb_reading_laws.proofs.Steps.{lt_true, true_lt, then_some, if_some, some_is, then_goes, if_goes, if_not, spelled_split, spelled_join}
use Rattle.esb_operator_laws.specs.Suffixes.{suffix, extended, WithSuffix}

-- what the nodes and their parts are to one another
pub record Suffixing {A B : Type 0} (text : Text) (S : Syntax A) (T : A → Syntax B) (Head : A → Type 0) (allowed : A → Bool) (f : A → B → A) (begins : Token → Bool) (stops : A → Token → Bool) (ends : A → B → Token → Bool) (whole : A → Token → Bool) : Type 0 where
  pub yields : (x : A) (y : B) → S.yields (f x y) ≡ S.yields x ++ (T x).yields y
  pub levels_of : (x : A) (y : B) → S.levels_of (f x y) ≡ max (S.levels_of x) ((T x).levels_of y) + 1
  pub starts : (x : A) (y : B) (i j : ℕ) → (T x).Good y → SpelledBetween text i ((T x).yields y) j → begins (behind text i) ≡ true
  pub head_apart : (x : A) (t : Token) → Head x → allowed x ≡ true → begins t ≡ true → stops x t ≡ true
  pub head_ends : (x : A) (t : Token) → Head x → whole x t ≡ true → stops x t ≡ true
  pub part_ends : (x : A) (y : B) (t : Token) → Head x → (T x).Good y → whole (f x y) t ≡ true → ends x y t ≡ true
  pub none_begins : (x : A) (t : Token) → Head x → allowed x ≡ true → whole x t ≡ true → begins t ≡ false

module _ {A B : Type 0} (text : Text) (n top : ℕ) (S : Syntax A) (T : A → Syntax B) (Head : A → Type 0) (allowed : A → Bool) (f : A → B → A) (begins : Token → Bool) (stops : A → Token → Bool) (ends : A → B → Token → Bool) (whole : A → Token → Bool)
    (head : Reader (Node A)) (rest : A → Reader (Node B))
    (first_rule : Rule text (which S Head) n (suc n) stops head) (rest_rule : (x : A) → Head x → allowed x ≡ true → Rule text (T x) n top (ends x) (rest x)) (room : n ≤ top) (s : Suffixing text S T Head allowed f begins stops ends whole) where
  abbrev Wholes : Syntax A
  Wholes = which S (WithSuffix T Head allowed f)

  part_some : (x : Node A) (i m : ℕ) (y : Node A) (j : ℕ) → Stands text (which S Head) n x i m → allowed x.tree ≡ true → suffix n f (rest x.tree) x m ≡ Some (y, j) → Stands text Wholes n y i j
  part_some x i m y j here may h =
      let two = then_some (rest x.tree m) _ (y, j) h in
      let z = two.0.0 in
      let test = if_some (nat_lt (max x.levels z.levels) n) _ (y, j) two.2 in
      let below = lt_true (max x.levels z.levels) n test.0 in
      let more = (rest_rule x.tree here.good may).sound m z two.0.1 two.1 in
      subst (λ p. Stands text Wholes n p.0 i p.1) (some_is _ _ test.1)
      (record {
        good = inr (record { first = x.tree; second = z.tree; is = refl; head = here.good; may = may; good = more.good });
        levels = s.levels_of x.tree z.tree ∙ ap (λ a. max a ((T x.tree).levels_of z.tree) + 1) here.levels ∙ ap (λ a. max x.levels a + 1) more.levels;
        fits = omega (arith, below);
        spelled = subst (λ ts. SpelledBetween text i ts two.0.1) (sym (s.yields x.tree z.tree)) (spelled_join text i (S.yields x.tree) ((T x.tree).yields z.tree) m two.0.1 here.spelled more.spelled);
      })

  none_some : (x : Node A) (i m : ℕ) (y : Node A) (j : ℕ) → Stands text (which S Head) n x i m → pure x m ≡ Some (y, j) → Stands text Wholes n y i j
  none_some x i m y j here h =
      subst (λ p. Stands text Wholes n p.0 i p.1) (some_is _ _ h)
      (record { good = inl here.good; levels = here.levels; fits = here.fits; spelled = here.spelled })

  tail_some : (x : Node A) (i m : ℕ) (y : Node A) (j : ℕ) (b a : Bool) → (a ≡ true → allowed x.tree ≡ true) → Stands text (which S Head) n x i m → choose (b && a) (suffix n f (rest x.tree) x) (pure x) m ≡ Some (y, j) → Stands text Wholes n y i j
  tail_some x i m y j true true may here h = part_some x i m y j here (may refl) h
  tail_some x i m y j true false may here h = none_some x i m y j here h
  tail_some x i m y j false a may here h = none_some x i m y j here h

  extended_some : (i : ℕ) (y : Node A) (j : ℕ) → extended text n f begins allowed head rest i ≡ Some (y, j) → Stands text Wholes n y i j
  extended_some i y j h =
      let one = then_some (head i) _ (y, j) h in
      tail_some one.0.0 i one.0.1 y j (begins (behind text one.0.1)) (allowed one.0.0.tree) (λ e. e) (first_rule.sound i one.0.0 one.0.1 one.1) one.2

  not_both : (b a : Bool) → (a ≡ true → b ≡ false) → (b && a) ≡ false
  not_both true true h = let bad : true ≡ false = h refl in bad
  not_both true false h = refl
  not_both false a h = refl

  alone_goes : (i : ℕ) (y : Node A) (j : ℕ) → Stands text (which S Head) n y i j → whole y.tree (behind text j) ≡ true → y.levels < suc n → extended text n f begins allowed head rest i ≡ Some (y, j)
  alone_goes i y j stands stop low =
      then_goes (head i) _ y j (first_rule.complete i y j stands low (s.head_ends y.tree _ stands.good stop))
      ∙ if_not _ _ _ (not_both _ _ (λ may. s.none_begins y.tree _ stands.good may stop))

  both_true : (b a : Bool) → b ≡ true → a ≡ true → (b && a) ≡ true
  both_true true a h g = g
  both_true false a h g = cc

  part_goes : (i : ℕ) (x : A) (z : B) (j : ℕ) → Head x → allowed x ≡ true → (T x).Good z → SpelledBetween text i (S.yields x ++ (T x).yields z) j → max (S.levels_of x) ((T x).levels_of z) < n → whole (f x z) (behind text j) ≡ true
      → extended text n f begins allowed head rest i ≡ Some (node (f x z) (max (S.levels_of x) ((T x).levels_of z) + 1), j)
  part_goes i x z j good may more spelled fits stop =
      let cut = spelled_split text i (S.yields x) ((T x).yields z) j spelled in
      let m = cut.0 in
      let one = node x (S.levels_of x) in
      let two = node z ((T x).levels_of z) in
      let begun = s.starts x z m j more cut.2 in
      let here : Stands text (which S Head) n one i m = record { good = good; levels = refl; fits = omega arith; spelled = cut.1 } in
      let there : Stands text (T x) n two m j = record { good = more; levels = refl; fits = omega arith; spelled = cut.2 } in
      then_goes (head i) _ one m (first_rule.complete i one m here (omega arith) (s.head_apart x _ good may begun))
      ∙ if_goes _ _ _ (both_true _ _ begun may)
      ∙ then_goes (rest x m) _ two j ((rest_rule x good may).complete m two j there (omega arith) (s.part_ends x z _ good more stop))
      ∙ if_goes _ _ _ (true_lt (max (S.levels_of x) ((T x).levels_of z)) n fits)

  extended_goes : (i : ℕ) (y : Node A) (j : ℕ) → Stands text Wholes n y i j → whole y.tree (behind text j) ≡ true → y.levels < suc n → extended text n f begins allowed head rest i ≡ Some (y, j)
  extended_goes i y j stands stop low = by_split stands.good
    where
      by_split : WithSuffix T Head allowed f y.tree → extended text n f begins allowed head rest i ≡ Some (y, j)
      by_split (inl h) = alone_goes i y j (record { good = h; levels = stands.levels; fits = stands.fits; spelled = stands.spelled }) stop low
      by_split (inr l) =
          let deep : y.levels ≡ max (S.levels_of l.first) ((T l.first).levels_of l.second) + 1 = sym stands.levels ∙ ap S.levels_of l.is ∙ s.levels_of l.first l.second in
          let spelled = subst (λ ts. SpelledBetween text i ts j) (ap S.yields l.is ∙ s.yields l.first l.second) stands.spelled in
          let fits = stands.fits in
          let last = subst (λ x. whole x (behind text j) ≡ true) l.is stop in
          part_goes i l.first l.second j l.head l.may l.good spelled (omega (arith, deep, fits)) last
          ∙ ap (λ a. Some (node (f l.first l.second) a, j)) (sym deep) ∙ ap (λ t. Some (node t y.levels, j)) (sym l.is)

  pub extended_rule : Rule text Wholes n (suc n) whole (extended text n f begins allowed head rest)
  extended_rule = record { sound = extended_some; complete = λ i y j stands low stop. extended_goes i y j stands stop low }
