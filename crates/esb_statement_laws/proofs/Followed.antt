-- What hangs on what stands before it is read exactly where its parts are.
use Rattle.std.proofs.Common.{◌≡◌, ℕ, ◌<◌, max, Bool, true, List, [], ◌∷◌, Some, refl, ap, sym, ◌∙◌, subst, arith}
use Rattle.esb_token.specs.declared.kind.Kind.{Kind}
use Rattle.esb_token.specs.declared.token.Token.{Token}
use Rattle.esb_token.specs.declared.goal.Goal.TheVariants as goal
use Rattle.esb_token.specs.Tokens.{SpelledBetween}
use Rattle.esb_reader.specs.declared.node.Node.{Node}
use Rattle.esb_reader.specs.Kinds.{agrees}
use Rattle.esb_reader.specs.Places.{Text}
use Rattle.esb_reader.specs.Reader.{Reader, node}
use Rattle.esb_reader.specs.Parts.{behind, both, token}
use Rattle.esb_reader.specs.Stands.{Syntax, Stands, Rule, pairs, tokens, which}
use Rattle.esb_reader.proofs.Agreeing.{seen, spelled-is_read}
use Rattle.esb_reading_laws.proofs.Composed.{token_rule, both_rule}
use Rattle.esb_reading_laws.proofs.Steps.{then_some, if_some, some_is, then_goes, if_goes, spelled_split, spelled_join}
use Rattle.esb_statement_laws.specs.Sequels.{follows, at_place, sorted, linked, RuleAt, Keeps}

-- a rule holds at each place
pub rule_at : {A : Type 0} (text : Text) (S : Syntax A) (n top : ℕ) (stops : A → Token → Bool) (read : Reader (Node A)) (i : ℕ) → Rule text S n top stops read → RuleAt text S n top stops read i
rule_at text S n top stops read i rule = record { sound = rule.sound i; complete = rule.complete i }

-- fewer levels are complete too
pub lower_rule : {A : Type 0} (text : Text) (S : Syntax A) (n top low : ℕ) (stops : A → Token → Bool) (read : Reader (Node A)) → Rule text S n top stops read → ((m : ℕ) → m < low → m < top) → Rule text S n low stops read
lower_rule text S n top low stops read rule less = record {
  sound = rule.sound;
  complete = λ i x j stands small stop. rule.complete i x j stands (less x.levels small) stop;
}

-- One part, and then another that hangs on it. The second is read exactly at each place at which a first ends that passes the test `kept`
-- together with what is seen there, and the first is read where a second stands behind it.
pub joined_rule : {A B : Type 0} (text : Text) (S : Syntax A) (T : A → Syntax B) (n top : ℕ) (kept : A → Token → Bool) (ends : A → B → Token → Bool) (whole : A × B → Token → Bool) (p : Reader (Node A)) (q : A → Reader (Node B))
    → ((i : ℕ) (x : Node A) (j : ℕ) → p i ≡ Some (x, j) → Stands text S n x i j) → Keeps text kept p
    → ((a : A) (i m : ℕ) → S.Good a → SpelledBetween text i (S.yields a) m → kept a (behind text m) ≡ true → RuleAt text (T a) n top (ends a) (q a) m)
    → ((a : A) (b : B) (t : Token) → S.Good a → (T a).Good b → whole (a, b) t ≡ true → ends a b t ≡ true)
    → ((a : A) (b : B) (i m j : ℕ) → Stands text S n (node a (S.levels_of a)) i m → S.levels_of a < top → (T a).Good b → SpelledBetween text m ((T a).yields b) j → whole (a, b) (behind text j) ≡ true → (p i ≡ Some (node a (S.levels_of a), m)) × (kept a (behind text m) ≡ true))
    → Rule text (linked S T) n top whole (follows p q)
joined_rule text S T n top kept ends whole p q sound keeps second last goes = record {
  sound = λ i x j h.
      let one = then_some (p i) _ (x, j) h in
      let two = then_some (q one.0.0.tree one.0.1) _ (x, j) one.2 in
      let a = sound i one.0.0 one.0.1 one.1 in
      let b = (second one.0.0.tree i one.0.1 a.good a.spelled (keeps i one.0.0 one.0.1 one.1)).sound two.0.0 two.0.1 two.1 in
      subst (λ z. Stands text (linked S T) n z.0 i z.1) (some_is _ _ two.2)
      (record {
        good = (a.good, b.good);
        levels = ap (λ l. max l ((T one.0.0.tree).levels_of two.0.0.tree)) a.levels ∙ ap (λ l. max one.0.0.levels l) b.levels;
        fits = let u = a.fits in let v = b.fits in omega arith;
        spelled = spelled_join text i (S.yields one.0.0.tree) ((T one.0.0.tree).yields two.0.0.tree) one.0.1 two.0.1 a.spelled b.spelled;
      });
  complete = λ i x j stands low stop.
      let cut = spelled_split text i (S.yields x.tree.0) ((T x.tree.0).yields x.tree.1) j stands.spelled in
      let m = cut.0 in
      let u = node x.tree.0 (S.levels_of x.tree.0) in
      let v = node x.tree.1 ((T x.tree.0).levels_of x.tree.1) in
      let deep = stands.levels in
      let fits = stands.fits in
      let a : Stands text S n u i m = record { good = stands.good.0; levels = refl; fits = omega (arith, deep, fits); spelled = cut.1 } in
      let b : Stands text (T x.tree.0) n v m j = record { good = stands.good.1; levels = refl; fits = omega (arith, deep, fits); spelled = cut.2 } in
      let here = goes x.tree.0 x.tree.1 i m j a (omega (arith, deep, low)) stands.good.1 cut.2 stop in
      then_goes _ _ u m here.0
      ∙ then_goes _ _ v j ((second x.tree.0 i m stands.good.0 cut.1 here.1).complete v j b (omega (arith, deep, low)) (last x.tree.0 x.tree.1 (behind text j) stands.good.0 stands.good.1 stop))
      ∙ ap (λ z. Some (node x.tree z, j)) stands.levels;
}

-- the same where the first has a rule
pub kept_rule : {A B : Type 0} (text : Text) (S : Syntax A) (T : A → Syntax B) (n top : ℕ) (kept stops : A → Token → Bool) (ends : A → B → Token → Bool) (whole : A × B → Token → Bool) (p : Reader (Node A)) (q : A → Reader (Node B))
    → Rule text S n top stops p → Keeps text kept p → ((a : A) (t : Token) → stops a t ≡ true → kept a t ≡ true)
    → ((a : A) (i m : ℕ) → S.Good a → SpelledBetween text i (S.yields a) m → kept a (behind text m) ≡ true → RuleAt text (T a) n top (ends a) (q a) m)
    → ((a : A) (b : B) (t : Token) → S.Good a → (T a).Good b → whole (a, b) t ≡ true → ends a b t ≡ true)
    → ((a : A) (b : B) (i m j : ℕ) → S.Good a → (T a).Good b → SpelledBetween text i (S.yields a) m → SpelledBetween text m ((T a).yields b) j → whole (a, b) (behind text j) ≡ true → stops a (behind text m) ≡ true)
    → Rule text (linked S T) n top whole (follows p q)
kept_rule text S T n top kept stops ends whole p q first keeps stop_kept second last apart =
    joined_rule text S T n top kept ends whole p q first.sound keeps second last
    (λ a b i m j stands low gb spelled h.
    let stop = apart a b i m j stands.good gb stands.spelled spelled h in
    (first.complete i (node a (S.levels_of a)) m stands low stop, stop_kept a (behind text m) stop))

-- the same where the second is read exactly at each place at which a first ends
pub follows_rule : {A B : Type 0} (text : Text) (S : Syntax A) (T : A → Syntax B) (n top : ℕ) (stops : A → Token → Bool) (ends : A → B → Token → Bool) (whole : A × B → Token → Bool) (p : Reader (Node A)) (q : A → Reader (Node B))
    → Rule text S n top stops p
    → ((a : A) (i m : ℕ) → S.Good a → SpelledBetween text i (S.yields a) m → RuleAt text (T a) n top (ends a) (q a) m)
    → ((a : A) (b : B) (t : Token) → S.Good a → (T a).Good b → whole (a, b) t ≡ true → ends a b t ≡ true)
    → ((a : A) (b : B) (i m j : ℕ) → S.Good a → (T a).Good b → SpelledBetween text i (S.yields a) m → SpelledBetween text m ((T a).yields b) j → whole (a, b) (behind text j) ≡ true → stops a (behind text m) ≡ true)
    → Rule text (linked S T) n top whole (follows p q)
follows_rule text S T n top stops ends whole p q first second last apart =
    kept_rule text S T n top (λ _ _. true) stops ends whole p q first (λ i x j h. refl) (λ a t h. refl) (λ a i m good spelled h. second a i m good spelled) last apart

-- nodes of many sorts, where a node of a sort shows tokens of the sort
pub sorted_rule : {A S : Type 0} (text : Text) (T : Syntax A) (Sorted : S → A → Type 0) (n top : ℕ) (stops : A → Token → Bool) (sort : ℕ → S) (readers : S → Reader (Node A))
    → ((s : S) (i : ℕ) → sort i ≡ s → RuleAt text (which T (Sorted s)) n top stops (readers s) i)
    → ((s : S) (x : A) (i j : ℕ) → Sorted s x → SpelledBetween text i (T.yields x) j → T.levels_of x < top → stops x (behind text j) ≡ true → sort i ≡ s)
    → Rule text (which T (λ x. (s : S) × Sorted s x)) n top stops (sorted sort readers)
sorted_rule text T Sorted n top stops sort readers rules shows = record {
  sound = λ i x j h.
      let s = (rules (sort i) i refl).sound x j h in
      record { good = (sort i, s.good); levels = s.levels; fits = s.fits; spelled = s.spelled };
  complete = λ i x j stands low stop.
      let s = stands.good.0 in
      let same : sort i ≡ s = shows s x.tree i j stands.good.1 stands.spelled (subst (λ l. l < top) (sym stands.levels) low) stop in
      ap (λ z. readers z i) same ∙ (rules s i same).complete x j (record { good = stands.good.1; levels = stands.levels; fits = stands.fits; spelled = stands.spelled }) low stop;
}

-- ---- tokens of one kind in a sequence

-- the token that is seen where tokens are spelled
pub sees : (text : Text) (i : ℕ) (t : Token) (ts : List Token) (j : ℕ) → SpelledBetween text i (t ∷ ts) j → agrees goal.Div t.kind ≡ true → behind text i ≡ t
sees text i t ts j h same = seen text goal.Div i t (spelled-is_read text goal.Div i t h.0 same)

-- a token and what stands behind it
pub leading : {B : Type 0} (text : Text) (T : Syntax B) (n top : ℕ) (kind : Kind) (ends : B → Token → Bool) (q : Reader (Node B)) → agrees goal.Div kind ≡ true → Rule text T n top ends q
    → Rule text (pairs (tokens kind) T) n top (λ p. ends p.1) (both (token text kind) q)
leading text T n top kind ends q same rule =
    both_rule text (tokens kind) T n top (λ _ _. true) ends (λ p. ends p.1) (token text kind) q (token_rule text n top kind same) rule (λ a b t h. h) (λ a b m j ga gb h stop. refl)

-- a part, a token that ends it, and what stands behind the token
pub between : {A B : Type 0} (text : Text) (S : Syntax A) (T : Syntax B) (n top : ℕ) (kind : Kind) (stops : A → Token → Bool) (ends : B → Token → Bool) (p : Reader (Node A)) (q : Reader (Node B)) → agrees goal.Div kind ≡ true
    → Rule text S n top stops p → Rule text T n top ends q → ((a : A) (t : Token) → S.Good a → t.kind ≡ kind → stops a t ≡ true)
    → Rule text (pairs S (pairs (tokens kind) T)) n top (λ x. ends x.1.1) (both p (both (token text kind) q))
between text S T n top kind stops ends p q same first second apart =
    both_rule text S (pairs (tokens kind) T) n top stops (λ b. ends b.1) (λ x. ends x.1.1) p (both (token text kind) q) first (leading text T n top kind ends q same second) (λ a b t h. h)
    (λ a b m j ga gb h stop. apart a (behind text m) ga (ap (λ (t : Token). t.kind) (sees text m b.0 (T.yields b.1) j h (ap (agrees goal.Div) gb.0 ∙ same)) ∙ gb.0))

-- a part and a token that ends it
pub closing : {A : Type 0} (text : Text) (S : Syntax A) (n top : ℕ) (kind : Kind) (stops : A → Token → Bool) (p : Reader (Node A)) → agrees goal.Div kind ≡ true
    → Rule text S n top stops p → ((a : A) (t : Token) → S.Good a → t.kind ≡ kind → stops a t ≡ true)
    → Rule text (pairs S (tokens kind)) n top (λ _ _. true) (both p (token text kind))
closing text S n top kind stops p same first apart =
    both_rule text S (tokens kind) n top stops (λ _ _. true) (λ _ _. true) p (token text kind) first (token_rule text n top kind same) (λ a b t h. refl)
    (λ a b m j ga gb h stop. apart a (behind text m) ga (ap (λ (t : Token). t.kind) (sees text m b [] j h (ap (agrees goal.Div) gb ∙ same)) ∙ gb))

-- ---- parts at a place that passes a test

-- A part at a place that passes a test: the nodes of which the test of the place says something.
pub at_place_rule : {A : Type 0} (text : Text) (S : Syntax A) (P : A → Type 0) (n top : ℕ) (stops : A → Token → Bool) (test : ℕ → Bool) (p : Reader (Node A)) → Rule text S n top stops p
    → ((x : A) (i j : ℕ) → S.Good x → SpelledBetween text i (S.yields x) j → P x → test i ≡ true)
    → ((x : A) (i j : ℕ) → S.Good x → SpelledBetween text i (S.yields x) j → test i ≡ true → P x)
    → Rule text (which S (λ x. S.Good x × P x)) n top stops (at_place test p)
at_place_rule text S P n top stops test p rule there back = record {
  sound = λ i x j h.
      let one = if_some (test i) _ (x, j) h in
      let s = rule.sound i x j one.1 in
      record { good = (s.good, back x.tree i j s.good s.spelled one.0); levels = s.levels; fits = s.fits; spelled = s.spelled };
  complete = λ i x j s low stop.
      if_goes _ _ _ (there x.tree i j s.good.0 s.spelled s.good.1)
      ∙ rule.complete i x j (record { good = s.good.0; levels = s.levels; fits = s.fits; spelled = s.spelled }) low stop;
}
