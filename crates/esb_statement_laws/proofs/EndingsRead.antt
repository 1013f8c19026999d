-- The semicolon at the end of a statement is read exactly.
use Rattle.std.proofs.Common.{◌≡◌, ◌⊎◌, inl, inr, ℕ, ◌<◌, ◌≤◌, Bool, true, false, not, ◌&&◌, cond, nat_le, List, [], ◌∷◌, length, Option, Some, None, Result, Ok, Err, refl, ap, sym, ◌∙◌, subst, arith}
use Rattle.std.proofs.lemmas.Grind.{common_steps}
use Rattle.esb_token.specs.declared.kind.Kind.{Kind}
use Rattle.esb_token.specs.declared.kind.Kind.TheVariants as k
use Rattle.esb_token.specs.declared.token.Token.{Token}
use Rattle.esb_token.specs.declared.goal.Goal.{Goal}
use Rattle.esb_token.specs.declared.goal.Goal.TheVariants as goal
use Rattle.esb_token.specs.Tokens.{SpelledBetween, next}
use Rattle.esb_tree.specs.Trees.{written}
use Rattle.esb_tree.specs.Yields.{Tokens}
use Rattle.esb_grammar.specs.Kinds.{is_semicolon}
use Rattle.esb_grammar.specs.Semicolons.{end_from, lets_end, is_other, Ends, EndsLoop}
use Rattle.esb_reader.specs.declared.node.Node.{Node}
use Rattle.esb_reader.specs.Kinds.{agrees}
use Rattle.esb_reader.specs.Places.{Text, if_read, or_nothing, token_at, peek}
use Rattle.esb_reader.specs.Reader.{Reader, choose, node}
use Rattle.esb_reader.specs.Parts.{behind, token, made, empty}
use Rattle.esb_reader.specs.Stands.{Syntax, Stands, Rule, Made, tokens}
use Rattle.esb_reader.proofs.Moves.{token-moves, tokens-move}
use Rattle.esb_reading_laws.proofs.Composed.{token_rule, plain_rule}
use Rattle.esb_reading_laws.proofs.Steps.{if_some, some_is, if_goes, if_not}
use Rattle.esb_statement_laws.specs.Sequels.{at_place, RuleAt}
use Rattle.esb_statement_laws.specs.Endings.{LeftOut, may_end, ending, closed, Closed, endings, closings, IsEndTest}
use Rattle.esb_statement_laws.proofs.Followed.{follows_rule, sees}
use Rattle.esb_statement_laws.proofs.Small.{first_of, of_not}

-- ---- where tokens end

spelled_end : (text : Text) (i : ℕ) (ts : List Token) (j : ℕ) → SpelledBetween text i ts j → end_from i ts ≡ j
spelled_end text i [] j h = h
spelled_end text i (t ∷ ts) j h = spelled_end text t.end ts j h.2

-- tokens end where they are spelled up to, within the text
pub ends_at : (text : Text) (i : ℕ) (t : Token) (ts : List Token) (j : ℕ) → SpelledBetween text i (t ∷ ts) j → (end_from 0 (t ∷ ts) ≡ j) × (j ≤ length text)
ends_at text i t ts j h =
    let here = token-moves text _ i t h.0 h.1 in
    (spelled_end text t.end ts j h.2, (tokens-move text t.end ts j h.2).1 here.2)

-- and take a byte
pub spelled_moves : (text : Text) (i : ℕ) (t : Token) (ts : List Token) (j : ℕ) → SpelledBetween text i (t ∷ ts) j → (i < j) × (j ≤ length text)
spelled_moves text i t ts j h =
    let far = (tokens-move text i (t ∷ ts) j h).0 in
    (omega (arith, far), (ends_at text i t ts j h).1)

-- ---- what is read behind them

le_true : (a b : ℕ) → a ≤ b → nat_le a b ≡ true
le_true a b h = grind (arith, common_steps)

within_text : (text : Text) (g : Goal) (m : ℕ) → m ≤ length text → token_at text g m ≡ if_read (next text m g)
unfolding token_at
within_text text g m h = ap (λ b. cond b (if_read (next text m g)) None) (le_true m (length text) h)

may_end_is : (test : LeftOut) → IsEndTest test → (r : Result Token ℕ) → may_end test (if_read r) ≡ test r
may_end_is test is (Ok t) = refl
may_end_is test is (Err at) = sym (is.read at)

seen_there : (text : Text) (m : ℕ) → behind text m ≡ or_nothing (token_at text goal.Div m)
unfolding peek
seen_there text m = refl

no_semicolon : (test : LeftOut) → IsEndTest test → (r : Result Token ℕ) → test r ≡ true → is_semicolon (or_nothing (if_read r)).kind ≡ false
no_semicolon test is (Ok t) h = is.other t h
no_semicolon test is (Err at) h = let bad : false ≡ true = sym (is.read at) ∙ h in cc

seen_passes : (test : LeftOut) → IsEndTest test → (r : Result Token ℕ) → test r ≡ true → test (Ok (or_nothing (if_read r))) ≡ true
seen_passes test is (Ok t) h = h
seen_passes test is (Err at) h = let bad : false ≡ true = sym (is.read at) ∙ h in cc

semicolon_is : (kind : Kind) → kind ≡ k.Semicolon → is_semicolon kind ≡ true
semicolon_is kind e = ap is_semicolon e

module _ (text : Text) (test : LeftOut) (is : IsEndTest test) (ts : Tokens) (n top : ℕ) (m : ℕ) (at : end_from 0 ts ≡ m) (within : m ≤ length text) where
  abbrev There : Syntax (Option Token)
  There = record { yields = written; levels_of = λ o. 0; Good = Made (tokens k.Semicolon) Some }

  there_rule : Rule text There n top (λ _ _. true) (made Some 0 (token text k.Semicolon))
  there_rule = plain_rule text (tokens k.Semicolon) written (λ o. 0) n top (λ _ _. true) (λ _ _. true) Some (token text k.Semicolon) (token_rule text n top k.Semicolon refl) (λ a. refl) (λ a. refl) (λ a t h. refl)

  made_closed : (o : Option Token) → Made (tokens k.Semicolon) Some o → Closed text test ts o
  made_closed o h = subst (Closed text test ts) (sym h.1) h.2

  abbrev silent : Reader (Node (Option Token))
  silent = at_place (λ i. may_end test (token_at text goal.Div i)) (empty None)

  found_test : may_end test (token_at text goal.Div m) ≡ test (next text m goal.Div)
  found_test = ap (may_end test) (within_text text goal.Div m within) ∙ may_end_is test is (next text m goal.Div)

  ending_some : (x : Node (Option Token)) (j : ℕ) → ending text test m ≡ Some (x, j) → Stands text (endings text test ts) n x m j
  unfolding ending
  ending_some x j h = by_test (is_semicolon (behind text m).kind) h
    where
      by_test : (b : Bool) → choose b (made Some 0 (token text k.Semicolon)) silent m ≡ Some (x, j) → Stands text (endings text test ts) n x m j
      by_test true h =
          let s = there_rule.sound m x j h in
          record { good = made_closed x.tree s.good; levels = s.levels; fits = s.fits; spelled = s.spelled }
      by_test false h =
          let one = if_some (may_end test (token_at text goal.Div m)) _ (x, j) h in
          let passes : test (next text (end_from 0 ts) goal.Div) ≡ true = ap (λ z. test (next text z goal.Div)) at ∙ sym found_test ∙ one.0 in
          subst (λ p. Stands text (endings text test ts) n p.0 m p.1) (some_is _ _ one.1)
          (record { good = passes; levels = refl; fits = omega arith; spelled = refl })

  ending_goes : (tree : Option Token) (levels j : ℕ) → Stands text (endings text test ts) n (node tree levels) m j → levels < top → ending text test m ≡ Some (node tree levels, j)
  unfolding ending
  ending_goes (Some t) levels j s low =
      let here = sees text m t [] j s.spelled (ap (λ kind. agrees goal.Div kind) s.good) in
      if_goes _ _ _ (ap (λ (u : Token). is_semicolon u.kind) here ∙ semicolon_is t.kind s.good)
      ∙ there_rule.complete m (node (Some t) levels) j (record { good = (t, refl, s.good); levels = s.levels; fits = s.fits; spelled = s.spelled }) low refl
  ending_goes None levels j s low =
      let here : m ≡ j = s.spelled in
      let passes : test (next text m goal.Div) ≡ true = ap (λ z. test (next text z goal.Div)) (sym at) ∙ s.good in
      let other : is_semicolon (behind text m).kind ≡ false = ap (λ (u : Token). is_semicolon u.kind) (seen_there text m ∙ ap or_nothing (within_text text goal.Div m within)) ∙ no_semicolon test is _ passes in
      if_not _ _ _ other
      ∙ if_goes _ _ _ (found_test ∙ passes)
      ∙ ap (λ l. Some (node None l, m)) s.levels ∙ ap (λ z. Some (node None levels, z)) here

  pub ending_at : RuleAt text (endings text test ts) n top (λ _ _. true) (ending text test) m
  ending_at = record { sound = ending_some; complete = λ x j s low stop. ending_goes x.tree x.levels j s low }

-- What ends a part with its semicolon left out is seen behind it.
pub closes : (text : Text) (test : LeftOut) (is : IsEndTest test) (ts : Tokens) (o : Option Token) (m j : ℕ) → end_from 0 ts ≡ m → m ≤ length text → Closed text test ts o → SpelledBetween text m (written o) j
    → (is_semicolon (behind text m).kind ≡ true) ⊎ (test (Ok (behind text m)) ≡ true)
closes text test is ts (Some t) m j at within h spelled =
    inl (ap (λ (u : Token). is_semicolon u.kind) (sees text m t [] j spelled (ap (λ kind. agrees goal.Div kind) h)) ∙ semicolon_is t.kind h)
closes text test is ts None m j at within h spelled =
    let passes : test (next text m goal.Div) ≡ true = ap (λ z. test (next text z goal.Div)) (sym at) ∙ h in
    inr (ap (λ u. test (Ok u)) (seen_there text m ∙ ap or_nothing (within_text text goal.Div m within)) ∙ seen_passes test is _ passes)

-- A part and the semicolon behind it are read exactly, whatever follows.
pub closed_rule : {A : Type 0} (text : Text) (S : Syntax A) (n top : ℕ) (stops : A → Token → Bool) (test : A → LeftOut) (ts : A → Tokens) (p : Reader (Node A))
    → Rule text S n top stops p → ((a : A) → IsEndTest (test a))
    → ((a : A) (i m : ℕ) → S.Good a → SpelledBetween text i (S.yields a) m → (end_from 0 (ts a) ≡ m) × (m ≤ length text))
    → ((a : A) (t : Token) → S.Good a → (is_semicolon t.kind ≡ true) ⊎ (test a (Ok t) ≡ true) → stops a t ≡ true)
    → Rule text (closings text test ts S) n top (λ _ _. true) (closed text test p)
closed_rule text S n top stops test ts p rule is ends apart =
    follows_rule text S (λ a. endings text (test a) (ts a)) n top stops (λ _ _ _. true) (λ _ _. true) p (λ a. ending text (test a)) rule
    (λ a i m good spelled. let e = ends a i m good spelled in ending_at text (test a) (is a) (ts a) n top m e.0 e.1)
    (λ a o t ga go h. refl)
    (λ a o i m j ga go here there h. let e = ends a i m ga here in apart a (behind text m) ga (closes text (test a) (is a) (ts a) o m j e.0 e.1 go there))

-- ---- the tests of the grammar

second_not : (a b : Bool) → (a && not b) ≡ true → b ≡ false
second_not true true h = cc
second_not true false h = refl
second_not false b h = cc

pub lets_end_is : (on : Token → Bool) → IsEndTest (lets_end on)
lets_end_is on = record { read = λ at. refl; other = λ t h. second_not (not (on t)) (is_semicolon t.kind) (first_of _ _ h) }

pub is_other_is : IsEndTest is_other
is_other_is = record { read = λ at. refl; other = λ t h. of_not _ h }

pub ends_of : (text : Text) (on : Token → Bool) (ts : Tokens) (o : Option Token) → Closed text (lets_end on) ts o → Ends text on ts o
ends_of text on ts (Some t) h = h
ends_of text on ts None h = h

pub of_ends : (text : Text) (on : Token → Bool) (ts : Tokens) (o : Option Token) → Ends text on ts o → Closed text (lets_end on) ts o
of_ends text on ts (Some t) h = h
of_ends text on ts None h = h

pub loop_ends_of : (text : Text) (ts : Tokens) (o : Option Token) → Closed text is_other ts o → EndsLoop text ts o
loop_ends_of text ts (Some t) h = h
loop_ends_of text ts None h = h

pub of_loop_ends : (text : Text) (ts : Tokens) (o : Option Token) → EndsLoop text ts o → Closed text is_other ts o
of_loop_ends text ts (Some t) h = h
of_loop_ends text ts None h = h

-- what ends a statement without its semicolon does not go on with it
pub no_going_on : (on : Token → Bool) (t : Token) → lets_end on (Ok t) ≡ true → on t ≡ false
no_going_on on t h = of_not _ (first_of (not (on t)) _ (first_of _ _ h))
