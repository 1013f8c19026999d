-- One of two kinds of part is read exactly where each is, and the next token tells them apart.
use Rattle.std.proofs.Common.{◌≡◌, ℕ, ◌⊎◌, inl, inr, Bool, true, false, refl, sym, subst}
use Rattle.esb_token.specs.declared.token.Token.{Token}
use Rattle.esb_token.specs.Tokens.{SpelledBetween}
use Rattle.esb_reader.specs.declared.node.Node.{Node}
use Rattle.esb_reader.specs.Places.{Text}
use Rattle.esb_reader.specs.Reader.{Reader}
use Rattle.esb_reader.specs.Parts.{behind, made}
use Rattle.esb_reader.specs.Stands.{Syntax, Rule, Made}
use Rattle.esb_reading_laws.proofs.Composed.{plain_rule, choice_rule, same_rule}
use Rattle.esb_operator_laws.specs.Forks.{fork, fork_yields, fork_levels, IsFork, forks, fork_stops}

fork_there : {A B : Type 0} (S : Syntax A) (T : Syntax B) (x : A ⊎ B) → Made S inl x ⊎ Made T inr x → IsFork S T x
fork_there S T x (inl h) = subst (IsFork S T) (sym h.1) h.2
fork_there S T x (inr h) = subst (IsFork S T) (sym h.1) h.2

fork_back : {A B : Type 0} (S : Syntax A) (T : Syntax B) (x : A ⊎ B) → IsFork S T x → Made S inl x ⊎ Made T inr x
fork_back S T (inl a) h = inl (a, refl, h)
fork_back S T (inr b) h = inr (b, refl, h)

pub fork_rule : {A B : Type 0} (text : Text) (S : Syntax A) (T : Syntax B) (n top : ℕ) (stops : A → Token → Bool) (ends : B → Token → Bool) (begins : Token → Bool) (p : Reader (Node A)) (q : Reader (Node B)) → Rule text S n top stops p → Rule text T n top ends q
    → ((a : A) (i j : ℕ) → S.Good a → SpelledBetween text i (S.yields a) j → begins (behind text i) ≡ true)
    → ((b : B) (i j : ℕ) → T.Good b → SpelledBetween text i (T.yields b) j → ends b (behind text j) ≡ true → begins (behind text i) ≡ false)
    → Rule text (forks S T) n top (fork_stops stops ends) (fork text begins p q)
fork_rule text S T n top stops ends begins p q first second is_first is_second =
    same_rule text (record { yields = fork_yields S T; levels_of = fork_levels S T; Good = λ x. Made S inl x ⊎ Made T inr x }) (forks S T) n top (fork_stops stops ends) (fork_stops stops ends) (fork text begins p q)
    (choice_rule text (forks S T) (Made S inl) (Made T inr) n top (fork_stops stops ends) begins (made inl 0 p) (made inr 0 q)
    (plain_rule text S (fork_yields S T) (fork_levels S T) n top stops (fork_stops stops ends) inl p first (λ a. refl) (λ a. refl) (λ a t h. h))
    (plain_rule text T (fork_yields S T) (fork_levels S T) n top ends (fork_stops stops ends) inr q second (λ b. refl) (λ b. refl) (λ b t h. h))
    (λ x i j g h. is_first g.0 i j g.2 (subst (λ y. SpelledBetween text i (fork_yields S T y) j) g.1 h))
    (λ x i j g h stop. is_second g.0 i j g.2 (subst (λ y. SpelledBetween text i (fork_yields S T y) j) g.1 h) (subst (λ y. fork_stops stops ends y (behind text j) ≡ true) g.1 stop)))
    refl refl (fork_there S T) (fork_back S T) (λ x t good h. h)
