-- Sequences in which single tokens stand.
use Rattle.std.proofs.Common.{◌≡◌, ℕ, suc, Bool, true, [], Some, refl, ap, ◌∙◌, arith}
use Rattle.esb_token.specs.declared.kind.Kind.{Kind}
use Rattle.esb_token.specs.declared.token.Token.{Token}
use Rattle.esb_token.specs.declared.goal.Goal.TheVariants as goal
use Rattle.esb_reader.specs.declared.node.Node.{Node}
use Rattle.esb_reader.specs.Kinds.{agrees}
use Rattle.esb_reader.specs.Places.{Text}
use Rattle.esb_reader.specs.Reader.{Reader, fail}
use Rattle.esb_reader.specs.Parts.{behind, both, token, token_in}
use Rattle.esb_reader.specs.Stands.{Syntax, Rule, tokens, tokens_in, pairs}
use Rattle.esb_reading_laws.proofs.Composed.{token_rule, token_in_rule, both_rule}
use Rattle.esb_literal_laws.specs.Forks.{passes_behind, reads_before}
use Rattle.esb_literal_laws.proofs.Seen.{sees_kind}

-- two parts, of which anything ends the first
pub free_rule : {A B : Type 0} (text : Text) (S : Syntax A) (T : Syntax B) (n : ℕ) (ends : B → Token → Bool) (p : Reader (Node A)) (q : Reader (Node B))
    → Rule text S n n (λ _ _. true) p → Rule text T n n ends q → Rule text (pairs S T) n n (λ x. ends x.1) (both p q)
free_rule text S T n ends p q first second = both_rule text S T n n (λ _ _. true) ends (λ x. ends x.1) p q first second (λ a b t h. h) (λ a b m j ga gb h stop. refl)

-- a token of a kind, and a part
pub lead_rule : {B : Type 0} (text : Text) (T : Syntax B) (n : ℕ) (kind : Kind) (ends : B → Token → Bool) (q : Reader (Node B)) → agrees goal.Div kind ≡ true
    → Rule text T n n ends q → Rule text (pairs (tokens kind) T) n n (λ x. ends x.1) (both (token text kind) q)
lead_rule text T n kind ends q same second = free_rule text (tokens kind) T n ends (token text kind) q (token_rule text n n kind same) second

-- a token that passes a test, and a part
pub lead_in_rule : {B : Type 0} (text : Text) (T : Syntax B) (n : ℕ) (test : Token → Bool) (ends : B → Token → Bool) (q : Reader (Node B)) → ((t : Token) → test t ≡ true → agrees goal.Div t.kind ≡ true)
    → Rule text T n n ends q → Rule text (pairs (tokens_in test) T) n n (λ x. ends x.1) (both (token_in text goal.Div test) q)
lead_in_rule text T n test ends q same second = free_rule text (tokens_in test) T n ends (token_in text goal.Div test) q (token_in_rule text n n goal.Div test same) second

-- a part, and a token of a kind that ends it
pub close_rule : {A : Type 0} (text : Text) (S : Syntax A) (n : ℕ) (kind : Kind) (stops : A → Token → Bool) (p : Reader (Node A)) → agrees goal.Div kind ≡ true
    → Rule text S n n stops p → ((a : A) (t : Token) → t.kind ≡ kind → stops a t ≡ true) → Rule text (pairs S (tokens kind)) n n (λ _ _. true) (both p (token text kind))
close_rule text S n kind stops p same first ended =
    both_rule text S (tokens kind) n n stops (λ _ _. true) (λ _ _. true) p (token text kind) first (token_rule text n n kind same) (λ a b t h. refl)
    (λ a b m j ga gb h stop. let here = sees_kind text m b [] j kind h gb same in ended a (behind text m) (ap (λ (u : Token). u.kind) here ∙ gb))

-- what is read within fewer levels than a number has fewer
pub raise_rule : {A : Type 0} (text : Text) (S : Syntax A) (n : ℕ) (stops : A → Token → Bool) (p : Reader (Node A)) → Rule text S n (suc n) stops p → Rule text S (suc n) (suc n) stops p
raise_rule text S n stops p rule = record {
  sound = λ i x j h. let s = rule.sound i x j h in record { good = s.good; levels = s.levels; fits = let f = s.fits in omega (arith, f); spelled = s.spelled };
  complete = λ i x j s low stop. rule.complete i x j (record { good = s.good; levels = s.levels; fits = omega (arith, low); spelled = s.spelled }) low stop;
}

-- nothing has fewer levels than none
pub fail_rule : {A : Type 0} (text : Text) (S : Syntax A) (stops : A → Token → Bool) → Rule text S 0 0 stops fail
fail_rule text S stops = record {
  sound = λ i x j h. cc;
  complete = λ i x j s low stop. absurd (omega (arith, low));
}

-- what is read at a place, and what is seen behind it
pub sees_before : {A : Type 0} (text : Text) (test : Token → Bool) (p : Reader A) (i : ℕ) (x : A) (j : ℕ) → p i ≡ Some (x, j) → reads_before text test p i ≡ test (behind text j)
sees_before text test p i x j h = ap (passes_behind text test) h
