-- What a rule gives.
use Rattle.std.proofs.Common.{◌≡◌, ℕ, suc, Bool, true, Result, Ok, Err, ap, sym, ◌∙◌, subst, arith}
use Rattle.esb_token.specs.declared.token.Token.{Token}
use Rattle.esb_reader.specs.declared.fault.Fault.{Fault}
use Rattle.esb_reader.specs.declared.node.Node.{Node}
use Rattle.esb_reader.specs.Places.{Text}
use Rattle.esb_reader.specs.Reader.{Reader, Gives}
use Rattle.esb_reader.specs.Parts.{behind}
use Rattle.esb_reader.specs.Stands.{Syntax, Stands, Rule, Finds, FindsEach}
use Rattle.esb_reading_laws.proofs.Steps.{some_is}

-- a node that stands somewhere and stops is the only one there
pub one_node : {A : Type 0} (text : Text) (S : Syntax A) (n : ℕ) (stops : A → Token → Bool) (read : Reader (Node A)) → Rule text S n (suc n) stops read
    → (x y : Node A) (i j k : ℕ) → Stands text S n x i j → stops x.tree (behind text j) ≡ true → Stands text S n y i k → stops y.tree (behind text k) ≡ true → (x ≡ y) × (j ≡ k)
one_node text S n stops read rule x y i j k a stop b end =
    let fa = a.fits in
    let fb = b.fits in
    let same = some_is _ _ (sym (rule.complete i x j a (omega (arith, fa)) stop) ∙ rule.complete i y k b (omega (arith, fb)) end) in
    (ap (λ p. p.0) same, ap (λ p. p.1) same)

pub finds : {A : Type 0} (text : Text) (S : Syntax A) (n : ℕ) (stops : A → Token → Bool) (read : Reader (Node A)) → Rule text S n (suc n) stops read
    → (at : ℕ) (r : Result (Node A × ℕ) Fault) → Gives r (read at) → Finds text S n at r
finds text S n stops read rule at (Ok p) h = rule.sound at p.0 p.1 h
finds text S n stops read rule at (Err e) h = tt

pub finds_each : {A : Type 0} (text : Text) (S : Syntax A) (n : ℕ) (stops : A → Token → Bool) (read : Reader (Node A)) → Rule text S n (suc n) stops read
    → (at : ℕ) (r : Result (Node A × ℕ) Fault) → Gives r (read at) → FindsEach text S n stops at r
finds_each text S n stops read rule at r h = λ x to stands stop. subst (λ f. Gives r f) (rule.complete at x to stands (let f = stands.fits in omega (arith, f)) stop) h
