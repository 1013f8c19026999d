-- What is read leaves no token behind it that it could have taken.
use Rattle.std.proofs.Common.{◌≡◌, ℕ, Bool, true, false, Some, subst}
use Rattle.esb_token.specs.declared.token.Token.{Token}
use Rattle.esb_reader.specs.declared.node.Node.{Node}
use Rattle.esb_reader.specs.Places.{Text}
use Rattle.esb_reader.specs.Reader.{Reader, choose, fail}
use Rattle.esb_reader.specs.Parts.{behind, both, made, above}
use Rattle.esb_reading_laws.proofs.Steps.{then_some, if_some, some_is}
use Rattle.esb_statement_laws.specs.Sequels.{Keeps, follows}

pub keeps_both : {A B : Type 0} (text : Text) (P : B → Token → Bool) (p : Reader (Node A)) (q : Reader (Node B)) → Keeps text P q → Keeps text (λ x. P x.1) (both p q)
keeps_both text P p q keeps i x j h =
    let one = then_some (p i) _ (x, j) h in
    let two = then_some (q one.0.1) _ (x, j) one.2 in
    subst (λ z. P z.0.tree.1 (behind text z.1) ≡ true) (some_is _ _ two.2) (keeps one.0.1 two.0.0 two.0.1 two.1)

pub keeps_made : {A B : Type 0} (text : Text) (P : B → Token → Bool) (f : A → B) (more : ℕ) (p : Reader (Node A)) → Keeps text (λ a. P (f a)) p → Keeps text P (made f more p)
keeps_made text P f more p keeps i x j h =
    let one = then_some (p i) _ (x, j) h in
    subst (λ z. P z.0.tree (behind text z.1) ≡ true) (some_is _ _ one.2) (keeps i one.0.0 one.0.1 one.1)

pub keeps_above : {A B : Type 0} (text : Text) (P : B → Token → Bool) (n : ℕ) (f : A → B) (p : Reader (Node A)) → Keeps text (λ a. P (f a)) p → Keeps text P (above n f p)
keeps_above text P n f p keeps i x j h =
    let one = then_some (p i) _ (x, j) h in
    let two = if_some _ _ (x, j) one.2 in
    subst (λ z. P z.0.tree (behind text z.1) ≡ true) (some_is _ _ two.1) (keeps i one.0.0 one.0.1 one.1)

-- by other words
pub keeps_same : {A : Type 0} (text : Text) (P Q : A → Token → Bool) (p : Reader (Node A)) → ((a : A) (t : Token) → P a t ≡ true → Q a t ≡ true) → Keeps text P p → Keeps text Q p
keeps_same text P Q p weaker keeps i x j h = weaker x.tree (behind text j) (keeps i x j h)

pub keeps_choose : {A : Type 0} (text : Text) (P : A → Token → Bool) (test : ℕ → Bool) (p q : Reader (Node A)) → Keeps text P p → Keeps text P q → Keeps text P (λ i. choose (test i) p q i)
keeps_choose text P test p q first second i x j h = by_test (test i) h
  where
    by_test : (b : Bool) → choose b p q i ≡ Some (x, j) → P x.tree (behind text j) ≡ true
    by_test true h = first i x j h
    by_test false h = second i x j h

pub keeps_fail : {A : Type 0} (text : Text) (P : A → Token → Bool) → Keeps text P fail
keeps_fail text P i x j h = cc

pub keeps_follows : {A B : Type 0} (text : Text) (P : B → Token → Bool) (p : Reader (Node A)) (q : A → Reader (Node B)) → ((a : A) → Keeps text P (q a)) → Keeps text (λ x. P x.1) (follows p q)
keeps_follows text P p q keeps i x j h =
    let one = then_some (p i) _ (x, j) h in
    let two = then_some (q one.0.0.tree one.0.1) _ (x, j) one.2 in
    subst (λ z. P z.0.tree.1 (behind text z.1) ≡ true) (some_is _ _ two.2) (keeps one.0.0.tree one.0.1 two.0.0 two.0.1 two.1)
