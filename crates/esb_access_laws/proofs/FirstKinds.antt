-- Tokens of which the first is of a kind.
use Rattle.std.proofs.Common.{◌≡◌, ℕ, ◌<◌, ◌≤◌, true, List, ◌∷◌, length, ap, ◌∙◌, subst}
use Rattle.esb_token.specs.declared.kind.Kind.{Kind}
use Rattle.esb_token.specs.declared.token.Token.{Token}
use Rattle.esb_token.specs.declared.goal.Goal.TheVariants as goal
use Rattle.esb_token.specs.Tokens.{SpelledBetween}
use Rattle.esb_reader.specs.Kinds.{agrees}
use Rattle.esb_reader.specs.Places.{Text}
use Rattle.esb_reader.specs.Parts.{behind}
use Rattle.esb_reader.proofs.Agreeing.{seen, spelled-is_read}
use Rattle.esb_expression_laws.proofs.OperatorChains.{spelled_moves}

pub record First (kind : Kind) (ts : List Token) : Type 0 where
  pub first : Token
  pub rest : List Token
  pub is : ts ≡ first ∷ rest
  pub same : first.kind ≡ kind

pub first_of : (kind : Kind) (t : Token) (ts us : List Token) → us ≡ t ∷ ts → t.kind ≡ kind → First kind us
first_of kind t ts us is same = record { first = t; rest = ts; is = is; same = same }

-- the kind is seen where the tokens stand
pub kind_seen : (text : Text) (kind : Kind) (ts : List Token) (i j : ℕ) → First kind ts → agrees goal.Div kind ≡ true → SpelledBetween text i ts j → (behind text i).kind ≡ kind
kind_seen text kind ts i j f agreed h =
    let spelled = subst (λ us. SpelledBetween text i us j) f.is h in
    ap (λ (t : Token). t.kind) (seen text goal.Div i f.first (spelled-is_read text goal.Div i f.first spelled.0 (ap (agrees goal.Div) f.same ∙ agreed))) ∙ f.same

pub kind_moves : (text : Text) (kind : Kind) (ts : List Token) (i j : ℕ) → First kind ts → SpelledBetween text i ts j → (i < j) × (j ≤ length text)
kind_moves text kind ts i j f h = spelled_moves text i f.first f.rest j (subst (λ us. SpelledBetween text i us j) f.is h)

pub token_seen : (text : Text) (t : Token) (ts : List Token) (i j : ℕ) → agrees goal.Div t.kind ≡ true → SpelledBetween text i (t ∷ ts) j → behind text i ≡ t
token_seen text t ts i j agreed h = seen text goal.Div i t (spelled-is_read text goal.Div i t h.0 agreed)
