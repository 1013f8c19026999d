-- A token of the contents is read again where what stands behind it may follow it.
use Rattle.std.proofs.Common.{◌≡◌, inl, inr, ℕ, List, ◌∷◌, ◌++◌, true, subst}
use Rattle.esb_token.specs.declared.kind.Kind.{Kind}
use Rattle.esb_token.specs.declared.goal.Goal.{Goal}
use Rattle.esb_token.specs.Goals.{goal_of}
use Rattle.esb_token.specs.Gaps.{separator}
use Rattle.esb_token.specs.Grammar.{punctuators, IsNumeric, IsToken}
use Rattle.esb_print.proofs.Wide.{Whole}
use Rattle.esb_print.proofs.Behind.{is_quiet, follows, Kept}
use Rattle.esb_print.proofs.Words.{name-keep}
use Rattle.esb_print.proofs.Literals.{string-keep, whole-keep, head-keep, middle-keep, tail-keep, regexp-keep}
use Rattle.esb_print.proofs.Signs.{Stays, stays, entry-of}
use Rattle.esb_print.proofs.Numerals.{number-keep, number_kind}
use Rattle.esb_print.proofs.Firsts.{name_joint}

number_quiet : (kind : Kind) (bytes : List ℕ) (d : ℕ) → IsNumeric kind bytes → follows kind d ≡ true → is_quiet d ≡ true
number_quiet kind bytes d is h = elim (number_kind kind bytes is) [
  | inl e ↦ subst (λ x. follows x d ≡ true) e h
  | inr e ↦ subst (λ x. follows x d ≡ true) e h
]

pub token-keep : (g : Goal) (kind : Kind) (bytes y : List ℕ) → IsToken g kind bytes y → Whole (bytes ++ y) → separator (bytes ++ y) ≡ 0 → (d : ℕ) (z : List ℕ) → follows kind d ≡ true → Kept (goal_of kind) kind bytes (d ∷ z)
token-keep g kind bytes y (IsToken.punctuator _ _ _ h may under) whole solid d z fits = entry-of Stays punctuators bytes kind h stays d z fits
token-keep g kind bytes y (IsToken.name start parts _ h more) whole solid d z fits = name-keep _ start parts y d z h more whole solid (name_joint _ d fits)
token-keep g kind bytes y (IsToken.number _ _ _ h) whole solid d z fits = number-keep _ kind bytes d z h (number_quiet kind bytes d h fits)
token-keep g kind bytes y (IsToken.string quote pieces _ is h) whole solid d z fits = string-keep _ quote pieces y (d ∷ z) is h
token-keep g kind bytes y (IsToken.template_whole pieces _ h) whole solid d z fits = whole-keep _ pieces y (d ∷ z) h
token-keep g kind bytes y (IsToken.template_head pieces _ h) whole solid d z fits = head-keep _ pieces y (d ∷ z) h
token-keep g kind bytes y (IsToken.template_middle pieces _ is h) whole solid d z fits = middle-keep pieces y (d ∷ z) h
token-keep g kind bytes y (IsToken.template_tail pieces _ is h) whole solid d z fits = tail-keep pieces y (d ∷ z) h
token-keep g kind bytes y (IsToken.regular_expression body flags _ is some star h more) whole solid d z fits = regexp-keep body flags y d z some star h more whole fits
