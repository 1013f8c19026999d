-- Two questions are the same by the test exactly where they are equal, so the test is an equivalence.
use Rattle.std.proofs.Common.{◌≡◌, refl, ap, sym}
use Rattle.std.specs.Bool.{Decides}
use Rattle.std.specs.Cmp.{IsEquivalence, both_ways}
use Rattle.std.proofs.lemmas.Bool.{false≢true}
use Rattle.std.proofs.lemmas.Slice.Eq.{bytes_eq-Decides}
use Rattle.esb_ask.specs.declared.question.Question.{Question}
use Rattle.esb_ask.specs.declared.question.Question.TheVariants as question
use Rattle.esb_ask.specs.Table.{same_question}

pub same_question-Decides : (asked other : Question) → Decides (same_question asked other) (asked ≡ other)
same_question-Decides (question.Kind path) (question.Kind more) = (λ e. ap question.Kind ((bytes_eq-Decides path more).0 e), λ e. (bytes_eq-Decides path more).1 cc)
same_question-Decides (question.Kind path) (question.Read more) = (λ e. absurd (false≢true e), λ e. cc)
same_question-Decides (question.Read path) (question.Kind more) = (λ e. absurd (false≢true e), λ e. cc)
same_question-Decides (question.Read path) (question.Read more) = (λ e. ap question.Read ((bytes_eq-Decides path more).0 e), λ e. (bytes_eq-Decides path more).1 cc)

pub same_question-equivalence : IsEquivalence same_question
same_question-equivalence = record {
  refl = λ asked. (same_question-Decides asked asked).1 refl;
  symm = λ asked other.
      both_ways (same_question asked other) (same_question other asked)
      (λ e. (same_question-Decides other asked).1 (sym ((same_question-Decides asked other).0 e)))
      (λ e. (same_question-Decides asked other).1 (sym ((same_question-Decides other asked).0 e)));
  congr = λ asked other third e. ap (λ (q : Question). same_question q third) ((same_question-Decides asked other).0 e);
}
