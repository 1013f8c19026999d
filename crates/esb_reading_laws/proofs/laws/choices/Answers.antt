use Rattle.std.proofs.Common.{◌≡◌, true}
use Rattle.esb_reading_laws.specs.Laws.{syntax_of}
use Rattle.esb_reading_laws.proofs.Composed.{choice_rule, empty_rule, optional_rule}
use Rattle.esb_reading_laws.proofs.laws.choices.Goals as goal

pub returns : goal.returns
returns c start =
    record {
      choice = λ text S first second. choice_rule text (syntax_of S) (λ x. first x ≡ true) (λ x. second x ≡ true);
      empty = λ text. empty_rule text;
      optional = λ text S. optional_rule text (syntax_of S);
    }
