use Rattle.esb_reading_laws.specs.Laws.{syntax_of}
use Rattle.esb_reading_laws.proofs.Composed.{both_rule, plain_rule, such_rule, above_rule, same_rule}
use Rattle.esb_reading_laws.proofs.laws.sequences.Goals as goal

pub returns : goal.returns
returns c start =
    record {
      both = λ text S T. both_rule text (syntax_of S) (syntax_of T);
      made = λ text S. plain_rule text (syntax_of S);
      such = λ text S. such_rule text (syntax_of S);
      above = λ text S. above_rule text (syntax_of S);
      same = λ text S T. same_rule text (syntax_of S) (syntax_of T);
    }
