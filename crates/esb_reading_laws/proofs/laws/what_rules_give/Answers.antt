use Rattle.esb_reading_laws.specs.Laws.{syntax_of}
use Rattle.esb_reading_laws.proofs.Gains.{one_node, finds, finds_each}
use Rattle.esb_reading_laws.proofs.laws.what_rules_give.Goals as goal

pub returns : goal.returns
returns c start =
    record {
      one = λ text S. one_node text (syntax_of S);
      finds = λ text S n stops read rule at r h. (finds text (syntax_of S) n stops read rule at r h, finds_each text (syntax_of S) n stops read rule at r h);
    }
