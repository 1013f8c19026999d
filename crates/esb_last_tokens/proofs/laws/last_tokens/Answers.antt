use Rattle.esb_last_tokens.proofs.Edges.{update_is_postfix}
use Rattle.esb_last_tokens.proofs.Ending.{next_line_ends, kind_ends}
use Rattle.esb_last_tokens.proofs.Alone.{let_alone}
use Rattle.esb_last_tokens.proofs.laws.last_tokens.Goals as goal

pub returns : goal.returns
returns c =
    record {
      updates = update_is_postfix;
      lines = next_line_ends;
      kinds = kind_ends;
      alone = let_alone;
    }
