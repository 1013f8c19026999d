use Rattle.esb_token.proofs.TokenKinds.{text-is_literal, end-is_last}
use Rattle.esb_token.proofs.laws.kinds_tell.Goals as goal

pub returns : goal.returns
returns c =
    record {
      text = text-is_literal;
      end = end-is_last;
    }
