use Rattle.esb_reader.proofs.Moves.{token-moves, tokens-move}
use Rattle.esb_reader.proofs.laws.tokens_move.Goals as goal

pub returns : goal.returns
returns c =
    record {
      token = token-moves;
      tokens = tokens-move;
    }
