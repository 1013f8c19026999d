use Rattle.esb_reader.proofs.Agreeing.{spelled-is_read, read-is_spelled, reg_exp-shows_slash, tail-shows_brace}
use Rattle.esb_reader.proofs.laws.goals_agree.Goals as goal

pub returns : goal.returns
returns c =
    record {
      spelled = spelled-is_read;
      read = read-is_spelled;
      slash = reg_exp-shows_slash;
      brace = tail-shows_brace;
    }
