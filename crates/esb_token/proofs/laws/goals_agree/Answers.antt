use Rattle.esb_token.proofs.TokenKinds.{div-reg_exp, reg_exp-div, div-tail, tail-div, reg_exp-is_division, tail-is_brace}
use Rattle.esb_token.proofs.laws.goals_agree.Goals as goal

pub returns : goal.returns
returns c =
    record {
      div_reg_exp = div-reg_exp;
      reg_exp_div = reg_exp-div;
      div_tail = div-tail;
      tail_div = tail-div;
      division = reg_exp-is_division;
      brace = tail-is_brace;
    }
