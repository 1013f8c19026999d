use Rattle.esb_first_tokens.proofs.Seen.{primary_shows, new_shows, left_shows, value_shows, expression_shows, value_is_no_end, left_is_no_prefix}
use Rattle.esb_first_tokens.proofs.laws.first_tokens.Goals as goal

pub returns : goal.returns
returns c =
    record {
      primary = primary_shows;
      callee = new_shows;
      left = left_shows;
      value = value_shows;
      values = expression_shows;
      no_end = value_is_no_end;
      no_prefix = left_is_no_prefix;
    }
