use Rattle.std.proofs.Common.{sym}
use Rattle.esb_statement_tests.proofs.Lasts.{element_none, element_some}
use Rattle.esb_statement_tests.proofs.semicolons.last_element.Goals as goal

pub returns-in-empty : goal.returns-in-empty
returns-in-empty c = sym (element_none _ _ _ c.as_slice.ensures c.in-empty.len_below)

pub returns-in-len1-up : goal.returns-in-len1-up
returns-in-len1-up c = sym (element_some _ _ _ _ c.as_slice.ensures c.in-len1-up.len_at_least c.last-item.is)
