use Rattle.std.proofs.Common.{rules, tests, lit<}
use Rattle.std.proofs.lemmas.Iterator.Search.{all_from_yields_List}
use Rattle.std.proofs.lemmas.Iterator.Adapters.{YieldsList-from_skip}
use Rattle.std.proofs.lemmas.Iterator.Splits.{YieldsList-from_str_split}
use Rattle.esb_flags.specs.Flags.{is_entry_mark}
use Rattle.esb_flags.proofs.flag.has_entry_marks.Goals as goal

pub returns : goal.returns
returns c = all_from_yields_List is_entry_mark _ _ _ c.all.ensures.ran (YieldsList-from_skip 1 (YieldsList-from_str_split 91 c.args.value.now (lit< tt) (cc) (cc) (cc)) (cc)) (λ x b q k. search (rules, tests))
