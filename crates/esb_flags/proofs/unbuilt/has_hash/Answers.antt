use Rattle.std.proofs.Common.{rules, tests, lit<}
use Rattle.std.specs.Prelude.{ℕ, Bool, List, nat_eq, codes}
use Rattle.std.specs.List.{starts_with}
use Rattle.std.proofs.lemmas.Iterator.Search.{any_from_yields_List}
use Rattle.std.proofs.lemmas.Iterator.Adapters.{YieldsList-from_skip}
use Rattle.std.proofs.lemmas.Iterator.Splits.{YieldsList-from_str_split}
use Rattle.esb_flags.proofs.unbuilt.has_hash.Goals as goal

pub returns : goal.returns
returns c =
    let begins : List ℕ → Bool = λ rest. starts_with nat_eq rest (codes "hash]") in
    any_from_yields_List begins _ _ _ c.any.ensures.ran (YieldsList-from_skip 1 (YieldsList-from_str_split 91 c.args.value.now (lit< tt) (cc) (cc) (cc)) (cc)) (λ x b q k. search (rules, tests))
