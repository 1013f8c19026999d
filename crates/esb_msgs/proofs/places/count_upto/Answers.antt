use Rattle.std.proofs.Common.{leb, rules}
use Rattle.std.proofs.lemmas.Bool.{leb-true, leb-false}
use Rattle.std.proofs.lemmas.List.Sorted.{IsPartitionPoint-from_clause, IsPartitionedBy-leb}
use Rattle.esb_msgs.proofs.places.count_upto.Goals as goal

pub returns-clause-parts : goal.returns-clause-parts
returns-clause-parts c =
    let parted = IsPartitionedBy-leb (λ x. x) c.args.starts.now c.args.offset c.requires in
    let point = IsPartitionPoint-from_clause (λ start. leb start c.args.offset) _ _ c.partition_point.ensures.partitioned parted (λ a r q k. search rules) in
    (λ i d le less. leb-true _ _ (point.0 i d le less), λ i d le less. leb-false _ _ (point.1 i d le less))
