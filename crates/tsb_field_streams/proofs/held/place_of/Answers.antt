use Rattle.std.proofs.Common.{leb, leb-true, leb-false, rules}
use Rattle.std.proofs.lemmas.List.Sorted.{IsPartitionPoint-from_clause, IsPartitionedBy-leb}
use Rattle.tsb_field_streams.specs.Order.{time_of}
use Rattle.tsb_field_streams.proofs.held.place_of.Goals as goal

pub returns-clause-below : goal.returns-clause-below
returns-clause-below c =
    let parted = IsPartitionedBy-leb time_of _ c.args.moment c.requires in
    let point = IsPartitionPoint-from_clause (λ row. leb (time_of row) c.args.moment) _ _ c.partition_point.ensures.partitioned parted (λ a r q k. search rules) in
    λ k d from lt. leb-true _ _ (point.0 k d from lt)

pub returns-clause-above : goal.returns-clause-above
returns-clause-above c =
    let parted = IsPartitionedBy-leb time_of _ c.args.moment c.requires in
    let point = IsPartitionPoint-from_clause (λ row. leb (time_of row) c.args.moment) _ _ c.partition_point.ensures.partitioned parted (λ a r q k. search rules) in
    λ k d from lt. leb-false _ _ (point.1 k d from lt)
