use Rattle.std.proofs.Common.{ltb, rules}
use Rattle.std.proofs.lemmas.List.Sorted.{IsPartitionPoint-from_clause, IsPartitionedBy-ltb}
use Rattle.row_ranges.proofs.Searching.{least-of}
use Rattle.row_ranges.proofs.keys.least_from.Goals as goal

pub returns : goal.returns
returns c =
    let xs = c.args.keys.now in
    let at = c.partition_point-at.result in
    let point = IsPartitionPoint-from_clause (λ y. ltb y c.args.from) xs at c.partition_point-at.ensures.partitioned
    (IsPartitionedBy-ltb (λ y. y) xs c.args.from c.requires) (λ b r q k. search rules) in
    least-of xs c.args.from at c.key_at.result c.requires point c.key_at.ensures
