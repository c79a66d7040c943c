use Rattle.std.proofs.Common.{◌∙◌, ap, int_lt, option_map, rules}
use Rattle.std.proofs.lemmas.List.Sorted.{IsPartitionPoint-from_clause}
use Rattle.structure_entries.specs.WholeViews.{whole_view}
use Rattle.data_domains.specs.Sets.{interval_view}
use Rattle.data_domains.specs.declared.intervals.Interval.{Interval}
use Rattle.data_domains.proofs.Sorting.{found_at, parted}
use Rattle.data_domains.proofs.runs.reaching.Goals as goal

pub returns : goal.returns
returns c = λ a.
    let n = whole_view c.args.n in
    let xs = c.args.runs.now in
    let at = c.partition_point-at.result in
    let point = IsPartitionPoint-from_clause (λ (i : Interval). int_lt (whole_view i.high) n) xs at
    c.partition_point-at.ensures.partitioned (parted a.start n xs a.from) (λ b r q k. search rules) in
    ap (option_map interval_view) c.interval_at.ensures ∙ found_at n xs at point
