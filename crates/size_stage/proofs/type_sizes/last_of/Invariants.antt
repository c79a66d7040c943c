use Rattle.std.proofs.Common.{◌≡◌, drop, map}
use Rattle.data_domains.specs.Sets.{interval_view}
use Rattle.size_stage.specs.Counted.{last_of}
use Rattle.size_stage.proofs.type_sizes.last_of.Given as goal

abbrev pub invariant-loop-interval : goal.invariant-loop-interval
invariant-loop-interval l = last_of (interval_view l.last) (map interval_view (drop l.interval-index l.more))
    ≡ last_of (interval_view l.fn.first) (map interval_view l.fn.more)
