use Rattle.std.proofs.Common.{◌≡◌, ◌++◌, drop, map}
use Rattle.size_stage.specs.Counted.{elements_of}
use Rattle.size_stage.specs.Ranges.{range_view, ranges_in}
use Rattle.size_stage.proofs.type_sizes.ranges_of.Given as goal

abbrev pub invariant-loop-data : goal.invariant-loop-data
invariant-loop-data l = map range_view l.ranges.items ++ ranges_in (map elements_of (drop l.data-index l.types))
    ≡ ranges_in (map elements_of l.types)
