use Rattle.std.proofs.Common.{◌≡◌, map, take}
use Rattle.size_stage.specs.Ranges.{range_view, ranges_in}
use Rattle.size_stage.proofs.domain_integers.domain_ranges.Given as goal

abbrev pub invariant-loop-domain : goal.invariant-loop-domain
invariant-loop-domain l = map range_view l.ranges.items ≡ ranges_in (take l.domain-index l.domain-items)
