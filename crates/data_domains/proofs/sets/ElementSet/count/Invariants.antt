use Rattle.std.proofs.Common.{◌≡◌, ◌≤◌, ◌+◌, drop, map, length}
use Rattle.std.specs.List.{sum_by}
use Rattle.stage_definitions.specs.Elements.{size_of}
use Rattle.stage_definitions.specs.SizesStage.{capped}
use Rattle.data_domains.specs.Sets.{interval_view, runs_in, words_in}
use Rattle.data_domains.proofs.sets.ElementSet.count.Given as goal

abbrev pub invariant-loop-interval : goal.invariant-loop-interval
invariant-loop-interval l = record {
  small : l.count ≤ 18446744073709551615;
  sum : capped (l.count + sum_by size_of (map interval_view (drop l.interval-index l.self.intervals.items)))
      ≡ capped (length (words_in l.self) + sum_by size_of (runs_in l.self));
}
