use Rattle.std.proofs.Common.{◌≡◌, ◌++◌, drop, map}
use Rattle.size_stage.specs.Counted.{count_in}
use Rattle.size_stage.proofs.type_sizes.counts_of.Given as goal

abbrev pub invariant-loop-data : goal.invariant-loop-data
invariant-loop-data l = l.counts.items ++ map count_in (drop l.data-index l.types) ≡ map count_in l.types
