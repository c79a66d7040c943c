use Rattle.std.proofs.Common.{◌≡◌, map, take}
use Rattle.row_ranges.specs.Keys.{key_of}
use Rattle.row_ranges.proofs.keys.row_keys.Given as goal

abbrev pub invariant-loop-row : goal.invariant-loop-row
invariant-loop-row l = l.keys.items ≡ map (key_of l.domains l.types l.own) (take l.row-index l.rows)
