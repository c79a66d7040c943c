use Rattle.std.proofs.Common.{All, take}
use Rattle.ground_core.specs.Ranges.{IsSmall}
use Rattle.ground_core.proofs.ranges.are_small.Given as goal

abbrev pub invariant-loop-term : goal.invariant-loop-term
invariant-loop-term l = All IsSmall (take l.term-index l.terms)
