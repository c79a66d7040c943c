use Rattle.std.proofs.Common.{ℕ, ◌<◌, Contains, length}
use Rattle.conflict_analysis.specs.Shortening.{IsLeftOrKept, IsShort}
use Rattle.conflict_analysis.proofs.shortening.shorten.Given as goal

abbrev pub invariant-loop-next : goal.invariant-loop-next
invariant-loop-next l = record {
  short : IsShort l.store l.place (IsLeftOrKept l.left l.kept) l.hints.items;
  above : (k j : ℕ) → Contains l.kept k → Contains l.left j → j < k;
}

abbrev pub decreases-loop-next : goal.decreases-loop-next
decreases-loop-next l = length l.left
