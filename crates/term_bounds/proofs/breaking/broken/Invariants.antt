use Rattle.std.proofs.Common.{ℕ, ◌≤◌, Bool, All, drop, length}
use Rattle.ground_core.specs.Meaning.{BoundHolds}
use Rattle.term_bounds.specs.Breaking.{HasLits}
use Rattle.term_bounds.specs.Shares.{IsDecidedAs}
use Rattle.term_bounds.proofs.BreakFacts.{IsNoted}
use Rattle.term_bounds.proofs.breaking.broken.Given as goal

-- the bounds from this place on hold where all has values; what is noted is one of them, and in force
abbrev pub invariant-loop-left : goal.invariant-loop-left
invariant-loop-left l = (l.left ≤ length l.fn.bounds) × ((v : ℕ → Bool)
    → HasLits (IsDecidedAs l.fn.assignment v) l.fn.terms l.fn.bounds → All (BoundHolds v l.fn.terms)
    (drop l.left l.fn.bounds)) × IsNoted l.fn.bounds l.fn.assignment l.left l.tight

abbrev pub decreases-loop-left : goal.decreases-loop-left
decreases-loop-left l = l.left
