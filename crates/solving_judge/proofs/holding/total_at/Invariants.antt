use Rattle.std.proofs.Common.{◌≡◌, drop, slice_get}
use Rattle.solving_judge.specs.Sayings.{terms_of}
use Rattle.solving_judge.proofs.holding.total_at.Given as goal

-- the term that is looked for is one of the rest
abbrev pub invariant-loop-it : goal.invariant-loop-it
invariant-loop-it l = slice_get (terms_of (drop l.it-index l.fn.said)) l.left ≡ slice_get (terms_of l.fn.said) l.fn.term
