use Rattle.std.proofs.Common.{◌≡◌, take}
use Rattle.kept_problem.proofs.kept.copied_sums.Given as goal

-- the ones so far are copied
abbrev pub invariant-loop-sum : goal.invariant-loop-sum
invariant-loop-sum l = l.copies.items ≡ take l.sum-index l.sums
