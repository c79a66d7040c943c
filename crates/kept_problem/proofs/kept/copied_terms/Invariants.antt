use Rattle.std.proofs.Common.{◌≡◌, take}
use Rattle.kept_problem.proofs.kept.copied_terms.Given as goal

-- the ones so far are copied
abbrev pub invariant-loop-term : goal.invariant-loop-term
invariant-loop-term l = l.copies.items ≡ take l.term-index l.terms
