use Rattle.std.proofs.Common.{◌≡◌, ◌++◌, map, take}
use Rattle.term_values.specs.KnownBases.{known_truth}
use Rattle.term_values.proofs.known_atoms.push_truths.Given as goal

-- the truths so far
abbrev pub invariant-loop-truth : goal.invariant-loop-truth
invariant-loop-truth l = l.known.items ≡ l.fn.known.items ++ map known_truth (take l.truth-index l.truths)
