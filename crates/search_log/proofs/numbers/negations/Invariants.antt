use Rattle.std.proofs.Common.{◌≡◌, ◌++◌, drop, map}
use Rattle.lit_core.specs.Literals.{negated}
use Rattle.search_log.proofs.numbers.negations.Given as goal

-- those so far, and those of the rest
abbrev pub invariant-loop-lit : goal.invariant-loop-lit
invariant-loop-lit l = l.list ++ map negated (drop l.lit-index l.lits) ≡ map negated l.lits
