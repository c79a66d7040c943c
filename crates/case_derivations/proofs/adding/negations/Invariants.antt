use Rattle.std.proofs.Common.{◌≡◌, map, take}
use Rattle.lit_core.specs.Literals.{negated}
use Rattle.case_derivations.proofs.adding.negations.Given as goal

abbrev pub invariant-loop-lit : goal.invariant-loop-lit
invariant-loop-lit l = l.clause ≡ map negated (take l.lit-index l.lits)
