use Rattle.std.proofs.Common.{take}
use Rattle.consequences.specs.Indexed.{IsSetOf}
use Rattle.consequences.proofs.findings.set_of.Given as goal

abbrev pub invariant-loop-lit : goal.invariant-loop-lit
invariant-loop-lit l = IsSetOf l.set.keys (take l.lit-index l.lits)
