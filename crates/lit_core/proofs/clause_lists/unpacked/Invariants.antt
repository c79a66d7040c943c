use Rattle.std.proofs.Common.{◌≡◌, take}
use Rattle.lit_core.proofs.clause_lists.unpacked.Given as goal

abbrev pub invariant-loop-lit : goal.invariant-loop-lit
invariant-loop-lit l = l.clause ≡ take l.lit-index l.lits
