use Rattle.std.proofs.Common.{◌≡◌, take}
use Rattle.forced_literals.specs.Searches.{both_signs}
use Rattle.forced_literals.proofs.searching.signed.Given as goal

abbrev pub invariant-loop-lit : goal.invariant-loop-lit
invariant-loop-lit l = l.both.items ≡ both_signs (take l.lit-index l.lits)
