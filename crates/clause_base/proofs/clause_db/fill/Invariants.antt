use Rattle.std.proofs.Common.{◌≡◌, take}
use Rattle.clause_base.proofs.clause_db.fill.Given as goal

abbrev pub invariant-loop-lit : goal.invariant-loop-lit
invariant-loop-lit l = (l.buffer.items ≡ take l.lit-index l.lits) × (l.buffer.capacity ≡ l.fn.buffer.capacity)
