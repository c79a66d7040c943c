use Rattle.std.proofs.Common.{◌≡◌, ◌≤◌, length, take, vec_capacity}
use Rattle.search_engine.proofs.pushing.unpack.Given as goal

abbrev pub invariant-loop-lit : goal.invariant-loop-lit
invariant-loop-lit l = (l.buffer.items ≡ take l.lit-index l.lits) × (length l.lits ≤ vec_capacity l.buffer)
