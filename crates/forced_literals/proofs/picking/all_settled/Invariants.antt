use Rattle.std.proofs.Common.{take}
use Rattle.forced_literals.specs.Picking.{AreSettled}
use Rattle.forced_literals.proofs.picking.all_settled.Given as goal

abbrev pub invariant-loop-lit : goal.invariant-loop-lit
invariant-loop-lit l = AreSettled l.numbers (take l.lit-index l.lits) l.vars.keys
