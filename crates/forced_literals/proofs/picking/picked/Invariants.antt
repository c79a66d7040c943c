use Rattle.std.proofs.Common.{List, take}
use Rattle.lit_core.specs.declared.literals.Lit.{Lit}
use Rattle.forced_literals.specs.Picking.{ArePicked, IsLeftOutOf}
use Rattle.forced_literals.proofs.picking.picked.Given as goal

abbrev pub invariant-loop-lit : goal.invariant-loop-lit
invariant-loop-lit l =
    (chosen forced : List Lit) → IsLeftOutOf l.numbers chosen forced l.left_out
    → ArePicked l.numbers chosen forced (take l.lit-index l.lits) l.list
