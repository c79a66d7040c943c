use Rattle.std.proofs.Common.{◌≡◌, ◌==◌, ℕ, take}
use Rattle.std.specs.List.{list_any}
use Rattle.lit_core.specs.declared.literals.Lit.{Lit}
use Rattle.forced_literals.specs.Picking.{is_among}
use Rattle.forced_literals.proofs.picking.variables.Given as goal

abbrev pub invariant-loop-lit : goal.invariant-loop-lit
invariant-loop-lit l = (n : ℕ) → is_among l.vars.keys n ≡ list_any (λ (k : Lit). k.var.0 == n)
    (take l.lit-index l.lits)
