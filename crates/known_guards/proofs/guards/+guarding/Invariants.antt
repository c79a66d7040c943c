use Rattle.std.proofs.Common.{map, drop}
use Rattle.kb_logic.specs.Trees.{formulas_of}
use Rattle.kb_logic.specs.Views.{formula_view}
use Rattle.known_guards.specs.declared.guards.Guard.{Guard}
use Rattle.known_guards.specs.Guards.{AreGuarded}
use Rattle.known_guards.proofs.guards.+guarding.Given as goal

-- what guards those that are left guards all
abbrev pub invariant-guard_among-loop-formula : goal.invariant-guard_among-loop-formula
invariant-guard_among-loop-formula l =
    (g : Guard) → AreGuarded l.v (formulas_of (map formula_view (drop l.formula-index l.formulas))) g
    → AreGuarded l.v (formulas_of (map formula_view l.formulas)) g
