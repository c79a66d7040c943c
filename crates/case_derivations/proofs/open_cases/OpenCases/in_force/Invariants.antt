use Rattle.std.proofs.Common.{◌≡◌, ◌++◌, map, take}
use Rattle.case_derivations.specs.declared.open_cases.Case.{Case}
use Rattle.case_derivations.proofs.open_cases.OpenCases.in_force.Given as goal

abbrev pub invariant-loop-case : goal.invariant-loop-case
invariant-loop-case l = l.all.items ≡ l.lits ++ map (λ (c : Case). c.lit) (take l.case-index l.case-items)
