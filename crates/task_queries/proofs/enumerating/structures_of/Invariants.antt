use Rattle.std.proofs.Common.{◌≡◌, map, take}
use Rattle.lit_core.specs.Literals.{valuation}
use Rattle.term_values.specs.GroundBases.{structure_of}
use Rattle.task_queries.proofs.enumerating.structures_of.Given as goal

abbrev pub invariant-loop-values : goal.invariant-loop-values
invariant-loop-values g l =
    l.list ≡ map (λ v. structure_of l.task.numbers (valuation v)) (take l.values-index l.found)
