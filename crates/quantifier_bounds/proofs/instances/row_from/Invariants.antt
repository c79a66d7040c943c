use Rattle.std.proofs.Common.{◌≡◌, ◌++◌, ◌-◌, drop, length}
use Rattle.plain_evaluation.specs.Environments.{env_view}
use Rattle.quantifier_bounds.proofs.instances.row_from.Given as goal

-- the row so far, and the elements that are left
abbrev pub invariant-elements : goal.invariant-elements
invariant-elements l = l.row ++ drop l.at (env_view l.env) ≡ drop l.first (env_view l.env)

abbrev pub decreases-elements : goal.decreases-elements
decreases-elements l = length (env_view l.env) - l.at
