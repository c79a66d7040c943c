-- The trail: which literals are true, in order of assignment.
use Rattle.std.specs.Prelude.{ℕ, Bool, Option, List}
use Rattle.clause_base.specs.declared.trail.Step.{Step}

-- each variable's value, if it has one; what was made true, in order; and how many decisions are open
pub record TrailState : Type 0 where
  pub values : List (Option Bool)
  pub steps : List Step
  pub level : ℕ
