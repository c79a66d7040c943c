-- What is known of a solver's problem beside it.
use Rattle.std.specs.Prelude.{◌≡◌, All, length}
use Rattle.ground_core.specs.Problems.{ProblemState}
use Rattle.ground_core.specs.Growing.{IsSelector}
use Rattle.solving_judge.specs.declared.additions.Marks.{Marks}

-- its counts, selectors that may be retired, and those that are
pub record AreMarks (p : ProblemState) (m : Marks) : Type 0 where
  pub atoms : length p.atoms ≡ m.atoms
  pub vars : p.vars ≡ m.vars
  pub terms : length p.terms ≡ m.terms
  pub selectors : All (IsSelector p) m.selectors.items
  pub retired : p.retired ≡ m.retired.items
