-- The problem that a solver keeps.
use Rattle.std.specs.Prelude.{◌≤◌}
use Rattle.std.specs.Vec.{vec_capacity}
use Rattle.ground_core.specs.Problems.{ProblemState, IsProblem}
use Rattle.kept_problem.specs.declared.kept.KeptProblem.TheInside.{Inside}
use Rattle.ground_core.specs.Selectors.{AreSelectors}

abbrev pub state_of : Inside → ProblemState
state_of p = record {
  atoms = p.atoms;
  vars = p.vars;
  gates = p.gates.items;
  clauses = p.clauses;
  sums = p.sums.items;
  terms = p.terms.items;
  bounds = p.bounds.items;
  retired = p.retired.items;
}

pub record IsKept (p : Inside) : Type 0 where
  pub laws : IsProblem (state_of p)
  pub retired : AreSelectors p.retired.items
  -- there is room to retire every variable
  pub room : p.vars ≤ vec_capacity p.retired
