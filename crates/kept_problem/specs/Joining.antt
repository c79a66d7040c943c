-- What is said by two problems together.
use Rattle.std.specs.Prelude.{◌≡◌, ◌≤◌, ◌+◌, List, [], ◌∷◌, ◌++◌, ◌⊎◌}
use Rattle.lit_core.specs.declared.literals.Lit.{Lit}
use Rattle.ground_core.specs.Problems.{ProblemState}

-- what both problems say, of the variables of the second
abbrev pub joined_problem : ProblemState → ProblemState → ProblemState
joined_problem p q = record {
  atoms = p.atoms ++ q.atoms;
  vars = q.vars;
  gates = p.gates ++ q.gates;
  clauses = p.clauses ++ q.clauses;
  sums = p.sums ++ q.sums;
  terms = p.terms ++ q.terms;
  bounds = p.bounds ++ q.bounds;
  retired = p.retired;
}

-- the second problem has all variables of the first and no retired selectors, and names no atoms and terms unless the
-- first has no variables
pub record CanJoin (p q : ProblemState) : Type 0 where
  pub vars : p.vars ≤ q.vars
  pub retired : q.retired ≡ []
  pub names : ((q.atoms ≡ []) × (q.terms ≡ [])) ⊎ (p.vars ≡ 0)

-- the problem with one more variable and one more clause
abbrev pub with_selected : ProblemState → List Lit → ProblemState
with_selected p c = record {
  atoms = p.atoms;
  vars = p.vars + 1;
  gates = p.gates;
  clauses = p.clauses ++ c ∷ [];
  sums = p.sums;
  terms = p.terms;
  bounds = p.bounds;
  retired = p.retired;
}
