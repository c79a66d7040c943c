-- When a clause was learnt.
use Rattle.std.specs.Prelude.{◌≡◌, ◌≤◌, ◌++◌, List, All, length, take}
use Rattle.ground_core.specs.declared.moments.Moment.{Moment}
use Rattle.ground_core.specs.Problems.{ProblemState}

-- how long the lists of the problem are
abbrev pub moment_of : ProblemState → Moment
moment_of p = record {
  vars = p.vars;
  gates = length p.gates;
  clauses = length p.clauses;
  sums = length p.sums;
  bounds =
      length p.bounds;
  retired = length p.retired;
}

-- the problem of that moment: its lists only grew since
abbrev pub problem_at : ProblemState → Moment → ProblemState
problem_at p m = record {
  atoms = p.atoms;
  vars = m.vars;
  gates = take m.gates p.gates;
  clauses = take m.clauses p.clauses;
  sums = take m.sums p.sums;
  terms = p.terms;
  bounds = take m.bounds p.bounds;
  retired = take m.retired p.retired;
}

-- a moment that was
pub record IsMomentOf (p : ProblemState) (m : Moment) : Type 0 where
  pub vars : m.vars ≤ p.vars
  pub gates : m.gates ≤ length p.gates
  pub clauses : m.clauses ≤ length p.clauses
  pub sums : m.sums ≤ length p.sums
  pub bounds : m.bounds ≤ length p.bounds
  pub retired : m.retired ≤ length p.retired

-- the first moment is no later than the second: at it no list was longer
pub record IsNoLater (m n : Moment) : Type 0 where
  pub vars : m.vars ≤ n.vars
  pub gates : m.gates ≤ n.gates
  pub clauses : m.clauses ≤ n.clauses
  pub sums : m.sums ≤ n.sums
  pub bounds : m.bounds ≤ n.bounds
  pub retired : m.retired ≤ n.retired

-- the second list is the first with more moments after it, of which none is earlier than this one
abbrev pub GrowsFrom : Moment → List Moment → List Moment → Type 0
GrowsFrom m old new = (more : List Moment) × (new ≡ old ++ more) × All (IsNoLater m) more
