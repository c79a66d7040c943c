-- What holds of a checker at any time.
use Rattle.std.specs.Prelude.{◌≡◌, ◌≤◌, true, All}
use Rattle.ground_core.specs.declared.parts.TermBound.{TermBound}
use Rattle.ground_core.specs.Problems.{ProblemState, IsProblem, IsBoundOf}
use Rattle.ground_core.specs.GateClauses.{clauses_of}
use Rattle.ground_core.specs.Solving.{IsPrefix}
use Rattle.derivation_log.specs.Steps.{CheckState}
use Rattle.log_checker.specs.Growing.{Checking}

-- the state is one that entries may leave: its clauses begin with the problem's, its variables are among those in use,
-- and each of its bounds says of one of the problem's terms what a variable in use means
pub record IsState (p : ProblemState) (st : CheckState) : Type 0 where
  pub clauses : IsPrefix (clauses_of p) st.clauses
  pub vars : p.vars ≤ st.vars
  pub bounds : All (IsBoundOf st.vars p.terms) st.bounds
  pub selectors : All (λ (b : TermBound). b.out.positive ≡ true) st.bounds

-- the problem is one, and the state may be left by entries over it
pub record IsKept (c : Checking) : Type 0 where
  pub problem : IsProblem c.problem
  pub state : IsState c.problem c.state
