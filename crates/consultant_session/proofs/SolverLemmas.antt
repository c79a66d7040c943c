-- The solver that a session keeps, from command to command.
use Rattle.std.proofs.Common.{◌≡◌, ℕ, List, [], ◌∷◌, refl, subst, Some, slice_get}
use Rattle.std.proofs.lemmas.List.Elements.{All-nil}
use Rattle.kb_logic.specs.Bases.{Base}
use Rattle.ground_core.specs.Meaning.{RefutesAll}
use Rattle.ground_core.specs.Moments.{IsMomentOf}
use Rattle.ground_core.specs.Solving.{SolveState, IsKept}
use Rattle.ground_task.specs.Tasks.{IsTaskOf}
use Rattle.term_values.specs.GroundBases.{GroundBase}
use Rattle.clause_learning.specs.SolverState.{forgotten}
use Rattle.session_queries.specs.Solvers.{IsSolverOf, IsTaskOver}

none-at : {A : Type 0} (xs : List A) (k : ℕ) (x : A) → xs ≡ [] → slice_get xs k ≡ Some x → ⊥
none-at [] k x none at = cc
none-at (y ∷ xs) k x none at = cc

-- a solver that forgets is kept
pub forgotten-kept : (s : SolveState) → IsKept s → IsKept (forgotten s)
forgotten-kept s is = record {
  problem = is.problem;
  terms = is.terms;
  learnt = record {
    paired = refl;
    were = All-nil (IsMomentOf s.problem);
    each = λ k c m at there. absurd (none-at [] k c refl at);
  };
  refuted = All-nil (RefutesAll s.problem);
  counted = is.counted;
  selectors = is.selectors;
  free = is.free;
}

-- the solver of a session's task is one of the knowledge base
pub solver-of : (kb : Base) (numbers : GroundBase) (s : SolveState) → IsTaskOver kb numbers s → IsSolverOf kb s
solver-of kb numbers s is = record {
  task = subst (λ (b : GroundBase). IsTaskOf kb b s.problem) is.task.numbers is.task;
  kept = is.kept;
}

-- and a solver of the knowledge base stays one where it forgets
pub forgotten-solver : (kb : Base) (s : SolveState) → IsSolverOf kb s → IsSolverOf kb (forgotten s)
forgotten-solver kb s is = record { task = is.task; kept = forgotten-kept s is.kept }
