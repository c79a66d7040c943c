-- The solver that a session keeps.
use Rattle.std.specs.Prelude.{◌≡◌, ◌≤◌, List, []}
use Rattle.kb_logic.specs.Bases.{Base}
use Rattle.consult_text.specs.Searches.{weight}
use Rattle.lit_core.specs.declared.literals.Lit.{Lit}
use Rattle.partial_structures.specs.Consistency.{IsListed}
use Rattle.term_values.specs.GroundBases.{GroundBase}
use Rattle.term_values.specs.KnownBases.{AreDataOf}
use Rattle.atom_numbers.specs.Unknown.{AreOpen}
use Rattle.ground_core.specs.Solving.{SolveState, IsKept}
use Rattle.def_ground.specs.Groundings.{IsGroundingOf}
use Rattle.ground_task.specs.Tasks.{IsTaskOf, atom_base}

-- the solver's problem stands for the models of the knowledge base; and each clause that it learnt follows from that
-- problem, and was new to it
pub record IsSolverOf (kb : Base) (s : SolveState) : Type 0 where
  pub task : IsTaskOf kb (atom_base kb) s.problem
  pub kept : IsKept s

-- a solver of the knowledge base's ground problem, which learnt nothing yet
pub record IsNewSolverOf (kb : Base) (s : SolveState) : Type 0 where
  pub grounding : IsGroundingOf kb s.problem
  pub unretired : s.problem.retired ≡ []
  pub learnt : s.learnt ≡ []
  pub cores : s.cores ≡ []
  pub free : s.free ≤ weight kb
  pub kept : IsKept s

-- a task of the knowledge base with these numbers over a solver in which no more variables are free than it weighs
pub record IsTaskOver (kb : Base) (numbers : GroundBase) (s : SolveState) : Type 0 where
  pub task : IsTaskOf kb numbers s.problem
  pub kept : IsKept s
  pub free : s.free ≤ weight kb

-- the data are those of the knowledge base's vocabulary, and these are the literals of the variables of the atoms that
-- they leave unknown
pub record AreUnknownOf (kb : Base) (lits : List Lit) : Type 0 where
  pub data_of : AreDataOf kb.vocabulary kb.known
  pub listed : IsListed kb.known
  pub unknown : AreOpen (atom_base kb) kb.known lits
