-- Tasks, with the literals of the atoms that the data leave unknown, and what is answered about them.
use Rattle.std.specs.Prelude.{Option, Some, None, List, All}
use Rattle.kb_logic.specs.declared.structures.Literal.{Literal}
use Rattle.kb_logic.specs.Bases.{Base}
use Rattle.kb_logic.specs.InForce.{InForce, HasNoModel}
use Rattle.kb_logic.specs.Answers.{AreShown}
use Rattle.lit_core.specs.declared.literals.Lit.{Lit}
use Rattle.ground_core.specs.Problems.{ProblemState}
use Rattle.partial_structures.specs.Consistency.{IsListed}
use Rattle.term_values.specs.GroundBases.{GroundBase}
use Rattle.term_values.specs.KnownBases.{AreDataOf}
use Rattle.atom_numbers.specs.Unknown.{AreOpen}
use Rattle.ground_task.specs.Tasks.{IsTaskOf}
use Rattle.consequences.specs.declared.kept.Kept.{Kept}
use Rattle.kept_supports.specs.Supports.{Covers, IsSupported}

-- it is a task of the knowledge base, whose data are listed and of its vocabulary, and these are the literals of the
-- atoms that they leave unknown
pub record IsOpenTaskOf (base : Base) (b : GroundBase) (p : ProblemState) (lits : List Lit) : Type 0 where
  pub task : IsTaskOf base b p
  pub data_of : AreDataOf base.vocabulary base.known
  pub listed : IsListed base.known
  pub unknown : AreOpen b base.known lits

-- it is one, and each of these literals is kept with choices that alone force it
abbrev pub IsOpenTaskWith : Base → GroundBase → ProblemState → List Lit → List Literal → List Kept → Type 0
IsOpenTaskWith base b p lits choices ks = IsOpenTaskOf base b p lits × All (IsSupported base choices) ks

-- it is one of some knowledge base
abbrev pub IsOpenTask : GroundBase → ProblemState → List Lit → List Literal → List Kept → Type 0
IsOpenTask b p lits choices ks = (base : Base) × IsOpenTaskWith base b p lits choices ks

-- there is no model, or these literals are shown
abbrev pub IsAnswer : Base → InForce → Option (List Literal) → Type 0
IsAnswer base p None = HasNoModel base p
IsAnswer base p (Some ls) = AreShown base p ls

-- where there is a model every literal of an unknown atom that is true in all models is kept
abbrev pub CoversWhereSome : Base → InForce → List Kept → Option (List Literal) → Type 0
CoversWhereSome base p ks None = Unit {0}
CoversWhereSome base p ks (Some ls) = Covers base p ks
