-- What queries over a task answer.
use Rattle.std.specs.Prelude.{ℕ, Option, Some, None, List}
use Rattle.kb_logic.specs.declared.structures.Literal.{Literal}
use Rattle.kb_logic.specs.Bases.{Base}
use Rattle.kb_logic.specs.InForce.{InForce, HasModel, HasNoModel, LeavesFalse}
use Rattle.kb_logic.specs.Answers.{AreModels, IsConflict, IsLeast, IsSupport}
use Rattle.lit_core.specs.declared.literals.Lit.{Lit}
use Rattle.term_values.specs.GroundBases.{GroundBase}
use Rattle.ground_task.specs.Tasks.{AreRefuted}
use Rattle.task_queries.specs.declared.found.Least.{Least}
use Rattle.task_queries.specs.declared.found.Models.{Models}
use Rattle.task_queries.specs.declared.found.Reason.{Reason}
use Rattle.task_queries.specs.declared.found.Reason.TheVariants.{Free, Inconsistent, By}

-- these choices in force
abbrev pub under : List Literal → InForce
under choices = record { choices = choices }

-- there is a model under the choices, or these of them conflict
abbrev pub AnswersConflict : Base → List Literal → Option (List Literal) → Type 0
AnswersConflict base choices None = HasModel base (under choices)
AnswersConflict base choices (Some ls) = IsConflict base (under choices) (under ls)

-- the literal is false in a model under the choices, there is no model, or these choices support the literal
abbrev pub AnswersSupport : Base → List Literal → Literal → Reason → Type 0
AnswersSupport base choices l Free = LeavesFalse base (under choices) l
AnswersSupport base choices l Inconsistent = HasNoModel base (under choices)
AnswersSupport base choices l (By ls) = IsSupport base (under choices) l (under ls)

-- there is no model under the choices, or these are at most so many
abbrev pub AnswersModels : Base → List Literal → ℕ → Option Models → Type 0
AnswersModels base choices most None = HasNoModel base (under choices)
AnswersModels base choices most (Some ms) = AreModels base (under choices) most ms.list ms.all

-- there is no model under the choices, or this is the term's least value, with a model
abbrev pub AnswersLeast : Base → List Literal → ℕ → Option Least → Type 0
AnswersLeast base choices term None = HasNoModel base (under choices)
AnswersLeast base choices term (Some l) = IsLeast base (under choices) term l.value l.model

-- that there is no model is shown by a kept core among the choices' literals
abbrev pub ShowsInconsistent : GroundBase → List Literal → List (List Lit) → Reason → Type 0
ShowsInconsistent b choices cores Free = Unit {0}
ShowsInconsistent b choices cores Inconsistent = AreRefuted b choices cores
ShowsInconsistent b choices cores (By ls) = Unit {0}
