-- Laws of tasks, which small public functions promise.
use Rattle.kb_logic.specs.Bases.{Base}
use Rattle.ground_core.specs.Problems.{ProblemState, IsProblem}
use Rattle.ground_core.specs.Calls.{GrowsByAdditions}
use Rattle.term_values.specs.GroundBases.{GroundBase}
use Rattle.ground_task.specs.Tasks.{IsTaskOf}

-- what is a task of a knowledge base is one after additions, whose selectors alone were retired
abbrev pub TaskOutlastsAdditions : Type 0
TaskOutlastsAdditions =
    (base : Base) (b : GroundBase) (p q : ProblemState)
    → IsProblem p → IsTaskOf base b p → GrowsByAdditions p q → IsTaskOf base b q
