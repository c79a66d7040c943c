-- Laws of found models, which small public functions promise.
use Rattle.std.specs.Prelude.{◌≡◌, ℕ, ◌+◌, ◌-◌, ◌^◌, ◌<◌, ◌≤◌, min, true, List, Bool, length, take}
use Rattle.kb_logic.specs.declared.structures.Literal.{Literal}
use Rattle.kb_logic.specs.Bases.{Base, IsModelUnder}
use Rattle.kb_logic.specs.Structures.{EachWith}
use Rattle.lit_core.specs.declared.literals.Lit.{Lit}
use Rattle.lit_core.specs.Literals.{valuation}
use Rattle.ground_core.specs.Problems.{ProblemState, IsProblem}
use Rattle.ground_core.specs.Solving.{Answers}
use Rattle.ground_core.specs.declared.solving.Verdict.TheVariants.{Sat}
use Rattle.term_values.specs.GroundBases.{GroundBase, structure_of}
use Rattle.atom_numbers.specs.Numbers.{HasNumber}
use Rattle.consequences.specs.Forced.{IsSeen}
use Rattle.ground_task.specs.Tasks.{IsTaskOf}
use Rattle.found_models.specs.Found.{makes_all}
use Rattle.found_models.specs.Models.{atoms_of, IsFoundModel}

-- a found model that makes the literals of choices true is a model under the choices
abbrev pub FoundModelsAreModels : Type 0
FoundModelsAreModels =
    (base : Base) (b : GroundBase) (p : ProblemState) (choices : List Literal) (lits : List Lit) (values : List Bool)
    → IsTaskOf base b p → EachWith (HasNumber b) choices lits → IsFoundModel base values
    → makes_all lits values ≡ true → IsModelUnder base choices (structure_of b (valuation values))

-- and its values are those of a valuation that satisfies each task's problem and makes these literals true
abbrev pub FoundModelsAreSeen : Type 0
FoundModelsAreSeen =
    (base : Base) (b : GroundBase) (p : ProblemState) (choices : List Literal) (lits : List Lit) (values : List Bool)
    → IsTaskOf base b p → EachWith (HasNumber b) choices lits → IsFoundModel base values
    → makes_all lits values ≡ true → IsSeen p lits values

-- values that satisfy a task's problem are a found model, also where only those of the ground atoms are kept
abbrev pub SatisfyingValuesAreFound : Type 0
SatisfyingValuesAreFound =
    (base : Base) (b : GroundBase) (p : ProblemState) (lits : List Lit) (values : List Bool) (last : ℕ)
    → IsTaskOf base b p → IsProblem p → Answers p lits (Sat values) → length values < 2 ^ 64
    → min (atoms_of base) (2 ^ 64 - 1) ≤ last → IsFoundModel base (take (last + 1) values)
