-- What the problem over narrowed data promises.
use Rattle.std.specs.Prelude.{◌≡◌, ◌≤◌}
use Rattle.kb_logic.specs.Bases.{Base}
use Rattle.open_sizes.specs.OpenWeights.{base_weight}
use Rattle.ground_core.specs.Meaning.{HasTermsInRange}
use Rattle.ground_core.specs.Problems.{ProblemState}
use Rattle.def_ground.specs.Groundings.{IsGroundTheory, IsGroundingOf, TermsAreBounded, theory_problem}
use Rattle.narrowed_bases.specs.Narrowings.{IsNarrowing, grounded_base, IsProblemOf, IsLight, IsHeavy}
use Rattle.narrowed_bases.specs.declared.narrowings.Narrowing.{Narrowing}

-- its valuations are the models of the knowledge base itself
abbrev pub NarrowedIsRight : Type 0
NarrowedIsRight = (base : Base) (n : Narrowing) → IsGroundTheory base → IsNarrowing base n
    → IsGroundingOf base (theory_problem (grounded_base base n))

-- it has no more variables than the knowledge base weighs
abbrev pub NarrowedIsSmall : Type 0
NarrowedIsSmall = (base : Base) (n : Narrowing) → IsGroundTheory base → IsNarrowing base n
    → (theory_problem (grounded_base base n)).vars ≤ base_weight base

-- where the terms that may be asked for have small static bounds, its terms have values from -10^15 to 10^15
abbrev pub NarrowedIsInRange : Type 0
NarrowedIsInRange = (base : Base) (n : Narrowing) → IsGroundTheory base → IsNarrowing base n → TermsAreBounded base
    → HasTermsInRange (theory_problem (grounded_base base n))

-- a knowledge base has one ground problem
abbrev pub OneProblem : Type 0
OneProblem = (base : Base) (p q : ProblemState) → IsProblemOf base p → IsProblemOf base q → p ≡ q

-- what is open is never both within its limit and above it
abbrev pub LightOrHeavy : Type 0
LightOrHeavy = (base : Base) → IsLight base → IsHeavy base → ⊥
