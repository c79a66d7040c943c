-- What the problem of a theory promises.
use Rattle.std.specs.Prelude.{◌≤◌, map}
use Rattle.kb_logic.specs.Weights.{weight_of}
use Rattle.kb_logic.specs.Bases.{Base, NamedTerm}
use Rattle.ground_core.specs.Meaning.{HasTermsInRange}
use Rattle.def_ground.specs.Groundings.{IsGroundTheory, IsGroundingOf, theory_problem, HasNoBounds}
use Rattle.def_ground.specs.Groundings.{TermsAreBounded}

-- its valuations are the models of the theory that extend the data
abbrev pub ProblemIsRight : Type 0
ProblemIsRight = (base : Base) → IsGroundTheory base → IsGroundingOf base (theory_problem base)

-- it says nothing of bounds
abbrev pub ProblemHasNoBounds : Type 0
ProblemHasNoBounds = (base : Base) → HasNoBounds (theory_problem base)

-- it has no more variables than the weight of the knowledge base
abbrev pub ProblemIsSmall : Type 0
ProblemIsSmall =
    (base : Base) → IsGroundTheory base
    → (theory_problem base).vars ≤ weight_of base.vocabulary base.known.domains base.theory
    (map (λ (t : NamedTerm). t.term) base.terms)

-- where the terms that may be asked for have small static bounds, its terms have values from -10^15 to 10^15
abbrev pub TermsAreInRange : Type 0
TermsAreInRange = (base : Base) → IsGroundTheory base → TermsAreBounded base → HasTermsInRange (theory_problem base)
