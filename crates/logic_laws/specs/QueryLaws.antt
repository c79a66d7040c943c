-- What the definitions of answers to a session's questions say, in the subject's own words.
use Rattle.std.specs.Prelude.{◌≡◌, ◌↔◌, ℕ, true, List, Contains}
use Rattle.kb_logic.specs.declared.elements.ExtInt.{ExtInt}
use Rattle.kb_logic.specs.declared.structures.Literal.{Literal}
use Rattle.kb_logic.specs.declared.structures.Structure.{Structure}
use Rattle.kb_logic.specs.Bases.{Base}
use Rattle.kb_logic.specs.InForce.{InForce, IsModelOf, Forces, IsSomeOf}
use Rattle.kb_logic.specs.InForce.{literals_over}
use Rattle.kb_logic.specs.Answers.{AreModels, AreShown, IsLeftOut, IsLeast}

-- with less in force there are the models that there were, and perhaps more
abbrev pub LessAllowsMore : Type 0
LessAllowsMore = (base : Base) (q p : InForce) (m : Structure) → IsSomeOf q p → IsModelOf base p m → IsModelOf base q m

-- what some of it forces, all of it forces
abbrev pub MoreForcesMore : Type 0
MoreForcesMore = (base : Base) (q p : InForce) (l : Literal) → IsSomeOf q p → Forces base q l → Forces base p l

-- a literal is shown exactly where it is true in all models and not left out
abbrev pub ShownAreExactlyThose : Type 0
ShownAreExactlyThose = (base : Base) (p : InForce) (ls : List Literal) → AreShown base p ls
    → (l : Literal) → Contains (literals_over base) l → Contains ls l ↔ (Forces base p l × (IsLeftOut base p l → ⊥))

-- a list of models that is complete has each model
abbrev pub CompleteHasEach : Type 0
CompleteHasEach = (base : Base) (p : InForce) (n : ℕ) (ms : List Structure) (m : Structure)
    → AreModels base p n ms true → Contains ms m ↔ IsModelOf base p m

-- two least values of one term are the same value
abbrev pub LeastIsOne : Type 0
LeastIsOne = (base : Base) (p : InForce) (t : ℕ) (v w : ExtInt) (m o : Structure)
    → IsLeast base p t v m → IsLeast base p t w o → v ≡ w
