-- What the definitions of states say, in the subject's own words.
use Rattle.std.specs.Prelude.{◌≡◌, ◌≢◌, ◌↔◌, ℕ, List, Option, not, Contains, IsTrue}
use Rattle.kb_logic.specs.declared.structures.Structure.{Structure}
use Rattle.kb_logic.specs.declared.structures.Literal.{Literal}
use Rattle.kb_logic.specs.Bases.{Base}
use Rattle.kb_logic.specs.Structures.{IsDistinct}
use Rattle.consult_text.specs.declared.commands.Command.{Command}
use Rattle.consult_text.specs.declared.commands.Command.TheVariants as command
use Rattle.consult_text.specs.States.{State, same_literal, is_chosen, without, state_after}
use Rattle.kb_logic.specs.InForce.{IsModelOf}
use Rattle.consult_text.specs.RightReplies.{in_force}

-- the test of two literals tells exactly whether they are equal
abbrev pub SameLiteralIsEquality : Type 0
SameLiteralIsEquality = (a b : Literal) → IsTrue (same_literal a b) ↔ (a ≡ b)

-- a literal is chosen exactly where it stands among the choices
abbrev pub ChosenIsMembership : Type 0
ChosenIsMembership = (s : State) (l : Literal) → IsTrue (is_chosen s l) ↔ Contains s.choices l

-- without a literal, the choices are exactly the other ones
abbrev pub WithoutRemovesOne : Type 0
WithoutRemovesOne = (l c : Literal) (choices : List Literal) → Contains (without l choices) c
    ↔ (Contains choices c × (c ≢ l))

-- where no literal is a choice twice, a command leaves it so
abbrev pub ChoicesStayDistinct : Type 0
ChoicesStayDistinct = (kb : Base) (s : State) (c : Command) → IsDistinct s.choices
    → IsDistinct (state_after kb s c).choices

-- no command but `budget` changes the budget
abbrev pub BudgetStays : Type 0
BudgetStays = (kb : Base) (s : State) (c : Command) → ((b : Option ℕ) → c ≢ command.Budget b)
    → (state_after kb s c).budget ≡ s.budget

abbrev pub opposite : Literal → Literal
opposite l = record l { positive = not l.positive }

-- there is no model where a literal and its opposite are choices
abbrev pub OppositeChoicesHaveNoModel : Type 0
OppositeChoicesHaveNoModel = (kb : Base) (s : State) (l : Literal) (m : Structure) → Contains s.choices l
    → Contains s.choices (opposite l) → IsModelOf kb (in_force s) m → ⊥
