use Rattle.kb_logic.specs.Structures.{EachWith}
use Rattle.term_values.specs.GroundBases.{GroundBase}
use Rattle.atom_numbers.specs.Numbers.{HasNumber}
use Rattle.ground_task.proofs.ChoiceFacts.{IsSoFar}
use Rattle.ground_task.proofs.choices.chosen_among.Given as goal

abbrev pub invariant-loop-k : goal.invariant-loop-k
invariant-loop-k l = (b : GroundBase) → EachWith (HasNumber b) l.choices l.lits
    → IsSoFar b l.choices l.lits l.core l.k l.at l.some
