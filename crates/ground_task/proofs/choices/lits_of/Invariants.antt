use Rattle.std.proofs.Common.{take}
use Rattle.kb_logic.specs.Structures.{EachWith}
use Rattle.atom_numbers.specs.Numbers.{HasNumber}
use Rattle.ground_task.proofs.choices.lits_of.Given as goal

abbrev pub invariant-loop-choice : goal.invariant-loop-choice
invariant-loop-choice l = EachWith (HasNumber l.numbers) (take l.choice-index l.choices) l.lits.items
