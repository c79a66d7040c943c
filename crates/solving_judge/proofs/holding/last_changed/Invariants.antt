use Rattle.std.proofs.Common.{◌≡◌, ◌<◌, List, length, take}
use Rattle.kb_logic.specs.declared.structures.Literal.{Literal}
use Rattle.solving_judge.specs.Sayings.{problem_changed}
use Rattle.solving_judge.specs.Suiting.{Suits}
use Rattle.solving_judge.proofs.holding.last_changed.Given as goal

-- the values suit the problem to which so much is added
abbrev pub invariant-loop-event : goal.invariant-loop-event
invariant-loop-event l = record {
  fits : l.last < length l.fn.values;
  suits : (given : List Literal) → length given ≡ l.fn.atoms
      → Suits (problem_changed given l.fn.said (take l.event-index l.fn.events)) l.fn.values
      × ((problem_changed given l.fn.said (take l.event-index l.fn.events)).vars ≡ l.last);
}
