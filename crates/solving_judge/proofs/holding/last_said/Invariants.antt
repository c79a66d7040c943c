use Rattle.std.proofs.Common.{◌≡◌, ◌<◌, List, length, take}
use Rattle.kb_logic.specs.declared.structures.Literal.{Literal}
use Rattle.solving_judge.specs.Sayings.{problem_said}
use Rattle.solving_judge.specs.Suiting.{Suits}
use Rattle.solving_judge.proofs.holding.last_said.Given as goal

-- the values suit the problem of which so much is said
abbrev pub invariant-loop-it : goal.invariant-loop-it
invariant-loop-it l = record {
  fits : l.last < length l.fn.values;
  suits : (given : List Literal) → length given ≡ l.fn.atoms
      → Suits (problem_said given (take l.it-index l.fn.said)) l.fn.values
      × ((problem_said given (take l.it-index l.fn.said)).vars ≡ l.last);
}
