use Rattle.std.proofs.Common.{◌≡◌, ◌↔◌, length, drop}
use Rattle.kb_logic.specs.Structures.{choices}
use Rattle.plain_evaluation.proofs.environments.have_no_assignment.Given as goal

abbrev pub invariant-loop-bound : goal.invariant-loop-bound
invariant-loop-bound l = (length (choices l.domains l.bounds) ≡ 0)
    ↔ (length (choices l.domains (drop l.bound-index l.bounds)) ≡ 0)
