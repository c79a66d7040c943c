use Rattle.std.proofs.Common.{◌≡◌, []}
use Rattle.task_cases.proofs.reading.read.Given as goal

abbrev pub invariant-loop-word : goal.invariant-loop-word
invariant-loop-word l =
    (l.input.problem.bounds ≡ []) × (l.input.problem.terms ≡ []) × (l.input.problem.retired ≡ [])
