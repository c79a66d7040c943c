use Rattle.plain_evaluation.specs.Environments.{frame_view}
use Rattle.plain_evaluation.proofs.Digits.{At}
use Rattle.plain_evaluation.proofs.environments.element.Given as goal

abbrev pub invariant-loop-at : goal.invariant-loop-at
invariant-loop-at l = At l.frame.block.domains.now l.bounds (frame_view l.frame) l.at l.count l.number
