use Rattle.std.proofs.Common.{◌<◌}
use Rattle.search_decisions.specs.Phases.{IsChoiceAt, KeepsAnswers, Notes}
use Rattle.search_decisions.proofs.phases.Phases.note_choices.Given as goal

-- the choices so far were noted
abbrev pub invariant-loop-place : goal.invariant-loop-place
invariant-loop-place l = record {
  same : KeepsAnswers l.fn.self l.self;
  notes : Notes (λ v k. IsChoiceAt l.problem l.from v k × (k < l.place)) l.fn.self l.self;
}
