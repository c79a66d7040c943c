use Rattle.std.proofs.Common.{◌≡◌, Any, take}
use Rattle.search_decisions.specs.Phases.{KeepsAnswers, Notes}
use Rattle.search_decisions.proofs.phases.Phases.note_choice.Given as goal

-- the place was noted for the variables so far
abbrev pub invariant-loop-lit : goal.invariant-loop-lit
invariant-loop-lit l = record {
  same : KeepsAnswers l.fn.self l.self;
  notes : Notes (λ v k. Any (λ m. m.var.0 ≡ v) (take l.lit-index l.clause) × (k ≡ l.place)) l.fn.self l.self;
}
