use Rattle.std.proofs.Common.{◌+◌, ◌≡◌}
use Rattle.ground_core.specs.Solving.{counted}
use Rattle.search_decisions.proofs.PhaseFacts.{CountedBelow}
use Rattle.search_decisions.proofs.phases.Phases.note_answer.Given as goal

-- the values so far were counted
abbrev pub invariant-loop-number : goal.invariant-loop-number
invariant-loop-number l = record {
  below : CountedBelow l.fn.self.seen.items l.values l.number l.self.seen.items;
  answers : l.self.answers ≡ counted (l.fn.self.answers + 1);
  choices : l.self.choices.items ≡ l.fn.self.choices.items;
  found : l.self.first ≡ l.fn.self.first;
}
