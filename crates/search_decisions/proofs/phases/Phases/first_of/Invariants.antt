use Rattle.std.proofs.Common.{◌≡◌, ◌≤◌, ◌⊎◌, All, Any, take}
use Rattle.search_decisions.specs.Phases.{IsOpen, times_seen}
use Rattle.search_decisions.proofs.phases.Phases.first_of.Given as goal

-- no open variable so far was seen in fewer answers
abbrev pub invariant-loop-lit : goal.invariant-loop-lit
invariant-loop-lit l = record {
  among : (l.first ≡ l.fn.var) ⊎ Any (λ m. m.var.0 ≡ l.first.0) l.clause;
  least : All (λ m. IsOpen l.assignment m.var.0 → times_seen l.self l.first.0 ≤ times_seen l.self m.var.0)
      (take l.lit-index l.clause);
  open_or : (l.first ≡ l.fn.var) ⊎ IsOpen l.assignment l.first.0;
}
