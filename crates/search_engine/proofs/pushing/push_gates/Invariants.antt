use Rattle.std.proofs.Common.{◌≡◌, take, flat_map}
use Rattle.clause_store.specs.StoreState.{IsStore}
use Rattle.ground_core.specs.GateClauses.{gate_clauses}
use Rattle.search_engine.specs.Knowledge.{Pushes}
use Rattle.search_engine.proofs.pushing.push_gates.Given as goal

-- the clauses of the gates so far are held
abbrev pub invariant-loop-gate : goal.invariant-loop-gate
invariant-loop-gate l = record {
  trail : l.store.trail ≡ l.fn.store.trail;
  pushed : Pushes l.fn.store.clauses l.store.clauses (flat_map gate_clauses (take l.gate-index l.gates));
  laws : IsStore l.store;
}
