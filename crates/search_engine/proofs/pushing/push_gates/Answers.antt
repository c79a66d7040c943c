use Rattle.std.proofs.Common.{◌<◌, List, All, length, take, sym, ◌∙◌, subst, rules, flat_map, get_or}
use Rattle.lit_core.specs.declared.literals.Lit.{Lit}
use Rattle.clause_store.specs.TrailState.{TrailState}
use Rattle.ground_core.specs.declared.parts.Gate.{Gate}
use Rattle.ground_core.specs.GateClauses.{gate_clauses}
use Rattle.search_engine.specs.Knowledge.{Pushes}
use Rattle.search_engine.proofs.Pushed.{pushes-append, flat-next, gate-among}
use Rattle.search_engine.proofs.pushing.push_gates.Goals as goal

pub push_clauses-requires-clause-in_range : goal.push_clauses-requires-clause-in_range
push_clauses-requires-clause-in_range c =
    let lt : c.loop-gate.gate-index < length c.args.gates.now = search rules in
    let P : List Lit → Type 0 = All (λ (l : Lit). l.var.0 < length c.args.store.now.trail.values) in
    let at : All P (gate_clauses (get_or c.args.gates.now c.loop-gate.gate-index c.gate-item.result)) =
    gate-among P c.args.gates.now c.loop-gate.gate-index c.gate-item.result lt c.requires.in_range in
    let here : All P (gate_clauses c.gate-item.result) = subst (λ (g : Gate). All P (gate_clauses g))
    (sym c.gate-item.is) at in
    let made : All P c.in_ok-clauses.clauses = subst (All P) (sym c.in_ok-clauses.ensures) here in
    subst (λ (t : TrailState). All (All (λ (l : Lit). l.var.0 < length t.values)) c.in_ok-clauses.clauses)
    (sym c.loop-gate.invariant.trail) made

pub loop-gate-preserved : goal.loop-gate-preserved
loop-gate-preserved c =
    let lt : c.loop-gate.gate-index < length c.args.gates.now = search rules in
    let next = flat-next c.args.gates.now c.loop-gate.gate-index c.gate-item.result lt c.gate-item.is in
    let pushed : Pushes c.loop-gate.store.clauses c.push_clauses.new.store.clauses (gate_clauses c.gate-item.result) =
    subst (Pushes c.loop-gate.store.clauses c.push_clauses.new.store.clauses) c.in_ok-clauses.ensures
    c.in_ok-push_clauses.ensures.ok in
    record {
      trail = c.push_clauses.ensures.trail ∙ c.loop-gate.invariant.trail;
      pushed = rw next (pushes-append c.args.store.now.clauses c.loop-gate.store.clauses
          c.push_clauses.new.store.clauses (flat_map gate_clauses (take c.loop-gate.gate-index c.args.gates.now))
          (gate_clauses c.gate-item.result) c.loop-gate.invariant.pushed pushed);
      laws = c.push_clauses.ensures.laws;
    }
