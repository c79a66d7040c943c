use Rattle.std.proofs.Common.{◌<◌, ℕ, List, All, length, subst, arith, flat_map}
use Rattle.std.proofs.lemmas.List.Elements.{All-weaker}
use Rattle.std.proofs.lemmas.Result.{on_ok_weaker}
use Rattle.lit_core.specs.declared.literals.Lit.{Lit}
use Rattle.ground_core.specs.Problems.{AreLitsOf, IsLitOf}
use Rattle.ground_core.specs.GateClauses.{gate_clauses, clauses_of}
use Rattle.ground_core.proofs.Whole.{clauses-within}
use Rattle.ground_core.proofs.Fronts.{All-front}
use Rattle.search_engine.specs.Knowledge.{Pushes}
use Rattle.search_engine.proofs.Pushed.{pushes-append}
use Rattle.search_engine.proofs.pushing.push_problem.Goals as goal

below : (n m : ℕ) → n < m → (c : List Lit) → AreLitsOf n c → All (λ (l : Lit). l.var.0 < m) c
below n m lt c h = All-weaker (IsLitOf n) (λ (l : Lit). l.var.0 < m) (λ l w. let le = w.1 in omega arith) c h

all-below : (n m : ℕ) → n < m → (cs : List (List Lit)) → All (AreLitsOf n) cs → All (All (λ (l : Lit). l.var.0 < m)) cs
all-below n m lt cs h = All-weaker (AreLitsOf n) (All (λ (l : Lit). l.var.0 < m)) (below n m lt) cs h

pub push_gates-requires-clause-in_range : goal.push_gates-requires-clause-in_range
push_gates-requires-clause-in_range c =
    let n : ℕ = c.args.more.now.vars in
    let all : All (AreLitsOf n) (clauses_of c.args.more.now) = clauses-within c.args.more.now c.gates.ensures.laws in
    let front : All (AreLitsOf n) (flat_map gate_clauses c.args.more.now.gates) =
    All-front (AreLitsOf n) (flat_map gate_clauses c.args.more.now.gates) c.args.more.now.clauses all in
    rw c.gates.ensures.value (all-below n (length c.args.store.now.trail.values) c.requires.in_range
    (flat_map gate_clauses c.args.more.now.gates) front)

pub returns-clause-ok : goal.returns-clause-ok
returns-clause-ok c =
    let first : Pushes c.args.store.now.clauses c.push_gates.new.store.clauses
    (flat_map gate_clauses c.args.more.now.gates) = subst (λ gs. Pushes c.args.store.now.clauses
    c.push_gates.new.store.clauses (flat_map gate_clauses gs)) c.gates.ensures.value
    c.in_ok-push_gates.ensures.ok in
    let whole = λ (h : Pushes c.push_gates.new.store.clauses c.push_clauses.new.store.clauses c.clauses.result.now).
    pushes-append c.args.store.now.clauses c.push_gates.new.store.clauses c.push_clauses.new.store.clauses
    (flat_map gate_clauses c.args.more.now.gates) c.args.more.now.clauses first
    (subst (Pushes c.push_gates.new.store.clauses c.push_clauses.new.store.clauses) c.clauses.ensures.value h) in
    on_ok_weaker c.push_clauses.result whole c.push_clauses.ensures.ok
