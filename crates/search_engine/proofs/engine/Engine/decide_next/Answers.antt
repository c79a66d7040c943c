use Rattle.std.proofs.Common.{◌≡◌, ℕ, ◌+◌, ◌^◌, ◌<◌, ◌≤◌, None, length, refl, ap, ◌∙◌, inr, arith}
use Rattle.lit_core.specs.declared.literals.Lit.{Lit}
use Rattle.lit_core.specs.Literals.{value_in}
use Rattle.clause_store.specs.StoreState.{StoreState}
use Rattle.ground_core.specs.Problems.{IsLitOf}
use Rattle.search_decisions.specs.declared.decider.Decider.{Decider}
use Rattle.search_engine.specs.declared.engine.Engine.{Engine}
use Rattle.search_engine.proofs.DecideFacts.{SameBut, decide-goes, decide-search, decide-turn}
use Rattle.search_engine.proofs.engine.Engine.decide_next.Goals as goal

abbrev with_choice : Engine → StoreState → Decider → Engine
with_choice e s decider = record {
  alloc = e.alloc;
  problem = e.problem;
  store = s;
  learnt = e.learnt;
  ids = e.ids;
  passing = e.passing;
  moments = e.moments;
  decider = decider;
  ledger = e.ledger;
  log = e.log;
  searches = e.searches;
  known = e.known;
  conflicts = e.conflicts;
  root_conflicts = e.root_conflicts;
  assumed = e.assumed;
  closed = e.closed;
  base = e.base;
}

same-but : (e : Engine) (s : StoreState) (decider : Decider) → SameBut e (with_choice e s decider)
same-but e s decider = record {
  problem = refl;
  learnt = refl;
  ids = refl;
  passing = refl;
  moments = refl;
  known = refl;
  searches =
      refl;
  conflicts = refl;
  root_conflicts = refl;
  assumed = refl;
  closed = refl;
  base = refl;
}

-- what is decided is one of the problem's variables
decided-within : (vars end : ℕ) (l : Lit) → 1 ≤ l.var.0 → l.var.0 < end + 1 → end ≡ vars → IsLitOf vars l
decided-within vars end l low high same = (low, omega (arith, high, same))

pub overflow_add-end : goal.overflow_add-end
overflow_add-end g c =
    let sized : c.args.self.now.problem.vars < length c.args.self.now.store.trail.values =
    c.requires.search.engine.sized in
    let vars : c.vars-end.result ≡ c.args.self.now.problem.vars = c.vars-end.ensures.value in
    let len : c.len-count.result ≡ length c.args.self.now.store.trail.values = c.len-count.ensures
    ∙ ap length c.assignment.ensures.value in
    let small : c.len-count.result < 2 ^ 64 = c.len-count.type_inv in
    omega (arith, sized, vars, len, small)

pub returns-in-Ok-Some-clause-search : goal.returns-in-Ok-Some-clause-search
returns-in-Ok-Some-clause-search g c =
    let old : Engine = c.args.self.now in
    let l : Lit = c.in-Ok-Some.lit in
    let w : (1 ≤ l.var.0) × (l.var.0 < c.vars-end.result + 1) × (value_in old.store.trail.values l ≡ None) =
    rw c.in-Ok-Some.field-0-is at c.in-Ok-Some.ensures.found in
    decide-search old (with_choice old c.assign.new.self c.next_decision.new.self)
    (same-but old c.assign.new.self c.next_decision.new.self) c.requires.search
    (record { lit = c.in-Ok-Some.lit; level = old.store.trail.level + 1; reason = None }) c.assign.ensures.step
    c.assign.ensures.laws (decided-within old.problem.vars c.vars-end.result c.in-Ok-Some.lit w.0 w.1
    c.vars-end.ensures.value) refl (omega arith)

pub returns-in-Ok-Some-clause-turn : goal.returns-in-Ok-Some-clause-turn
returns-in-Ok-Some-clause-turn g c =
    let old : Engine = c.args.self.now in
    let l : Lit = c.in-Ok-Some.lit in
    let w : (1 ≤ l.var.0) × (l.var.0 < c.vars-end.result + 1) × (value_in old.store.trail.values l ≡ None) =
    rw c.in-Ok-Some.field-0-is at c.in-Ok-Some.ensures.found in
    decide-turn old (with_choice old c.assign.new.self c.next_decision.new.self)
    (same-but old c.assign.new.self c.next_decision.new.self) c.requires.search
    (record { lit = c.in-Ok-Some.lit; level = old.store.trail.level + 1; reason = None }) c.assign.ensures.step
    c.assign.ensures.laws (decided-within old.problem.vars c.vars-end.result c.in-Ok-Some.lit w.0 w.1
    c.vars-end.ensures.value) refl (omega arith) c.args.assume.now c.requires.turn (inr c.requires.trues)

pub returns-in-Ok-Some-clause-answer : goal.returns-in-Ok-Some-clause-answer
returns-in-Ok-Some-clause-answer g c =
    let old : Engine = c.args.self.now in
    let l : Lit = c.in-Ok-Some.lit in
    let w : (1 ≤ l.var.0) × (l.var.0 < c.vars-end.result + 1) × (value_in old.store.trail.values l ≡ None) =
    rw c.in-Ok-Some.field-0-is at c.in-Ok-Some.ensures.found in (
      c.requires.unrefuted,
      λ goal-of a. decide-goes old (with_choice old c.assign.new.self c.next_decision.new.self)
          (same-but old c.assign.new.self c.next_decision.new.self) c.requires.search
          (record { lit = c.in-Ok-Some.lit; level = old.store.trail.level + 1; reason = None }) c.assign.ensures.step
          c.assign.ensures.laws (decided-within old.problem.vars c.vars-end.result c.in-Ok-Some.lit w.0 w.1
          c.vars-end.ensures.value) refl (omega arith) goal-of a,
    )
