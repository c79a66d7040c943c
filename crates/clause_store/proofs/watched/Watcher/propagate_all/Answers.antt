use Rattle.std.proofs.Common.{arith}
use Rattle.std.proofs.lemmas.Grind.{common_steps}
use Rattle.std.proofs.lemmas.Grind.{elements}
use Rattle.std.proofs.Common.{◌≡◌, ℕ, ◌≤◌, length, ap, sym, ◌∙◌, subst}
use Rattle.std.proofs.lemmas.List.{length-map}
use Rattle.clause_base.specs.declared.trail.Step.{Step}
use Rattle.clause_store.specs.declared.watched.Watcher.{Watcher}
use Rattle.clause_store.specs.Watching.{store_of}
use Rattle.clause_base.proofs.PropagateFacts.{propagates-trans}
use Rattle.clause_store.proofs.QuietFacts.{watcher-quiet}
use Rattle.clause_store.proofs.watched.Watcher.propagate_all.Goals as goal

pub returns-in-Some-clause-same : goal.returns-in-Some-clause-same
returns-in-Some-clause-same c = propagates-trans (store_of c.args.self.now) (store_of c.loop-self.self)
    (store_of c.propagate_one.new.self) c.loop-self.invariant.same c.propagate_one.ensures.same

pub loop-self-preserved : goal.loop-self-preserved
loop-self-preserved c = record {
  watcher = c.propagate_one.ensures.watcher;
  same = propagates-trans (store_of c.args.self.now) (store_of c.loop-self.self) (store_of c.propagate_one.new.self)
      c.loop-self.invariant.same c.propagate_one.ensures.same;
  checked = c.in_default.ensures.one.1 ∙ c.loop-self.invariant.checked
      ∙ sym (ap length c.propagate_one.ensures.same.clauses);
}

pub returns-clause-quiet : goal.returns-clause-quiet
returns-clause-quiet c =
    let e : Watcher = c.loop-self.self in
    let len : length c.lits.result.now ≡ length e.trail.steps = ap length c.lits.ensures
    ∙ length-map e.trail.steps (λ (t : Step). t.lit) in
    let done : length e.trail.steps ≤ e.queue = subst (λ (n : ℕ). n ≤ e.queue) len c.loop-self-test.false in
    watcher-quiet e c.loop-self.invariant.watcher done c.loop-self.invariant.checked

pub propagate_one-requires-clause-more : goal.propagate_one-requires-clause-more
propagate_one-requires-clause-more c = grind (arith, common_steps)

pub loop-self-smaller : goal.loop-self-smaller
loop-self-smaller c = grind (arith, common_steps)

pub loop-self-init : goal.loop-self-init
loop-self-init c = grind (arith, elements)
