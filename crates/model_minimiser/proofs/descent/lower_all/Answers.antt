use Rattle.std.proofs.Common.{subst, refl}
use Rattle.ground_core.specs.Solving.{SolveState}
use Rattle.model_minimiser.specs.declared.minimum.Step.{Step}
use Rattle.model_minimiser.specs.Minima.{FindsBelow}
use Rattle.model_minimiser.proofs.DescentFacts.{so-far-begins, turn-ends-bounds, turn-ends-counts, turn-next}
use Rattle.model_minimiser.proofs.DescentFacts.{turn-falls}
use Rattle.model_minimiser.proofs.DescentFacts.{least-here, so-far-most}
use Rattle.ground_core.proofs.AdditionFacts.{still-unretired}
use Rattle.ground_core.proofs.CallFacts.{keeps-twice}
use Rattle.model_minimiser.proofs.descent.lower_all.Goals as goal

pub loop-alloc-init : goal.loop-alloc-init
loop-alloc-init g c = (
  so-far-begins c.args.objective.now.assume.now c.args.objective.now.term (g.S.Solve.state c.args.s.now)
      c.args.budget.now c.args.first
      c.args.selectors.now.items c.requires.none c.requires.budget c.requires.kept c.requires.found,
  g.met.S.Solve.goes_on_itself c.args.s.now,
)

pub lower-requires-clause-unretired : goal.lower-requires-clause-unretired
lower-requires-clause-unretired g c = still-unretired (g.S.Solve.state c.args.s.now).problem
    (g.S.Solve.state c.loop-alloc.s).problem c.loop-alloc.invariant.0.past c.args.objective.now.assume.now
    c.requires.literals
    c.requires.unretired

pub loop-alloc-smaller : goal.loop-alloc-smaller
loop-alloc-smaller g c =
    let r : SolveState = g.S.Solve.state c.args.s.now in
    let s : SolveState = g.S.Solve.state c.loop-alloc.s in
    let t : SolveState = g.S.Solve.state c.lower.new.s in
    let finds = subst (λ (x : Step). FindsBelow s.problem c.args.objective.now.assume.now c.args.objective.now.term
    c.loop-alloc.best.value t.cores
    t.problem.bounds x) c.in-Ok-Lower.field-0-is c.in-Ok-Lower.ensures.finds in
    turn-falls c.args.objective.now.assume.now c.args.objective.now.term r s c.args.budget.now c.loop-alloc.budget
    c.loop-alloc.best
    c.loop-alloc.selectors.items
    c.loop-alloc.invariant.0 t c.lower.new.budget c.lower.new.selectors.items c.lower.ensures.adds c.lower.ensures.keeps
    c.lower.ensures.counts
    c.in-Ok-Lower.found c.requires.term c.requires.kept c.requires.literals finds

pub loop-alloc-preserved : goal.loop-alloc-preserved
loop-alloc-preserved g c =
    let r : SolveState = g.S.Solve.state c.args.s.now in
    let s : SolveState = g.S.Solve.state c.loop-alloc.s in
    let t : SolveState = g.S.Solve.state c.lower.new.s in
    let finds = subst (λ (x : Step). FindsBelow s.problem c.args.objective.now.assume.now c.args.objective.now.term
    c.loop-alloc.best.value t.cores
    t.problem.bounds x) c.in-Ok-Lower.field-0-is c.in-Ok-Lower.ensures.finds in (
      turn-next c.args.objective.now.assume.now c.args.objective.now.term r s c.args.budget.now c.loop-alloc.budget
          c.loop-alloc.best
          c.loop-alloc.selectors.items
          c.loop-alloc.invariant.0 t c.lower.new.budget c.lower.new.selectors.items c.lower.ensures.adds
          c.lower.ensures.keeps
          c.lower.ensures.counts c.in-Ok-Lower.found c.requires.literals finds c.lower.ensures.kept,
      g.met.S.Solve.goes_on_twice c.args.s.now c.loop-alloc.s c.lower.new.s c.loop-alloc.invariant.1
          c.lower.ensures.later,
    )

pub returns-in-Ok-Nothing-clause-least : goal.returns-in-Ok-Nothing-clause-least
returns-in-Ok-Nothing-clause-least g c =
    let r : SolveState = g.S.Solve.state c.args.s.now in
    let s : SolveState = g.S.Solve.state c.loop-alloc.s in
    let t : SolveState = g.S.Solve.state c.lower.new.s in
    let finds = subst (λ (x : Step). FindsBelow s.problem c.args.objective.now.assume.now c.args.objective.now.term
    c.loop-alloc.best.value t.cores
    t.problem.bounds x) c.in-Ok-Nothing.field-0-is c.in-Ok-Nothing.ensures.finds in
    least-here c.args.objective.now.assume.now c.args.objective.now.term r s c.args.budget.now c.loop-alloc.budget
    c.loop-alloc.best
    c.loop-alloc.selectors.items
    c.loop-alloc.invariant.0 t.cores t.problem.bounds c.in-Ok-Nothing.bound c.requires.kept.problem c.requires.literals
    (c.loop-alloc-test.ensures.other refl) finds

pub returns-in-Ok-Nothing-clause-bounds : goal.returns-in-Ok-Nothing-clause-bounds
returns-in-Ok-Nothing-clause-bounds g c =
    let r : SolveState = g.S.Solve.state c.args.s.now in
    let s : SolveState = g.S.Solve.state c.loop-alloc.s in
    let t : SolveState = g.S.Solve.state c.lower.new.s in
    turn-ends-bounds c.args.objective.now.assume.now c.args.objective.now.term r s c.args.budget.now c.loop-alloc.budget
    c.loop-alloc.best
    c.loop-alloc.selectors.items
    c.loop-alloc.invariant.0 t c.lower.new.budget c.lower.new.selectors.items c.lower.ensures.adds c.lower.ensures.keeps
    c.lower.ensures.counts

pub returns-in-Ok-Nothing-clause-counts : goal.returns-in-Ok-Nothing-clause-counts
returns-in-Ok-Nothing-clause-counts g c =
    let r : SolveState = g.S.Solve.state c.args.s.now in
    let s : SolveState = g.S.Solve.state c.loop-alloc.s in
    let t : SolveState = g.S.Solve.state c.lower.new.s in
    turn-ends-counts c.args.objective.now.assume.now c.args.objective.now.term r s c.args.budget.now c.loop-alloc.budget
    c.loop-alloc.best
    c.loop-alloc.selectors.items
    c.loop-alloc.invariant.0 t c.lower.new.budget c.lower.new.selectors.items c.lower.ensures.adds c.lower.ensures.keeps
    c.lower.ensures.counts
    (c.loop-alloc-test.ensures.other refl)

pub returns-in-Err-clause-bounds : goal.returns-in-Err-clause-bounds
returns-in-Err-clause-bounds g c =
    let r : SolveState = g.S.Solve.state c.args.s.now in
    let s : SolveState = g.S.Solve.state c.loop-alloc.s in
    let t : SolveState = g.S.Solve.state c.lower.new.s in
    turn-ends-bounds c.args.objective.now.assume.now c.args.objective.now.term r s c.args.budget.now c.loop-alloc.budget
    c.loop-alloc.best
    c.loop-alloc.selectors.items
    c.loop-alloc.invariant.0 t c.lower.new.budget c.lower.new.selectors.items c.lower.ensures.adds c.lower.ensures.keeps
    c.lower.ensures.counts

pub returns-in-Err-clause-counts : goal.returns-in-Err-clause-counts
returns-in-Err-clause-counts g c =
    let r : SolveState = g.S.Solve.state c.args.s.now in
    let s : SolveState = g.S.Solve.state c.loop-alloc.s in
    let t : SolveState = g.S.Solve.state c.lower.new.s in
    turn-ends-counts c.args.objective.now.assume.now c.args.objective.now.term r s c.args.budget.now c.loop-alloc.budget
    c.loop-alloc.best
    c.loop-alloc.selectors.items
    c.loop-alloc.invariant.0 t c.lower.new.budget c.lower.new.selectors.items c.lower.ensures.adds c.lower.ensures.keeps
    c.lower.ensures.counts
    (c.loop-alloc-test.ensures.other refl)

pub returns-clause-counts : goal.returns-clause-counts
returns-clause-counts g c =
    so-far-most c.args.objective.now.assume.now c.args.objective.now.term (g.S.Solve.state c.args.s.now)
    (g.S.Solve.state c.loop-alloc.s) c.args.budget.now c.loop-alloc.budget c.loop-alloc.best
    c.loop-alloc.selectors.items c.loop-alloc.invariant.0

pub returns-in-Ok-Nothing-clause-keeps : goal.returns-in-Ok-Nothing-clause-keeps
returns-in-Ok-Nothing-clause-keeps g c = keeps-twice (g.S.Solve.state c.args.s.now) (g.S.Solve.state c.loop-alloc.s)
    (g.S.Solve.state c.lower.new.s) c.args.budget.now c.loop-alloc.budget c.lower.new.budget
    c.loop-alloc.invariant.0.keeps c.lower.ensures.keeps

pub returns-in-Err-clause-keeps : goal.returns-in-Err-clause-keeps
returns-in-Err-clause-keeps g c = keeps-twice (g.S.Solve.state c.args.s.now) (g.S.Solve.state c.loop-alloc.s)
    (g.S.Solve.state c.lower.new.s) c.args.budget.now c.loop-alloc.budget c.lower.new.budget
    c.loop-alloc.invariant.0.keeps c.lower.ensures.keeps
