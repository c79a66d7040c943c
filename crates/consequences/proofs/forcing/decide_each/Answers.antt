use Rattle.std.proofs.Common.{◌++◌, ◌∷◌, [], length, get_or, refl, sym, subst, arith}
use Rattle.std.proofs.lemmas.List.Elements.{All-contains_itself}
use Rattle.lit_core.specs.Literals.{negated}
use Rattle.ground_core.specs.Problems.{ProblemState, AreLitsOf}
use Rattle.ground_core.specs.Solving.{AreUnretired}
use Rattle.ground_core.proofs.CallFacts.{stays-twice, keeps-none, keeps-twice, none-counted}
use Rattle.consequences.proofs.ForcingFacts.{so-far-begins, so-far-budget, so-far-long, so-far-most, all-decided}
use Rattle.consequences.proofs.ForcingFacts.{skipped, searched, searched-most, test-lits}
use Rattle.consequences.proofs.ForcingFacts.{test-unretired}
use Rattle.consequences.proofs.IndexFacts.{zero_lit}
use Rattle.consequences.proofs.forcing.decide_each.Goals.{then-leave_open+in-Ok-decide, else-leave_open}
use Rattle.consequences.proofs.forcing.decide_each.Goals as goal

pub returns-in_default-clause-keeps : goal.returns-in_default-clause-keeps
returns-in_default-clause-keeps g c = keeps-none (g.S.Solve.state c.args.s.now) c.args.budget.now c.requires.budget

pub returns-in_default-clause-counts : goal.returns-in_default-clause-counts
returns-in_default-clause-counts g c = λ vs among. none-counted (g.S.Solve.state c.args.s.now).free (length vs)
    (g.S.Solve.state c.args.s.now) c.args.budget.now c.requires.kept.counted

pub loop-lit-init : goal.loop-lit-init
loop-lit-init g c = (
  so-far-begins c.args.question.now.assume.now c.args.question.now.ask.now c.args.question.now.atoms
      c.args.question.now.seen.now c.args.first c.in-Ok.findings.kept c.in-Ok.findings.found
      (g.S.Solve.state c.args.s.now) c.args.budget.now c.in-Ok.ensures.kept c.in-Ok.ensures.found c.requires.budget
      c.requires.kept c.requires.first,
  c.in-Ok.ensures.hashed,
  g.met.S.Solve.goes_on_itself c.args.s.now,
)

pub leave_open-requires-clause-found : goal.leave_open-requires-clause-found
leave_open-requires-clause-found g c =
    so-far-long c.args.question.now.assume.now c.args.question.now.ask.now c.args.question.now.atoms
    c.args.question.now.seen.now c.loop-lit.lit-index zero_lit
    c.loop-lit.findings.kept c.loop-lit.findings.found (g.S.Solve.state c.args.s.now) (g.S.Solve.state c.loop-lit.s)
    c.args.budget.now
    c.loop-lit.budget c.loop-lit.invariant.0 (get_or c.args.question.now.ask.now c.loop-lit.lit-index zero_lit)
    (c.requires.asked c.loop-lit.lit-index zero_lit c.loop-lit-test.true)

pub leave_open-requires-clause-seen : goal.leave_open-requires-clause-seen
leave_open-requires-clause-seen g c = λ k d lt.
    let long = (c.requires.seen k d lt).atoms in
    let few = c.requires.atoms in
    omega (arith, long, few)

pub decide-requires-clause-literals : goal.decide-requires-clause-literals
decide-requires-clause-literals g c =
    subst (λ (p : ProblemState). AreLitsOf p.vars (c.args.question.now.assume.now ++ negated
    (get_or c.args.question.now.ask.now c.loop-lit.lit-index zero_lit) ∷ [])) (sym c.loop-lit.invariant.0.stays.problem)
    (test-lits (g.S.Solve.state c.args.s.now).problem c.args.question.now.assume.now
    (get_or c.args.question.now.ask.now c.loop-lit.lit-index zero_lit) c.requires.literals
    (c.requires.asked c.loop-lit.lit-index zero_lit c.loop-lit-test.true))

pub decide-requires-clause-unretired : goal.decide-requires-clause-unretired
decide-requires-clause-unretired g c =
    subst (λ (p : ProblemState). AreUnretired p (c.args.question.now.assume.now ++ negated
    (get_or c.args.question.now.ask.now c.loop-lit.lit-index zero_lit) ∷ [])) (sym c.loop-lit.invariant.0.stays.problem)
    (test-unretired (g.S.Solve.state c.args.s.now).problem c.args.question.now.assume.now
    (get_or c.args.question.now.ask.now c.loop-lit.lit-index zero_lit) c.args.question.now.ask.now c.requires.unretired
    c.requires.asked_unretired (All-contains_itself c.args.question.now.ask.now c.loop-lit.lit-index zero_lit
    c.loop-lit-test.true))

pub decide-requires-clause-budget : goal.decide-requires-clause-budget
decide-requires-clause-budget g c = so-far-budget c.args.question.now.assume.now c.args.question.now.ask.now
    c.args.question.now.atoms c.args.question.now.seen.now
    c.loop-lit.lit-index zero_lit c.loop-lit.findings.kept c.loop-lit.findings.found (g.S.Solve.state c.args.s.now)
    (g.S.Solve.state c.loop-lit.s) c.args.budget.now c.loop-lit.budget c.loop-lit.invariant.0 c.requires.budget

pub returns-in-Err-clause-stays : goal.returns-in-Err-clause-stays
returns-in-Err-clause-stays g c = stays-twice (g.S.Solve.state c.args.s.now) (g.S.Solve.state c.loop-lit.s)
    (g.S.Solve.state c.decide.new.s) c.loop-lit.invariant.0.stays c.decide.ensures.stays

pub returns-in-Err-clause-keeps : goal.returns-in-Err-clause-keeps
returns-in-Err-clause-keeps g c = keeps-twice (g.S.Solve.state c.args.s.now) (g.S.Solve.state c.loop-lit.s)
    (g.S.Solve.state c.decide.new.s) c.args.budget.now c.loop-lit.budget c.decide.new.budget
    c.loop-lit.invariant.0.keeps c.decide.ensures.keeps

pub returns-in-Err-clause-later : goal.returns-in-Err-clause-later
returns-in-Err-clause-later g c = g.met.S.Solve.goes_on_twice c.args.s.now c.loop-lit.s c.decide.new.s
    c.loop-lit.invariant.2 c.decide.ensures.later

pub returns-in-Err-clause-counts : goal.returns-in-Err-clause-counts
returns-in-Err-clause-counts g c =
    searched-most c.args.question.now.assume.now c.args.question.now.ask.now c.args.question.now.atoms
    c.args.question.now.seen.now c.loop-lit.lit-index zero_lit
    c.loop-lit.findings.kept c.loop-lit.findings.found (g.S.Solve.state c.args.s.now) (g.S.Solve.state c.loop-lit.s)
    c.args.budget.now c.loop-lit.budget c.loop-lit.invariant.0 c.loop-lit-test.true
    (c.if-leave_open.ensures.open refl) (g.S.Solve.state c.decide.new.s)
    c.decide.new.budget c.decide.ensures.keeps c.decide.ensures.counts

pub loop-lit-preserved : goal.loop-lit-preserved
loop-lit-preserved g c = (
  elim c.if-leave_open.branch [
    | then-leave_open+in-Ok-decide w ↦ rw (w.findings-is, w.s-is, w.budget-is)
        (searched c.args.question.now.assume.now c.args.question.now.ask.now c.args.question.now.atoms
        c.args.question.now.seen.now c.loop-lit.lit-index zero_lit
        c.loop-lit.findings.kept c.loop-lit.findings.found (g.S.Solve.state c.args.s.now) (g.S.Solve.state c.loop-lit.s)
        c.args.budget.now c.loop-lit.budget c.loop-lit.invariant.0 c.loop-lit-test.true
        (w.if-leave_open.ensures.open refl) (g.S.Solve.state w.decide.new.s)
        w.decide.new.budget w.decide.ensures.keeps w.decide.ensures.counts w.decide.ensures.stays
        w.decide.ensures.kept w.decide.new.findings.kept w.decide.new.findings.found w.in-Ok-decide.ensures.decides)
    | else-leave_open w ↦ rw (w.findings-is, w.s-is, w.budget-is)
        (skipped c.args.question.now.assume.now c.args.question.now.ask.now c.args.question.now.atoms
        c.args.question.now.seen.now c.loop-lit.lit-index zero_lit
        c.loop-lit.findings.kept c.loop-lit.findings.found (g.S.Solve.state c.args.s.now) (g.S.Solve.state c.loop-lit.s)
        c.args.budget.now c.loop-lit.budget c.loop-lit.invariant.0 c.loop-lit-test.true c.requires.atoms
        c.requires.seen c.requires.asked (w.if-leave_open.ensures.known refl))
  ],
  elim c.if-leave_open.branch [
    | then-leave_open+in-Ok-decide w ↦ rw w.findings-is w.in-Ok-decide.ensures.hashed
    | else-leave_open w ↦ rw w.findings-is c.loop-lit.invariant.1
  ],
  elim c.if-leave_open.branch [
    | then-leave_open+in-Ok-decide w ↦ rw w.s-is (g.met.S.Solve.goes_on_twice c.args.s.now c.loop-lit.s w.decide.new.s
        c.loop-lit.invariant.2 w.decide.ensures.later)
    | else-leave_open w ↦ rw w.s-is c.loop-lit.invariant.2
  ],
)

pub returns-clause-forces : goal.returns-clause-forces
returns-clause-forces g c = all-decided c.args.question.now.assume.now c.args.question.now.ask.now
    c.args.question.now.atoms c.args.question.now.seen.now
    c.loop-lit.lit-index zero_lit c.loop-lit.findings.kept c.loop-lit.findings.found (g.S.Solve.state c.args.s.now)
    (g.S.Solve.state c.loop-lit.s) c.args.budget.now c.loop-lit.budget c.loop-lit.invariant.0
    (omega (arith, c.loop-lit-test.false))

pub returns-clause-counts : goal.returns-clause-counts
returns-clause-counts g c = so-far-most c.args.question.now.assume.now c.args.question.now.ask.now
    c.args.question.now.atoms c.args.question.now.seen.now
    c.loop-lit.lit-index zero_lit c.loop-lit.findings.kept c.loop-lit.findings.found (g.S.Solve.state c.args.s.now)
    (g.S.Solve.state c.loop-lit.s) c.args.budget.now c.loop-lit.budget c.loop-lit.invariant.0
