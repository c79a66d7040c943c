use Rattle.std.proofs.Common.{◌≡◌, ℕ, ◌++◌, ◌<◌, List, Option, length, refl, sym, subst, arith}
use Rattle.lit_core.specs.declared.literals.Lit.{Lit}
use Rattle.ground_core.specs.Problems.{ProblemState, AreLitsOf}
use Rattle.ground_core.specs.Solving.{AreUnretired}
use Rattle.ground_core.proofs.CallFacts.{stays-twice, keeps-twice}
use Rattle.support_explainer.specs.Reasons.{IsToldAt}
use Rattle.support_explainer.proofs.DeletionFacts.{so-far-begins, so-far-lits, so-far-unretired, so-far-budget}
use Rattle.support_explainer.proofs.DeletionFacts.{so-far-ends, so-far-most, turn-most, turn-needed, turn-fewer}
use Rattle.support_explainer.proofs.DeletionFacts.{falls-needed, falls-fewer}
use Rattle.support_explainer.proofs.deletion.irreducible.Goals as goal

lt : (at n m : ℕ) → at < n → n ≡ m → at < m
lt at n m h e = omega (arith, h, e)

pub loop-at-init : goal.loop-at-init
loop-at-init g c = (
  so-far-begins c.args.first c.args.last.now (g.S.Solve.state c.args.s.now) c.args.budget.now c.requires.budget
      c.requires.kept c.requires.refuted,
  g.met.S.Solve.goes_on_itself c.args.s.now,
  refl,
)

pub without_spare-requires-clause-literals : goal.without_spare-requires-clause-literals
without_spare-requires-clause-literals g c =
    subst (λ (l : List Lit). AreLitsOf (g.S.Solve.state c.loop-at.s).problem.vars (l ++ c.args.last.now))
    (sym c.as_slice.ensures)
    (subst (λ (p : ProblemState). AreLitsOf p.vars (c.loop-at.items ++ c.args.last.now))
    (sym c.loop-at.invariant.0.stays.problem)
    (so-far-lits c.args.first c.args.last.now c.loop-at.items c.loop-at.at (g.S.Solve.state c.args.s.now)
    (g.S.Solve.state c.loop-at.s) c.args.budget.now c.loop-at.budget c.loop-at.invariant.0 c.requires.literals))

pub without_spare-requires-clause-unretired : goal.without_spare-requires-clause-unretired
without_spare-requires-clause-unretired g c =
    subst (λ (l : List Lit). AreUnretired (g.S.Solve.state c.loop-at.s).problem (l ++ c.args.last.now))
    (sym c.as_slice.ensures)
    (subst (λ (p : ProblemState). AreUnretired p (c.loop-at.items ++ c.args.last.now))
    (sym c.loop-at.invariant.0.stays.problem)
    (so-far-unretired c.args.first c.args.last.now c.loop-at.items c.loop-at.at (g.S.Solve.state c.args.s.now)
    (g.S.Solve.state c.loop-at.s) c.args.budget.now c.loop-at.budget c.loop-at.invariant.0 c.requires.unretired))

pub without_spare-requires-clause-budget : goal.without_spare-requires-clause-budget
without_spare-requires-clause-budget g c = so-far-budget c.args.first c.args.last.now c.loop-at.items c.loop-at.at
    (g.S.Solve.state c.args.s.now) (g.S.Solve.state c.loop-at.s) c.args.budget.now c.loop-at.budget
    c.loop-at.invariant.0 c.requires.budget

pub loop-at-smaller : goal.loop-at-smaller
loop-at-smaller g c = falls-needed c.loop-at.items c.loop-at.at
    (lt c.loop-at.at c.len.result (length c.loop-at.items) c.loop-at-test.true c.len.ensures)

pub loop-at-preserved : goal.loop-at-preserved
loop-at-preserved g c =
    let told = subst (λ (l : List Lit). IsToldAt (g.S.Solve.state c.loop-at.s).problem l c.args.last.now c.loop-at.at
    (g.S.Solve.state c.without_spare.new.s).cores c.in-Ok-None.field-0) c.as_slice.ensures
    c.in-Ok-None.ensures.tells in
    let needed = subst (λ (o : Option (List Lit)). IsToldAt (g.S.Solve.state c.loop-at.s).problem c.loop-at.items
    c.args.last.now c.loop-at.at (g.S.Solve.state c.without_spare.new.s).cores o) c.in-Ok-None.field-0-is told in (
      turn-needed c.args.first c.args.last.now c.loop-at.items c.loop-at.at (g.S.Solve.state c.args.s.now)
          (g.S.Solve.state c.loop-at.s) c.args.budget.now c.loop-at.budget c.loop-at.invariant.0
          (lt c.loop-at.at c.len.result (length c.loop-at.items) c.loop-at-test.true c.len.ensures)
          (g.S.Solve.state c.without_spare.new.s) c.without_spare.new.budget c.without_spare.ensures.stays
          c.without_spare.ensures.keeps c.without_spare.ensures.counts c.without_spare.ensures.kept needed,
      g.met.S.Solve.goes_on_twice c.args.s.now c.loop-at.s c.without_spare.new.s c.loop-at.invariant.1
          c.without_spare.ensures.later,
      refl,
    )

pub loop-at-smaller-in-Ok-Some : goal.loop-at-smaller-in-Ok-Some
loop-at-smaller-in-Ok-Some g c =
    let told = subst (λ (l : List Lit). IsToldAt (g.S.Solve.state c.loop-at.s).problem l c.args.last.now c.loop-at.at
    (g.S.Solve.state c.without_spare.new.s).cores c.in-Ok-Some.field-0) c.as_slice.ensures
    c.in-Ok-Some.ensures.tells in
    let fewer = subst (λ (o : Option (List Lit)). IsToldAt (g.S.Solve.state c.loop-at.s).problem c.loop-at.items
    c.args.last.now c.loop-at.at (g.S.Solve.state c.without_spare.new.s).cores o) c.in-Ok-Some.field-0-is told in
    falls-fewer c.loop-at.items c.in-Ok-Some.fewer c.loop-at.at
    (lt c.loop-at.at c.len.result (length c.loop-at.items) c.loop-at-test.true c.len.ensures) fewer.0

pub loop-at-preserved-in-Ok-Some : goal.loop-at-preserved-in-Ok-Some
loop-at-preserved-in-Ok-Some g c =
    let told = subst (λ (l : List Lit). IsToldAt (g.S.Solve.state c.loop-at.s).problem l c.args.last.now c.loop-at.at
    (g.S.Solve.state c.without_spare.new.s).cores c.in-Ok-Some.field-0) c.as_slice.ensures
    c.in-Ok-Some.ensures.tells in
    let fewer = subst (λ (o : Option (List Lit)). IsToldAt (g.S.Solve.state c.loop-at.s).problem c.loop-at.items
    c.args.last.now c.loop-at.at (g.S.Solve.state c.without_spare.new.s).cores o) c.in-Ok-Some.field-0-is told in (
      turn-fewer c.args.first c.args.last.now c.loop-at.items c.loop-at.at (g.S.Solve.state c.args.s.now)
          (g.S.Solve.state c.loop-at.s) c.args.budget.now c.loop-at.budget c.loop-at.invariant.0
          (lt c.loop-at.at c.len.result (length c.loop-at.items) c.loop-at-test.true c.len.ensures)
          (g.S.Solve.state c.without_spare.new.s) c.without_spare.new.budget c.without_spare.ensures.stays
          c.without_spare.ensures.keeps c.without_spare.ensures.counts c.without_spare.ensures.kept c.in-Ok-Some.fewer
          fewer.0 fewer.1,
      g.met.S.Solve.goes_on_twice c.args.s.now c.loop-at.s c.without_spare.new.s c.loop-at.invariant.1
          c.without_spare.ensures.later,
      refl,
    )

pub returns-in-Err-clause-counts : goal.returns-in-Err-clause-counts
returns-in-Err-clause-counts g c = turn-most c.args.first c.args.last.now c.loop-at.items c.loop-at.at
    (g.S.Solve.state c.args.s.now) (g.S.Solve.state c.loop-at.s) c.args.budget.now c.loop-at.budget
    c.loop-at.invariant.0 (lt c.loop-at.at c.len.result (length c.loop-at.items) c.loop-at-test.true c.len.ensures)
    (g.S.Solve.state c.without_spare.new.s) c.without_spare.new.budget c.without_spare.ensures.stays
    c.without_spare.ensures.keeps c.without_spare.ensures.counts c.without_spare.ensures.kept

pub returns-in-Err-clause-stays : goal.returns-in-Err-clause-stays
returns-in-Err-clause-stays g c = stays-twice (g.S.Solve.state c.args.s.now) (g.S.Solve.state c.loop-at.s)
    (g.S.Solve.state c.without_spare.new.s) c.loop-at.invariant.0.stays c.without_spare.ensures.stays

pub returns-in-Err-clause-keeps : goal.returns-in-Err-clause-keeps
returns-in-Err-clause-keeps g c = keeps-twice (g.S.Solve.state c.args.s.now) (g.S.Solve.state c.loop-at.s)
    (g.S.Solve.state c.without_spare.new.s) c.args.budget.now c.loop-at.budget c.without_spare.new.budget
    c.loop-at.invariant.0.keeps c.without_spare.ensures.keeps

pub returns-clause-irreducible : goal.returns-clause-irreducible
returns-clause-irreducible g c = so-far-ends c.args.first c.args.last.now c.loop-at.items c.loop-at.at
    (g.S.Solve.state c.args.s.now) (g.S.Solve.state c.loop-at.s) c.args.budget.now c.loop-at.budget
    c.loop-at.invariant.0 (omega (arith, c.loop-at-test.false, c.len.ensures))

pub returns-clause-counts : goal.returns-clause-counts
returns-clause-counts g c = so-far-most c.args.first c.args.last.now c.loop-at.items c.loop-at.at
    (g.S.Solve.state c.args.s.now) (g.S.Solve.state c.loop-at.s) c.args.budget.now c.loop-at.budget
    c.loop-at.invariant.0
