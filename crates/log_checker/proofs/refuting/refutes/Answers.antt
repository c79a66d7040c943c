use Rattle.std.proofs.Common.{rules, ◌≡◌, ◌+◌, ◌∷◌, [], ◌++◌, sym, subst, length, true, false}
use Rattle.log_checker.specs.Sets.{IsMarked}
use Rattle.log_checker.proofs.Turning.{put-marked}
use Rattle.log_checker.proofs.Hints.{at-unnamed, at-neither, at-false-last, at-false-only, at-unit, at-unit-back}
use Rattle.log_checker.proofs.refuting.refutes.Goals as goal

pub returns-in_default-clause-decides : goal.returns-in_default-clause-decides
returns-in_default-clause-decides c = (
  λ t. absurd (let x : false ≡ true = t in cc),
  λ r. absurd
      (at-unnamed c.args.clauses.now c.loop-i.inforce.items c.args.hints.now c.loop-i.i c.loop-i-test.true
      c.in_default.ensures (c.loop-i.invariant.1 r)),
)

pub returns-in-AllFalse-clause-decides : goal.returns-in-AllFalse-clause-decides
returns-in-AllFalse-clause-decides c = (
  λ t. c.loop-i.invariant.2
      (at-false-last c.args.clauses.now c.loop-i.inforce.items c.args.hints.now c.loop-i.i c.loop-i-test.true
      c.in-Some.clause.now c.in-Some.ensures (c.in-AllFalse.ensures c.loop-i.inforce.items c.loop-i.invariant.0)
      (search rules)),
  λ r. let e : c.loop-i.i + 1 ≡ length c.args.hints.now =
      at-false-only c.args.clauses.now c.loop-i.inforce.items c.args.hints.now c.loop-i.i c.loop-i-test.true
      c.in-Some.clause.now c.in-Some.ensures (c.in-AllFalse.ensures c.loop-i.inforce.items c.loop-i.invariant.0)
      (c.loop-i.invariant.1 r) in search (rules, e),
)

pub returns-in-Neither-clause-decides : goal.returns-in-Neither-clause-decides
returns-in-Neither-clause-decides c = (
  λ t. absurd (let x : false ≡ true = t in cc),
  λ r. absurd
      (at-neither c.args.clauses.now c.loop-i.inforce.items c.args.hints.now c.loop-i.i c.loop-i-test.true
      c.in-Some.clause.now c.in-Some.ensures (c.in-Neither.ensures c.loop-i.inforce.items c.loop-i.invariant.0)
      (c.loop-i.invariant.1 r)),
)

pub loop-i-preserved : goal.loop-i-preserved
loop-i-preserved c =
    let unit = c.in-One.ensures c.loop-i.inforce.items c.loop-i.invariant.0 in
    let items : c.push.new.self.items ≡ c.loop-i.inforce.items ++ c.in-One.lit ∷ [] = search rules in (
      subst (IsMarked c.mark.new.self) (sym items)
          (put-marked c.loop-i.set c.mark.new.self c.in-One.lit c.loop-i.inforce.items
          (search rules) c.loop-i.invariant.0),
      λ r. rw (items)
          (at-unit c.args.clauses.now c.loop-i.inforce.items c.args.hints.now c.loop-i.i c.loop-i-test.true
          c.in-Some.clause.now c.in-Some.ensures c.in-One.lit unit (c.loop-i.invariant.1 r)),
      λ r. c.loop-i.invariant.2
          (at-unit-back c.args.clauses.now c.loop-i.inforce.items c.args.hints.now c.loop-i.i c.loop-i-test.true
          c.in-Some.clause.now c.in-Some.ensures c.in-One.lit unit (rw (items) at r)),
    )
