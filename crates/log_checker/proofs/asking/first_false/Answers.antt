use Rattle.std.proofs.Common.{rules}
use Rattle.log_checker.specs.Cases.{IsFalseAt}
use Rattle.log_checker.proofs.Falsity.{none-more, none-false}
use Rattle.log_checker.proofs.asking.first_false.Goals as goal

pub returns-then-is_false_at : goal.returns-then-is_false_at
returns-then-is_false_at c = λ ls h. (c.is_false_at.ensures ls h).0 (search rules)

pub loop-place-preserved : goal.loop-place-preserved
loop-place-preserved c = λ ls h. none-more (IsFalseAt c.args.clauses.now ls) c.loop-place.place
    (λ k. let x = (c.is_false_at.ensures ls h).1 k in absurd (search (rules, x))) (c.loop-place.invariant ls h)

pub returns : goal.returns
returns c = λ ls h. none-false c.args.clauses.now ls c.loop-place.place (search rules) (c.loop-place.invariant ls h)
