use Rattle.log_checker.proofs.Falsity.{not-false, one-not-false}
use Rattle.log_checker.proofs.asking.is_false.Goals as goal

pub returns-in-One : goal.returns-in-One
returns-in-One c = λ ls h. not-false ls c.args.clause.now (λ k. one-not-false ls c.args.clause.now _
    (c.in-One.ensures ls h) k)

pub returns-in-Neither : goal.returns-in-Neither
returns-in-Neither c = λ ls h. not-false ls c.args.clause.now (λ k. (c.in-Neither.ensures ls h).0 k)
