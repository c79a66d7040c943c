use Rattle.std.proofs.Common.{rules}
use Rattle.log_checker.proofs.Falsity.{false-here, false-nowhere}
use Rattle.log_checker.proofs.asking.is_false_at.Goals as goal

pub returns-in-Some : goal.returns-in-Some
returns-in-Some c = λ ls h. false-here c.args.clauses.now ls c.args.place c.in-Some.clause.now _ c.in-Some.ensures
    (c.is_false.ensures ls h)

pub returns-in-None : goal.returns-in-None
returns-in-None c = λ ls h. false-nowhere c.args.clauses.now ls c.args.place (search rules)
