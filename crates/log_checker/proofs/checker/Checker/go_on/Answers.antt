use Rattle.log_checker.specs.States.{state_view}
use Rattle.log_checker.proofs.Keeping.{kept-reached}
use Rattle.log_checker.proofs.checker.Checker.go_on.Goals as goal

pub returns-clause-answers : goal.returns-clause-answers
returns-clause-answers c = rw (← c.self.view_is) c.follow.ensures.answers

pub invariant_of-self : goal.invariant_of-self
invariant_of-self c = kept-reached c.self.inside.problem (state_view c.self.inside.st) (state_view c.follow.new.st)
    c.self.invariant c.follow.ensures.reaches
