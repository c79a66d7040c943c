use Rattle.log_checker.proofs.checker.Checker.failing_constraint.Goals as goal

pub returns : goal.returns
returns c = rw (← c.self.view_is) c.first_failing.ensures
