use Rattle.log_checker.proofs.checker.Checker.false_clause.Goals as goal

pub returns : goal.returns
returns c = rw (← c.self.view_is) c.first_false.ensures
