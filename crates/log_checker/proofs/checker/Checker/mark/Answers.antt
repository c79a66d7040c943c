use Rattle.std.proofs.Common.{rules}
use Rattle.log_checker.proofs.Answering.{marked}
use Rattle.log_checker.proofs.checker.Checker.mark.Goals as goal

pub returns-clause-goes_on : goal.returns-clause-goes_on
returns-clause-goes_on c = rw (← c.self.view_is) (marked _ c.args.line (search rules) (search rules))
