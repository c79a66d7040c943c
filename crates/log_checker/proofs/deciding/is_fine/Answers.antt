use Rattle.std.proofs.Common.{rules}
use Rattle.log_checker.proofs.Turning.{fine}
use Rattle.log_checker.proofs.deciding.is_fine.Goals as goal

pub returns-clause-decides : goal.returns-clause-decides
returns-clause-decides c = fine c.args.vars c.args.lits.now c.in_ok-has_opposites.field-0
    (search rules) c.in_ok-has_opposites.ensures.decides
