use Rattle.std.proofs.Common.{rules}
use Rattle.log_checker.specs.States.{state_view}
use Rattle.log_checker.proofs.Passing.{accepted, truth}
use Rattle.log_checker.proofs.checking.verify.Goals as goal

pub returns-clause-truth : goal.returns-clause-truth
returns-clause-truth c = rw c.from_vec.ensures
    (truth c.args.p.now c.args.log.now _ (search rules)
    (accepted c.args.p.now (state_view c.in-Ok.st) c.args.log.now c.in-Ok-go_through.reached.at
    (state_view c.go_through.new.st) c.in-Ok-go_through.reached.number
    c.in-Ok.ensures (search rules) c.in-Ok-go_through.ensures.comes))
