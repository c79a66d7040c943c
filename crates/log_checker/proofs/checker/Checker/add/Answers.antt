use Rattle.std.proofs.Common.{rules}
use Rattle.log_checker.specs.States.{state_view}
use Rattle.log_checker.proofs.Keeping.{kept-added}
use Rattle.log_checker.proofs.checker.Checker.add.Goals as goal

pub invariant_of-self : goal.invariant_of-self
invariant_of-self c = kept-added c.self.inside.problem (state_view c.self.inside.st) (state_view c.advance.new.st)
    c.args.entry c.advance.result c.self.invariant (search rules) c.advance.ensures.ok c.advance.ensures.err
