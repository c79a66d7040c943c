use Rattle.std.proofs.Common.{rules}
use Rattle.log_checker.proofs.Furthest.{bound-on}
use Rattle.log_checker.proofs.sums.bound_fails.Goals as goal

pub returns : goal.returns
returns c =
    bound-on c.args.set.now c.args.inforce.now c.args.b c.args.t.now c.is_less.result c.requires.marked c.requires.fine
    (search rules) (search rules)
