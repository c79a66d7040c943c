use Rattle.std.proofs.Common.{rules}
use Rattle.log_checker.proofs.Furthest.{sum-on, sum-off}
use Rattle.log_checker.proofs.sums.sum_fails.Goals as goal

pub returns-then-has : goal.returns-then-has
returns-then-has c =
    sum-on c.args.set.now c.args.inforce.now c.args.s.now c.is_less.result c.requires.marked c.requires.fine
    (search rules) (search rules)

pub returns-then-has-2 : goal.returns-then-has-2
returns-then-has-2 c =
    sum-off c.args.set.now c.args.inforce.now c.args.s.now c.is_less-then-has-2.result c.requires.marked c.requires.fine
    (search rules) (search rules)
