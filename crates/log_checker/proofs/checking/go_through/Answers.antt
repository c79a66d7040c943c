use Rattle.std.proofs.Common.{rules}
use Rattle.log_checker.specs.States.{state_view}
use Rattle.log_checker.proofs.Passing.{stands-more}
use Rattle.log_checker.proofs.checking.go_through.Goals as goal

pub loop-at-preserved : goal.loop-at-preserved
loop-at-preserved c = (
  stands-more c.args.p.now (state_view c.args.st.now) c.args.log.now c.loop-at.at c.in-Some.next
      (state_view c.loop-at.st) (state_view c.take.new.st) c.loop-at.number c.loop-at.invariant.0 (search rules),
  search rules,
)
