use Rattle.std.proofs.Common.{rules, refl}
use Rattle.log_checker.specs.States.{state_view}
use Rattle.log_checker.proofs.Passing.{unread, no-step}
use Rattle.log_checker.proofs.checking.take.Goals as goal

pub returns-in-Err-NotAnEntry-clause-takes : goal.returns-in-Err-NotAnEntry-clause-takes
returns-in-Err-NotAnEntry-clause-takes c = (
  unread c.args.p.now (state_view c.args.st.now) c.args.log.now c.args.at c.requires.inside (search rules),
  refl,
)

pub returns-then-not-branch-clause-takes : goal.returns-then-not-branch-clause-takes
returns-then-not-branch-clause-takes c = (
  no-step c.args.p.now (state_view c.args.st.now) c.args.log.now c.args.at c.requires.inside c.in-Ok.found.0
      c.in-Ok.found.1 (search rules) (search rules),
  refl,
)
