use Rattle.std.proofs.Common.{rules, [], sym}
use Rattle.log_checker.specs.States.{state_view}
use Rattle.log_checker.proofs.Answering.{stayed}
use Rattle.log_checker.proofs.Restoring.{restored}
use Rattle.log_checker.proofs.checker.follow.Goals as goal

pub returns-clause-answers : goal.returns-clause-answers
returns-clause-answers c = rw (c.cut_back.ensures, c.ends_of-ends.ensures)
    (stayed c.args.p.now (state_view c.args.st.now) c.args.statement.now c.in_ok-reached.reached.at
    (state_view c.go_through.new.st) c.in_ok-reached.reached.number c.args.line c.in_ok-reached.ensures.comes
    (search rules))

pub returns-clause-reaches : goal.returns-clause-reaches
returns-clause-reaches c = rw (c.cut_back.ensures, c.ends_of-ends.ensures)
    (let s = c.in_ok-reached.ensures.comes.stands in
    ([], tt, sym (restored (state_view c.args.st.now) (state_view c.go_through.new.st) s.entries s.state)))
