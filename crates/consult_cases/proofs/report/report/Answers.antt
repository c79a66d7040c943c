use Rattle.consult_cases.proofs.Reports.{one_more, the_last}
use Rattle.consult_cases.proofs.report.report.Goals as goal

pub loop-text-preserved : goal.loop-text-preserved
loop-text-preserved c =
    one_more c.args.texts.now c.loop-text.rest.now c.in-Some.text.now c.in-Some.after.now c.loop-text.lines.items
    c.add_case.new.lines.items c.loop-text.invariant
    c.in-Some.ensures.cut c.in_ok-add_case.ensures

pub returns : goal.returns
returns c =
    the_last c.args.texts.now c.loop-text.rest.now c.loop-text.lines.items c.add_case-2.new.lines.items
    c.loop-text.invariant c.in_default.ensures.cut
    c.in_ok-add_case-2.ensures
