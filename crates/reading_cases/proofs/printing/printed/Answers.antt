use Rattle.std.specs.String.{string_bytes}
use Rattle.reading_cases.proofs.Printed.{one_more, the_last}
use Rattle.reading_cases.proofs.printing.printed.Goals as goal

pub loop-len-preserved : goal.loop-len-preserved
loop-len-preserved c =
    rw (c.split_at-in-Some.ensures.back, c.split_at.ensures.back) (one_more c.args.cases.now c.loop-len.rest.now
    (string_bytes c.loop-len.lines) (string_bytes c.add_line.new.lines) c.loop-len.invariant c.in-Some.ensures
    (rw c.split_at.ensures.front at c.in_ok-add_line.ensures))

pub returns : goal.returns
returns c = the_last c.args.cases.now c.loop-len.rest.now (string_bytes c.loop-len.lines)
    (string_bytes c.add_line-2.new.lines) c.loop-len.invariant c.in_default.ensures c.in_ok-add_line-2.ensures
