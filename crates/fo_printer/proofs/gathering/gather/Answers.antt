use Rattle.fo_printer.proofs.Gathered.{gathered_more}
use Rattle.fo_printer.proofs.gathering.gather.Goals as goal

pub loop-args-preserved : goal.loop-args-preserved
loop-args-preserved c =
    gathered_more c.args.s.now (c.args.number, c.args.symbol.now) c.loop-args.yielded c.in-Some.args _ c.loop-args.text
    c.note.new.self c.loop-args.invariant c.in_ok-note.ensures
