use Rattle.fo_printer.specs.Gathering.{HasGathered}
use Rattle.fo_printer.proofs.gathering.gather.Given as goal

abbrev pub invariant-loop-args : goal.invariant-loop-args
invariant-loop-args l = HasGathered l.s (l.number, l.symbol) l.yielded l.initial.text l.text
