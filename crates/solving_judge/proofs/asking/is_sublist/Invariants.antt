use Rattle.std.proofs.Common.{◌↔◌, drop}
use Rattle.ground_core.specs.Solving.{IsSublist}
use Rattle.solving_judge.proofs.asking.is_sublist.Given as goal

-- the rest stands among what is to come where all stand among all
abbrev pub invariant-loop-other : goal.invariant-loop-other
invariant-loop-other l = IsSublist l.rest (drop l.other-index l.fn.others) ↔ IsSublist l.fn.lits l.fn.others
