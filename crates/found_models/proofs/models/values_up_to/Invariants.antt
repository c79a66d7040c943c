use Rattle.std.proofs.Common.{◌≡◌, take}
use Rattle.found_models.proofs.models.values_up_to.Given as goal

abbrev pub invariant-loop-var : goal.invariant-loop-var
invariant-loop-var l = l.some.items ≡ take l.var l.values
