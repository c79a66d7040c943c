use Rattle.std.proofs.Common.{◌≡◌, drop}
use Rattle.found_models.specs.Found.{makes_all}
use Rattle.found_models.proofs.models.make_all.Given as goal

abbrev pub invariant-loop-lit : goal.invariant-loop-lit
invariant-loop-lit l = makes_all (drop l.lit-index l.lits) l.values ≡ makes_all l.lits l.values
