use Rattle.std.proofs.Common.{◌≡◌, take}
use Rattle.found_models.specs.Found.{those_under}
use Rattle.found_models.proofs.models.FoundModels.all_under.Given as goal

abbrev pub invariant-loop-values : goal.invariant-loop-values
invariant-loop-values l = l.some.items ≡ those_under l.lits (take l.values-index l.self.models)
