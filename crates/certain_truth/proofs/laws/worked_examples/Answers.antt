use Rattle.std.proofs.Common.{refl}
use Rattle.certain_truth.proofs.Worked.{extensions}
use Rattle.certain_truth.proofs.laws.worked_examples.Goals as goal

pub returns : goal.returns
returns c = (
  (refl, refl, refl, refl, refl, refl),
  (refl, refl, refl, refl, refl, refl, refl, refl, refl, refl, refl, refl),
  (refl, refl, refl, refl, refl, refl, refl, refl, refl, refl, refl),
  (refl, refl, refl, refl, refl, refl, refl, refl, refl, refl, refl),
  (refl, refl, refl, refl, refl, refl, refl, refl, refl, refl),
  (refl, refl, refl, refl),
  extensions,
  (refl, refl, refl, refl),
)
