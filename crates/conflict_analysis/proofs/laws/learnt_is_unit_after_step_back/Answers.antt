use Rattle.conflict_analysis.proofs.UnitBack.{unit-after-step-back}
use Rattle.conflict_analysis.proofs.laws.learnt_is_unit_after_step_back.Goals as goal

pub returns : goal.returns
returns c = λ s t level d trail new h cut. unit-after-step-back s t level d trail new h cut
