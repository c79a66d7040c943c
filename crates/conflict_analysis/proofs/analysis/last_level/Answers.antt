use Rattle.std.proofs.Common.{refl, inr}
use Rattle.conflict_analysis.proofs.analysis.last_level.Goals as goal

pub step-requires : goal.step-requires
step-requires c = c.requires c.in-Some.place c.in-Some.ensures.some.has

pub returns-in-Some : goal.returns-in-Some
returns-in-Some c =
    let last = c.in-Some.ensures.some in
    inr (c.in-Some.place, c.step.result, last.has, c.step.ensures.step, refl, last.most)
