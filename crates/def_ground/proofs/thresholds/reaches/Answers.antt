use Rattle.std.proofs.Common.{sym, subst}
use Rattle.ground_core.specs.Problems.{AreLitsOf, ArePartsOf}
use Rattle.def_ground.proofs.ThresholdExtremes.{below-within, from-within}
use Rattle.def_ground.proofs.thresholds.reaches.Goals as goal

pub gate-requires : goal.gate-requires
gate-requires c =
    let n = c.args.problem.now.vars in
    let parts = subst (ArePartsOf n) (sym c.as_slice.ensures) c.requires.parts in
    subst (AreLitsOf n) (sym c.in_ok-lits-in-Min.ensures) (below-within n _ c.as_slice.result.now parts)

pub gate-requires-in-Max : goal.gate-requires-in-Max
gate-requires-in-Max c =
    let n = c.args.problem.now.vars in
    let parts = subst (ArePartsOf n) (sym c.as_slice-in-Max.ensures) c.requires.parts in
    subst (AreLitsOf n) (sym c.in_ok-lits-in-Max.ensures) (from-within n _ c.as_slice-in-Max.result.now parts)
