use Rattle.std.proofs.Common.{◌≡◌, All, length}
use Rattle.ground_core.specs.Growing.{IsSelector}
use Rattle.ground_core.specs.Solving.{IsKept}
use Rattle.model_search.specs.Retirements.{AreNew, retired_all}
use Rattle.model_search.proofs.retiring.retire_each.Given as goal

abbrev pub invariant-loop-selector : goal.invariant-loop-selector
invariant-loop-selector g l =
    (retired_all (g.S.Solve.state l.s) l.rest ≡ retired_all (g.S.Solve.state l.fn.s) l.fn.selectors)
    × AreNew (g.S.Solve.state l.s).problem.retired l.rest
    × All (IsSelector (g.S.Solve.state l.s).problem) l.rest
    × IsKept (g.S.Solve.state l.s) × g.S.Solve.goes_on l.fn.s l.s

abbrev pub decreases-loop-selector : goal.decreases-loop-selector
decreases-loop-selector g l = length l.rest
