use Rattle.std.proofs.Common.{◌≡◌, None, fold, drop}
use Rattle.def_ground.specs.SumSides.{with_value}
use Rattle.def_ground.proofs.sum_sides.outermost.Given as goal

-- with the rows that are left comes that of all
abbrev pub invariant-loop-row : goal.invariant-loop-row
invariant-loop-row l =
    fold (λ o r. with_value l.high o r.1) l.most (drop l.row l.rows) ≡ fold (λ o r. with_value l.high o r.1) None l.rows
