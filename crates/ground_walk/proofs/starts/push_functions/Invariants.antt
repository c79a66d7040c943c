use Rattle.std.proofs.Common.{◌≡◌, take, length}
use Rattle.def_ground.specs.Problems.{one_of_clauses, one_of_sums, saying}
use Rattle.ground_walk.proofs.StartSteps.{of-functions}
use Rattle.ground_walk.proofs.starts.push_functions.Given as goal

-- what is said of the functions so far
abbrev pub invariant-loop-symbol : goal.invariant-loop-symbol
invariant-loop-symbol l =
    l.problem
    ≡ saying l.fn.problem (of-functions (one_of_clauses (length l.base.known)) l.base 0 (take l.symbol l.symbols))
    (of-functions (one_of_sums (length l.base.known)) l.base 0 (take l.symbol l.symbols))
