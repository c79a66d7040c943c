use Rattle.std.proofs.Common.{◌≡◌, ◌+◌, ◌*◌, length}
use Rattle.term_values.specs.GroundBases.{first_var, values_at}
use Rattle.def_ground.specs.Problems.{one_of_clauses, one_of_sums, saying}
use Rattle.ground_walk.proofs.StartSteps.{said-so-far}
use Rattle.ground_walk.proofs.starts.push_function.Given as goal

-- what is said at the tuples so far, and the variable of the next one
abbrev pub invariant-loop-tuple : goal.invariant-loop-tuple
invariant-loop-tuple l = record {
  said : l.problem ≡ saying l.fn.problem (said-so-far (one_of_clauses (length l.base.known)) l.base l.symbol l._tuple)
      (said-so-far (one_of_sums (length l.base.known)) l.base l.symbol l._tuple);
  next : l.next ≡ first_var l.base l.symbol + l._tuple * length (values_at l.base l.symbol);
}
