use Rattle.std.proofs.Common.{◌≡◌, true, take}
use Rattle.std.specs.List.{list_all, list_any}
use Rattle.lit_core.specs.Literals.{literal_value, valuation}
use Rattle.brute_force.proofs.evaluation.clauses_hold.Given as goal

-- the clauses so far hold
abbrev pub invariant-loop-place : goal.invariant-loop-place
invariant-loop-place l = list_all (λ c. list_any (literal_value (valuation l.values)) c) (take l.place l.clauses)
    ≡ true
