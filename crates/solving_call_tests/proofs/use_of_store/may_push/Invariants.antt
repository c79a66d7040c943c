use Rattle.std.proofs.Common.{◌<◌, All, length, take}
use Rattle.lit_core.specs.Literals.{negated}
use Rattle.clause_store.specs.TrailLaws.{IsFixed}
use Rattle.solving_call_tests.proofs.use_of_store.may_push.Given as goal

abbrev pub invariant-loop-lit : goal.invariant-loop-lit
invariant-loop-lit l = All (λ x. x.var.0 < length l.store.trail.values) (take l.lit-index l.lits)
    × All (λ x. IsFixed l.store.trail (negated x) → ⊥) (take l.lit-index l.lits)
