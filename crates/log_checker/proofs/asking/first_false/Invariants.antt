use Rattle.std.proofs.Common.{◌≤◌, ℕ, List}
use Rattle.lit_core.specs.declared.literals.Lit.{Lit}
use Rattle.log_checker.specs.Sets.{IsMarked}
use Rattle.log_checker.specs.Cases.{IsFalseAt}
use Rattle.log_checker.proofs.asking.first_false.Given as goal

abbrev pub invariant-loop-place : goal.invariant-loop-place
invariant-loop-place l = (inforce : List Lit) → IsMarked l.fn.set inforce
    → (n : ℕ) → n ≤ l.place → IsFalseAt l.clauses inforce n → ⊥
