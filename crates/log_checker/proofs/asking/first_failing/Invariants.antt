use Rattle.std.proofs.Common.{ℕ, ◌≤◌}
use Rattle.log_checker.specs.States.{state_view}
use Rattle.log_checker.specs.Growing.{known}
use Rattle.log_checker.specs.Cases.{FailsAt}
use Rattle.log_checker.proofs.asking.first_failing.Given as goal

abbrev pub invariant-loop-place : goal.invariant-loop-place
invariant-loop-place l = (n : ℕ) → n ≤ l.place → FailsAt (known l.fn.p (state_view l.fn.st)) l.fn.inforce n → ⊥
