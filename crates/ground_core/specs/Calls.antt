-- What calls over a solver keep, one after another.
use Rattle.std.specs.Prelude.{◌≡◌, ℕ, ◌+◌, ◌-◌, ◌*◌, ◌^◌, ◌<◌, ◌≤◌, length, IfSome, Contains, ◌⊎◌, Option, Some, None}
use Rattle.std.specs.Prelude.{Result, Ok, Err}
use Rattle.lit_core.specs.declared.literals.Lit.{Lit}
use Rattle.ground_core.specs.declared.solving.Budget.{Budget}
use Rattle.ground_core.specs.declared.solving.Halt.{Halt}
use Rattle.ground_core.specs.declared.solving.Halt.TheVariants.{Spent, Memory}
use Rattle.ground_core.specs.Problems.{ProblemState}
use Rattle.ground_core.specs.Growing.{Conserves}
use Rattle.ground_core.specs.Moments.{moment_of, GrowsFrom, IsNoLater}
use Rattle.ground_core.specs.Solving.{SolveState, IsPrefix, IsKept, counted}

-- the limit stays, the lists grow at their ends, by clauses that were learnt in the call, and what was spent rises by
-- what was learnt, up to the limit
pub record Keeps (old new : SolveState) (b c : Budget) : Type 0 where
  pub limit : c.limit ≡ b.limit
  pub rises : b.spent ≤ c.spent
  pub learnt : IsPrefix old.learnt new.learnt
  pub growth : length new.learnt ≡ length old.learnt + (c.spent - b.spent)
  pub moments : GrowsFrom (moment_of old.problem) old.moments new.moments
  pub cores : IsPrefix old.cores new.cores
  pub within : IfSome c.limit (λ most. c.spent ≤ most)
  -- and the problem's lists do not get shorter
  pub problem : IsNoLater (moment_of old.problem) (moment_of new.problem)

-- so many searches were begun, none with more than so many free variables
pub record Counts (top k : ℕ) (old new : SolveState) (b c : Budget) : Type 0 where
  pub searches : new.searches ≡ counted (old.searches + k)
  pub fewer : c.spent + k ≤ b.spent + k * 2 ^ top

-- at most so many
abbrev pub CountsUpTo : ℕ → ℕ → SolveState → SolveState → Budget → Budget → Type 0
CountsUpTo top m old new b c = (k : ℕ) × (k ≤ m) × Counts top k old new b c

-- nothing was added, and nothing retired
pub record Stays (old new : SolveState) : Type 0 where
  pub problem : new.problem ≡ old.problem
  pub additions : new.additions ≡ old.additions
  pub free : new.free ≡ old.free

-- a call begins at most m searches, and spends less than they could
pub record Costs (m : ℕ) (old new : SolveState) (b c : Budget) : Type 0 where
  pub searches : (k : ℕ) × (k ≤ m) × (new.searches ≡ counted (old.searches + k))
  pub spent : c.spent - b.spent < m * 2 ^ (old.free + m)

-- how a call of at most m searches ends: what it learnt and spent, that what is kept of the solver holds again, and that
-- no more variables are free
pub record CallEnds (m : ℕ) (old new : SolveState) (b c : Budget) : Type 0 where
  pub keeps : Keeps old new b c
  pub costs : Costs m old new b c
  pub kept : IsKept new
  pub free : new.free ≡ old.free

-- the problem grew by additions, and only selectors of these were retired
pub record GrowsByAdditions (p q : ProblemState) : Type 0 where
  pub conserves : Conserves p q
  pub retired : (l : Lit) → Contains q.retired l → Contains p.retired l ⊎ (p.vars < l.var.0)

-- nothing was found, or there was no memory
abbrev pub IsNone : {T : Type 0} → Result (Option T) Halt → Type 0
IsNone (Ok None) = Unit {0}
IsNone (Ok (Some x)) = ⊥
IsNone (Err Spent) = ⊥
IsNone (Err Memory) = Unit {0}

-- what a kept core refutes is answered at once
pub record IsAnsweredAtOnce {T : Type 0} (old new : SolveState) (result : Result (Option T) Halt) : Type 0 where
  pub answer : IsNone result
  pub learnt : new.learnt ≡ old.learnt
