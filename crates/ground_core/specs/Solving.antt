-- What a solver promises.
use Rattle.std.specs.Prelude.{◌≡◌, ℕ, ◌+◌, ◌-◌, ◌^◌, ◌<◌, ◌≤◌, Bool, min, Some, Result, Ok, Err, List, [], ◌∷◌, ◌++◌}
use Rattle.std.specs.Prelude.{length, take, replicate, slice_get, All, Any, Contains, IfSome, ◌⊎◌}
pub use Rattle.kb_logic.specs.Lists.{IsSublist, IsPrefix}
use Rattle.lit_core.specs.declared.literals.Lit.{Lit}
use Rattle.lit_core.specs.Literals.{valuation, negated}
use Rattle.lit_core.specs.Truth.{IsSatisfied}
use Rattle.lit_core.specs.Freshness.{FreshAgainst}
use Rattle.ground_core.specs.declared.growing.Addition.{Addition}
use Rattle.ground_core.specs.declared.solving.Budget.{Budget}
use Rattle.ground_core.specs.declared.solving.Halt.{Halt}
use Rattle.ground_core.specs.declared.solving.Halt.TheVariants.{Spent, Memory}
use Rattle.ground_core.specs.declared.solving.Verdict.{Verdict}
use Rattle.ground_core.specs.declared.solving.Verdict.TheVariants.{Sat, Unsat}
use Rattle.ground_core.specs.declared.moments.Moment.{Moment}
use Rattle.ground_core.specs.Problems.{ProblemState, IsProblem}
use Rattle.ground_core.specs.Selectors.{AreSelectors}
use Rattle.ground_core.specs.Meaning.{Satisfies, MakesTrue, RefutesAll, HasTermsInRange}
use Rattle.ground_core.specs.GateClauses.{clauses_of}
use Rattle.ground_core.specs.Moments.{moment_of, problem_at, IsMomentOf}

-- what contracts see of a solver
pub record SolveState : Type 0 where
  pub problem : ProblemState
  pub learnt : List (List Lit)
  -- when each of them was learnt
  pub moments : List Moment
  -- the answers of searches that found nothing
  pub cores : List (List Lit)
  -- no fewer than the variables that are not fixed
  pub free : ℕ
  -- how many searches were begun
  pub searches : ℕ
  -- the bounds and exclusions that were added
  pub additions : List Addition

-- the values satisfy the problem and make the literals true, or some of the literals, in their order, are refuted
abbrev pub Answers : ProblemState → List Lit → Verdict → Type 0
Answers p assumed (Sat values) = (length values ≡ p.vars + 1) × Satisfies p (valuation values) × MakesTrue
    (valuation values) assumed
Answers p assumed (Unsat core) = IsSublist core assumed × RefutesAll p core

-- no more was spent than the limit allows, nor than was learnt
pub record IsBudgetOf (learnt : List (List Lit)) (b : Budget) : Type 0 where
  pub within : IfSome b.limit (λ most. b.spent ≤ most)
  pub learned : b.spent ≤ length learnt

-- none of these literals is a retired selector
abbrev pub AreUnretired : ProblemState → List Lit → Type 0
AreUnretired p ls = (l : Lit) → Contains p.retired l → Contains ls l → ⊥

-- the literals are among the others
abbrev pub IsWithin : List Lit → List Lit → Type 0
IsWithin core ls = All (Contains ls) core

-- a kept core is contained in these literals
abbrev pub HasCoreWithin : List (List Lit) → List Lit → Type 0
HasCoreWithin cores ls = Any (λ core. IsWithin core ls) cores

-- a core is kept where no kept one is contained in it, and nothing else is
abbrev pub KeepsCores : List (List Lit) → Result Verdict Halt → List (List Lit) → Type 0
KeepsCores before (Ok (Sat values)) after = after ≡ before
KeepsCores before (Ok (Unsat core)) after = (HasCoreWithin before core × (after ≡ before))
    ⊎ ((HasCoreWithin before core → ⊥) × (after ≡ before ++ core ∷ []))
KeepsCores before (Err halt) after = after ≡ before

-- the learnt list, with its moments, grew at its end by as many clauses as were spent, fewer than 2^free, up to the
-- limit
pub record Spends (old new : SolveState) (b c : Budget) : Type 0 where
  pub limit : c.limit ≡ b.limit
  pub rises : b.spent ≤ c.spent
  pub prefix : IsPrefix old.learnt new.learnt
  pub growth : length new.learnt ≡ length old.learnt + (c.spent - b.spent)
  pub moments : new.moments ≡ old.moments ++ replicate (c.spent - b.spent) (moment_of old.problem)
  pub fewer : c.spent - b.spent < 2 ^ old.free
  pub within : IfSome c.limit (λ most. c.spent ≤ most)

-- nothing was found, or there was no memory
abbrev pub IsRefusal : Result Verdict Halt → Type 0
IsRefusal (Ok (Sat values)) = ⊥
IsRefusal (Ok (Unsat core)) = Unit {0}
IsRefusal (Err Spent) = ⊥
IsRefusal (Err Memory) = Unit {0}

-- what a kept core refutes needs no search
pub record IsKnown (before after : List (List Lit)) (b c : Budget) (result : Result Verdict Halt) : Type 0 where
  pub answer : IsRefusal result
  pub learnt : after ≡ before
  pub spent : c.spent ≡ b.spent

-- a search halts as spent only at the limit
abbrev pub HaltedAt : Budget → Halt → Type 0
HaltedAt b Spent = b.limit ≡ Some b.spent
HaltedAt b Memory = Unit {0}

-- at most the greatest number of 64 bits
abbrev pub counted : ℕ → ℕ
counted n = min n (2 ^ 64 - 1)

-- every valuation that satisfies the problem satisfies the clause
abbrev pub Entails : ProblemState → List Lit → Type 0
Entails p c = (v : ℕ → Bool) → Satisfies p v → IsSatisfied v c

-- no retired selector's negation is in the clause
abbrev pub IsLive : List Lit → List Lit → Type 0
IsLive retired c = (l : Lit) → Contains retired l → Contains c (negated l) → ⊥

-- the problem entails the clause, which is fresh against the problem's clauses without a retired selector and those
-- learnt before
pub record IsLearntFrom (p : ProblemState) (before : List (List Lit)) (c : List Lit) : Type 0 where
  pub entailed : Entails p c
  pub live : IsLive p.retired c
  -- the clauses that it is fresh against
  pub against : List (List Lit)
  pub fresh : FreshAgainst against c
  pub learnt : (d : List Lit) → Contains before d → Contains against d
  pub said : (d : List Lit) → Contains (clauses_of p) d → IsLive p.retired d → Contains against d

-- each learnt clause has its moment, at which the problem gave it
pub record IsLearnt (p : ProblemState) (learnt : List (List Lit)) (moments : List Moment) : Type 0 where
  pub paired : length moments ≡ length learnt
  pub were : All (IsMomentOf p) moments
  pub each : (k : ℕ) (c : List Lit) (m : Moment) → slice_get learnt k ≡ Some c → slice_get moments k ≡ Some m
      → IsLearntFrom (problem_at p m) (take k learnt) c

-- what holds of every solver while no call on it runs
pub record IsKept (s : SolveState) : Type 0 where
  pub problem : IsProblem s.problem
  pub terms : HasTermsInRange s.problem
  pub learnt : IsLearnt s.problem s.learnt s.moments
  pub refuted : All (RefutesAll s.problem) s.cores
  pub counted : s.searches < 2 ^ 64
  -- each retired selector fixes another variable, and those that none fixes are no more than are free
  pub selectors : AreSelectors s.problem.retired
  pub free : s.problem.vars ≤ s.free + length s.problem.retired
