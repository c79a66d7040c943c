-- A search: what holds at each of its turns.
use Rattle.std.specs.Prelude.{◌≡◌, ℕ, ◌+◌, ◌-◌, ◌^◌, ◌<◌, ◌≤◌, min, Bool, true, false, Option, Some, None, IsSome}
use Rattle.std.specs.Prelude.{IfSome, List, [], ◌∷◌, ◌++◌, length, take, replicate, slice_get, slice_index_or, All}
use Rattle.std.specs.Prelude.{Contains, ◌⊎◌}
use Rattle.lit_core.specs.declared.literals.Lit.{Lit}
use Rattle.lit_core.specs.Literals.{value_in, valuation, negated}
use Rattle.clause_store.specs.declared.trails.Step.{Step}
use Rattle.clause_store.specs.StoreState.{StoreState, IsStore, IsHeld, IsMadeBefore, IsConflict, IsQuiet}
use Rattle.conflict_analysis.specs.Analyses.{IsFalseSince, IsFalseUpTo}
use Rattle.ground_core.specs.Problems.{ProblemState, IsProblem, IsLitOf, AreLitsOf}
use Rattle.ground_core.specs.Meaning.{BoundHolds, RefutesAll}
use Rattle.ground_core.specs.GateClauses.{clauses_of}
use Rattle.ground_core.specs.declared.solving.Verdict.{Verdict}
use Rattle.ground_core.specs.declared.solving.Halt.{Halt}
use Rattle.ground_core.specs.declared.solving.Halt.TheVariants as halt
use Rattle.ground_core.specs.Moments.{moment_of}
use Rattle.ground_core.specs.Solving.{Entails, Answers, IsLearnt, counted}
use Rattle.term_bounds.specs.Breaking.{HasLits}
use Rattle.term_bounds.specs.Shares.{IsDecidedAs}
use Rattle.ground_core.specs.Intervals.{IsQuiet as IsQuietSum}
use Rattle.aggregate_propagators.specs.Implied.{assigned}
use Rattle.search_engine.specs.declared.engine.Engine.{Engine}
use Rattle.search_engine.specs.declared.engine.Turn.{Turn}
use Rattle.search_engine.specs.declared.searching.Outcome.{Outcome}
use Rattle.search_engine.specs.declared.searching.Outcome.TheVariants.{Answered, Further, Open, Spent}
use Rattle.search_engine.specs.declared.engine.Turn.TheVariants.{Refuted, Conflict, Follows}
use Rattle.search_engine.specs.Knowledge.{IsHeldAs, IsOfConstraint, Knows, Occurs}
use Rattle.search_engine.specs.Potential.{potential, implied_of, Ahead, Behind, Stands}

-- each step names a variable of the problem, and each without a clause is a decision
pub record IsOrderly (vars : ℕ) (steps : List Step) : Type 0 where
  pub named : (k : ℕ) (t : Step) → slice_get steps k ≡ Some t → IsLitOf vars t.lit
  pub decided : (k : ℕ) (t : Step) → slice_get steps k ≡ Some t → t.reason ≡ None → 0 < t.level

-- each decision was assumed, or all that was assumed was true before it
abbrev pub AreAssumed : List Lit → List Step → Type 0
AreAssumed assume steps = (k : ℕ) (t : Step) → slice_get steps k ≡ Some t → t.reason ≡ None → Contains assume t.lit
    ⊎ All (IsMadeBefore steps k) assume

-- steps that follow by clauses were added
pub record Extends (old new : List Step) : Type 0 where
  pub kept : old ≡ take (length old) new
  pub reasoned : (k : ℕ) (t : Step) → length old ≤ k → slice_get new k ≡ Some t → IsSome t.reason

-- what is assumed on the old steps is assumed on the new ones
abbrev pub KeepsAssumed : List Step → List Step → Type 0
KeepsAssumed old new = (assume : List Lit) → AreAssumed assume old → AreAssumed assume new

-- these literals are true
abbrev pub AreTrue : List (Option Bool) → List Lit → Type 0
AreTrue values lits = All (λ l. value_in values l ≡ Some true) lits

-- each of these selectors is false by a clause of its own, which is held and not a learnt one
abbrev pub AreClosed : List (Option (List Lit)) → List ℕ → List Lit → Type 0
AreClosed clauses ids ls = All (λ l. (id : ℕ) × IsHeldAs clauses id (negated l ∷ []) × (Contains ids id → ⊥)) ls

-- what holds whatever is on the trail
pub record IsEngine (e : Engine) : Type 0 where
  pub problem : IsProblem e.problem
  pub within : e.closed ≤ length e.problem.retired
  -- the first retired selectors
  pub closed : AreClosed e.store.clauses e.ids.items (take e.closed e.problem.retired)
  pub learnt : IsLearnt e.problem e.learnt e.moments.items
  pub knows : Knows e.problem e.learnt e.ids.items e.store.clauses
  pub store : IsStore e.store
  pub sized : e.problem.vars < length e.store.trail.values

-- the conflicts so far, and what those literals are worth that followed when the search began
abbrev pub paid_of : Engine → ℕ
paid_of e = e.conflicts + potential e.problem.vars (replicate e.base true)

-- the clauses that are held as long as a literal is true by them: they are none of the learnt ones, and others hold what
-- the problem and its retired selectors say
pub record ArePassing (e : Engine) : Type 0 where
  pub within : All (λ id. id < length e.store.clauses) e.passing.items
  pub unlearnt : All (λ id. Contains e.ids.items id → ⊥) e.passing.items
  pub problem : All (λ c. (id : ℕ) × IsHeldAs e.store.clauses id c × (Contains (e.ids.items ++ e.passing.items) id → ⊥))
      (clauses_of e.problem)
  pub closed : AreClosed e.store.clauses (e.ids.items ++ e.passing.items) (take e.closed e.problem.retired)

-- what holds during a search
pub record IsSearch (e : Engine) : Type 0 where
  pub engine : IsEngine e
  pub orderly : IsOrderly e.problem.vars e.store.trail.steps
  pub counted : length e.learnt ≤ e.known + e.conflicts
  pub fewer : paid_of e < 2 ^ e.problem.vars
  pub once : e.root_conflicts ≤ 1
  -- every retired selector is false by a clause
  pub closed : e.closed ≡ length e.problem.retired
  pub passing : ArePassing e

-- so many clauses were learnt, of the problem as it is
abbrev pub LearnsNow : Engine → Engine → Type 0
LearnsNow old new = (k : ℕ) × (length new.learnt ≡ length old.learnt + k)
    × (new.moments.items ≡ old.moments.items ++ replicate k (moment_of old.problem))

-- the search goes on: the problem stays, and the learnt list grows at its end
pub record Continues (old new : Engine) : Type 0 where
  pub problem : new.problem ≡ old.problem
  pub searches : new.searches ≡ old.searches
  pub known : new.known ≡ old.known
  pub base : new.base ≡ old.base
  pub learnt : old.learnt ≡ take (length old.learnt) new.learnt
  pub now : LearnsNow old new

-- how far the search has come
abbrev pub StandsAt : Engine → ℕ → Type 0
StandsAt e goal = Stands e.problem.vars (implied_of e.store.trail.steps) (paid_of e) goal

abbrev pub AheadAt : Engine → ℕ → Type 0
AheadAt e goal = Ahead e.problem.vars (implied_of e.store.trail.steps) (paid_of e) goal

abbrev pub BehindAt : Engine → ℕ → Type 0
BehindAt e goal = Behind e.problem.vars (implied_of e.store.trail.steps) (paid_of e) goal

-- the literals of the false clause became false up to this level, some of them at it
pub record IsLevelOf (s : StoreState) (id level : ℕ) : Type 0 where
  pub clause : List Lit
  pub held : IsHeld s id clause
  pub upto : All (IsFalseUpTo s.trail level) clause
  pub here : (level ≡ 0) ⊎ ((m : Lit) × Contains clause m × IsFalseSince s.trail level m)

-- the literals of the clause but the first are false
abbrev pub AreOthersFalse : List (Option Bool) → List Lit → Type 0
AreOthersFalse values c = (l : Lit) × (slice_get c 0 ≡ Some l) × All (λ m. (m ≡ l) ⊎ (value_in values m ≡ Some false)) c

-- the first literal of the clause is unassigned
abbrev pub IsFirstOpen : List (Option Bool) → List Lit → Type 0
IsFirstOpen values c = (l : Lit) × (slice_get c 0 ≡ Some l) × (value_in values l ≡ None)

-- the first literal of the clause has a value
abbrev pub IsFirstAssigned : List (Option Bool) → List Lit → Type 0
IsFirstAssigned values c = (l : Lit) × (slice_get c 0 ≡ Some l) × (value_in values l ≡ None → ⊥)

-- a clause that may be learnt: the problem entails it, all its literals but the first are false, and its conflict was
-- counted
pub record IsLesson (e : Engine) (c : List Lit) : Type 0 where
  pub within : AreLitsOf e.problem.vars c
  pub occurs : All (Occurs e.problem) c
  pub entailed : Entails e.problem c
  pub others : AreOthersFalse e.store.trail.values c
  pub owed : min (length e.learnt + 1) (2 ^ 64 - 1) ≤ e.known + e.conflicts

-- no more conflicts were counted
pub record SameCounts (old new : Engine) : Type 0 where
  pub conflicts : new.conflicts ≡ old.conflicts
  pub root_conflicts : new.root_conflicts ≡ old.root_conflicts
  pub assumed : new.assumed ≡ old.assumed

-- what was learnt of a conflict: that the problem is refuted, or a clause that is unit after the backtrack, whether it
-- is kept or not, so that the conflict is counted
abbrev pub LessonGives : Engine → Engine → Option (List Lit) → Type 0
LessonGives old new None = (new.root_conflicts ≡ 1) × RefutesAll old.problem [] × (new.conflicts ≡ old.conflicts)
LessonGives old new (Some c) =
    (new.root_conflicts ≡ 0) × IsLesson new c × IsFirstOpen new.store.trail.values c
    × (new.store.trail.level < old.store.trail.level) × ((goal : ℕ) → StandsAt old goal → BehindAt new goal)
    × (new.conflicts ≡ counted (old.conflicts + 1))

-- a conflict ended the search, or another one is left at a lower level, or a literal follows in place of a decision
abbrev pub TurnGives : Engine → Engine → Turn → Type 0
TurnGives old new Refuted = (new.root_conflicts ≡ 1) × RefutesAll old.problem []
TurnGives old new (Conflict id) = (new.root_conflicts ≡ 0) × IsConflict new.store id
    × (new.store.trail.level < old.store.trail.level) × ((goal : ℕ) → StandsAt old goal → StandsAt new goal)
    × (new.learnt ≡ old.learnt)
TurnGives old new Follows = (new.root_conflicts ≡ 0) × ((goal : ℕ) → StandsAt old goal → AheadAt new (goal + 1))

-- the search goes on, further than before, or the problem is refuted
abbrev pub SettleGives : Engine → Engine → Bool → Type 0
SettleGives old new true = (new.root_conflicts ≡ 0) × ((goal : ℕ) → StandsAt old goal → AheadAt new (goal + 1))
SettleGives old new false = (new.root_conflicts ≡ 1) × RefutesAll old.problem []

-- the values of the variables from 1 on
pub record GivesValues (assigned : List (Option Bool)) (end : ℕ) (values : List Bool) : Type 0 where
  pub size : length values ≡ end
  pub same : (k : ℕ) → 1 ≤ k → k < end → slice_index_or assigned k None ≡ Some (valuation values k)

-- one constraint of the problem implies the clause, which is of the problem's variables and of literals that occur
pub record IsExplained (p : ProblemState) (c : List Lit) : Type 0 where
  pub within : AreLitsOf p.vars c
  pub occurs : All (Occurs p) c
  pub constraint : IsOfConstraint p c

-- each of the literals with the reasons is such a clause
abbrev pub AreExplained : ProblemState → List Lit → List Lit → Type 0
AreExplained p reasons lits = All (λ l. IsExplained p (l ∷ reasons)) lits

-- no value of a variable alone contradicts a constraint on sums
abbrev pub AreQuietSums : Engine → Type 0
AreQuietSums e = All (IsQuietSum (assigned e.store.trail.values)) e.problem.sums

-- where every variable of terms and bounds has a value, the bounds hold
abbrev pub HoldsWhereDecided : Engine → Type 0
HoldsWhereDecided e = (v : ℕ → Bool) → HasLits (IsDecidedAs e.store.trail.values v) e.problem.terms e.problem.bounds
    → All (BoundHolds v e.problem.terms) e.problem.bounds

-- what the search needs between its turns
pub record IsTurn (assume : List Lit) (e : Engine) : Type 0 where
  pub decisions : AreAssumed assume e.store.trail.steps
  pub trues : AreTrue e.store.trail.values (take e.assumed assume)

-- a verdict, or the search has gone further
abbrev pub AdvanceGives : List Lit → Engine → Engine → Option Verdict → Type 0
AdvanceGives assume old new None = (new.root_conflicts ≡ 0) × ((goal : ℕ) → AheadAt old goal → AheadAt new (goal + 1))
AdvanceGives assume old new (Some verdict) = Answers old.problem assume verdict

-- a verdict, or the search has gone further, or what is assumed is true and nothing follows
abbrev pub OutcomeGives : List Lit → Engine → Engine → Outcome → Type 0
OutcomeGives assume old new (Answered verdict) = Answers old.problem assume verdict
OutcomeGives assume old new Further = (new.root_conflicts ≡ 0) × ((goal : ℕ) → AheadAt old goal
    → AheadAt new (goal + 1))
OutcomeGives assume old new Open = (new.root_conflicts ≡ 0) × IsQuiet new.store × AreTrue new.store.trail.values assume
    × ((goal : ℕ) → AheadAt old goal → AheadAt new goal)
OutcomeGives assume old new Spent = ⊥

-- the learnt list is no longer than it may be
abbrev pub HasRoom : Option ℕ → Engine → Type 0
HasRoom most e = IfSome most (λ m. length e.learnt ≤ m)

-- the same, or the learnt list is as long as it may be
abbrev pub TurnEnds : List Lit → Option ℕ → Engine → Engine → Outcome → Type 0
TurnEnds assume most old new (Answered verdict) = OutcomeGives assume old new (Answered verdict)
TurnEnds assume most old new Further = OutcomeGives assume old new Further
TurnEnds assume most old new Open = OutcomeGives assume old new Open
TurnEnds assume most old new Spent = most ≡ Some (length new.learnt)

-- a search halts as spent only where the learnt list is as long as it may be
abbrev pub HaltsAt : Option ℕ → Engine → Halt → Type 0
HaltsAt most e halt.Spent = most ≡ Some (length e.learnt)
HaltsAt most e halt.Memory = Unit {0}
