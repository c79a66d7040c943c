-- How far a false clause has been resolved.
use Rattle.std.specs.Prelude.{◌≡◌, ℕ, ◌<◌, ◌≤◌, ◌+◌, Some, None, List, [], length, reverse, slice_get, Contains, ◌⊎◌}
use Rattle.std.specs.Prelude.{IsSome}
use Rattle.std.specs.List.{AllZip}
use Rattle.lit_core.specs.declared.literals.Lit.{Lit}
use Rattle.lit_core.specs.Literals.{negated, HasEachOnce}
use Rattle.lit_core.specs.Refutation.{RefutesInOrder}
use Rattle.clause_store.specs.declared.trails.Step.{Step}
use Rattle.clause_store.specs.StoreState.{StoreState, IsHeld}
use Rattle.conflict_analysis.specs.Analyses.{FollowsFrom}
use Rattle.conflict_analysis.specs.Resolvents.{IsMadeAt, IsMarked, IsUpper, IsLower}
use Rattle.conflict_analysis.specs.declared.refutations.Refuted.{Refuted}
use Rattle.conflict_analysis.specs.declared.resolvent.Resolvent.{Resolvent}

-- no literal in force has the variable of a step with a reason from `top` on and before `end`
abbrev pub LeavesOpen : List Step → ℕ → ℕ → List Lit → Type 0
LeavesOpen steps top end inforce = (l : Lit) → Contains inforce l → (k : ℕ) (t : Step) → top ≤ k → k < end
    → slice_get steps k ≡ Some t → IsSome t.reason → l.var.0 ≡ t.lit.var.0 → ⊥

-- the clauses refute in order whatever is in force, if these literals are and the resolved ones are open
abbrev pub IsRefutedBelow : List Step → ℕ → ℕ → (Lit → Type 0) → List (List Lit) → Type 0
IsRefutedBelow steps top end needed clauses = (inforce : List Lit) → ((l : Lit) → needed l → Contains inforce l)
    → LeavesOpen steps top end inforce → RefutesInOrder inforce clauses

-- the literals beside the marks, and those that were made true at marked places
abbrev pub IsNeeded : List Step → (Lit → Type 0) → (ℕ → Type 0) → Lit → Type 0
IsNeeded steps beside marked l = beside l ⊎ ((k : ℕ) × marked k × IsMadeAt steps k l)

-- the step at this place made a literal of a held clause false
abbrev pub IsSourced : StoreState → ℕ → Type 0
IsSourced s k = (id : ℕ) × (c : List Lit) × (m : Lit) × IsHeld s id c × Contains c m
    × IsMadeAt s.trail.steps k (negated m)

-- the hints, last first, refute what is marked
pub record IsResolvent (s : StoreState) (end : ℕ) (beside : Lit → Type 0) (r : Resolvent) : Type 0 where
  pub hinted : List (List Lit)
  pub held : AllZip (IsHeld s) (reverse r.hints.items) hinted
  pub refuted : IsRefutedBelow s.trail.steps r.top end (IsNeeded s.trail.steps beside (IsMarked r)) hinted
  pub within : r.top ≤ end
  pub upper : (k : ℕ) → Contains r.upper k → (k < r.top) × IsUpper s.trail.steps r.floor k
  pub lower : (k : ℕ) → Contains r.lower k → IsLower s.trail.steps r.floor k
  pub sourced : (k : ℕ) → IsMarked r k → IsSourced s k

-- the same with a place that was taken off
pub record IsTaken (s : StoreState) (end : ℕ) (beside : Lit → Type 0) (place : ℕ) (r : Resolvent) : Type 0 where
  pub hinted : List (List Lit)
  pub held : AllZip (IsHeld s) (reverse r.hints.items) hinted
  pub refuted : IsRefutedBelow s.trail.steps (place + 1) end (IsNeeded s.trail.steps beside
      (λ k. (k ≡ place) ⊎ IsMarked r k)) hinted
  pub top : r.top ≡ place
  pub within : place < end
  pub taken : IsUpper s.trail.steps r.floor place
  pub upper : (k : ℕ) → Contains r.upper k → (k < r.top) × IsUpper s.trail.steps r.floor k
  pub lower : (k : ℕ) → Contains r.lower k → IsLower s.trail.steps r.floor k
  pub sourced : (k : ℕ) → (k ≡ place) ⊎ IsMarked r k → IsSourced s k

-- no literal
abbrev pub NoLiteral : Lit → Type 0
NoLiteral l = ⊥

-- some place is left to be resolved
abbrev pub HasUpper : Resolvent → Type 0
HasUpper r = (k : ℕ) × Contains r.upper k

-- resolution from the end of the trail, at the current level alone
pub record IsCurrent (s : StoreState) (r : Resolvent) : Type 0 where
  pub resolvent : IsResolvent s (length s.trail.steps) NoLiteral r
  pub floor : r.floor ≡ s.trail.level
  pub more : HasUpper r

-- one literal of the current level is left, which the step at this place made false
pub record IsLast (s : StoreState) (place : ℕ) (r : Resolvent) : Type 0 where
  pub taken : IsTaken s (length s.trail.steps) NoLiteral place r
  pub floor : r.floor ≡ s.trail.level
  pub none : r.upper ≡ []

-- decisions in the order in which they are met, none of which is below `top`
pub record AreDecisions (s : StoreState) (top : ℕ) (lits : List Lit) : Type 0 where
  pub decided : (l : Lit) → Contains lits l → (k : ℕ) × (t : Step) × (top ≤ k) × (slice_get s.trail.steps k ≡ Some t)
      × (t.lit ≡ l) × (0 < t.level) × (t.reason ≡ None)
  pub once : HasEachOnce lits

-- the decisions that were met, and the literal that the step at `end` made false
abbrev pub IsBeside : List Step → ℕ → List Lit → Lit → Type 0
IsBeside steps end lits l = Contains lits l ⊎ IsMadeAt steps end (negated l)

-- resolution below `end` down to decisions
pub record IsTracing (s : StoreState) (end : ℕ) (r : Resolvent) (lits : List Lit) : Type 0 where
  pub resolvent : IsResolvent s end (IsBeside s.trail.steps end lits) r
  pub floor : r.floor ≡ 0
  pub decisions : AreDecisions s r.top lits

-- decisions; and the clause of their negations, with the literals that the step at `end` made true, follows
pub record IsTraced (s : StoreState) (end : ℕ) (r : Refuted) : Type 0 where
  pub decisions : AreDecisions s 0 r.lits.items
  pub follows : (c : List Lit) → ((l : Lit) → IsBeside s.trail.steps end r.lits.items l → Contains c (negated l))
      → ((m : Lit) → Contains c m → IsBeside s.trail.steps end r.lits.items (negated m)) → FollowsFrom s c r.hints.items
