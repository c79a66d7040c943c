-- What conflict analysis answers.
use Rattle.std.specs.Prelude.{◌≡◌, ℕ, ◌<◌, ◌≤◌, Some, None, List, [], ◌∷◌, ◌++◌, map, slice_get, All, Contains, ◌⊎◌}
use Rattle.std.specs.List.{AllZip}
use Rattle.lit_core.specs.declared.literals.Lit.{Lit}
use Rattle.lit_core.specs.Literals.{negated, HasEachOnce}
use Rattle.lit_core.specs.Refutation.{FollowsInOrder}
use Rattle.lit_core.specs.Truth.{IsFalsified}
use Rattle.clause_store.specs.declared.trails.Step.{Step}
use Rattle.clause_store.specs.TrailState.{TrailState}
use Rattle.clause_store.specs.StoreState.{StoreState, IsHeld}
use Rattle.conflict_analysis.specs.declared.analysis.Analysis.{Analysis}
use Rattle.conflict_analysis.specs.declared.refutations.Refuted.{Refuted}

-- a step of this level made the literal false
abbrev pub IsFalseSince : TrailState → ℕ → Lit → Type 0
IsFalseSince s level m = (k : ℕ) × (t : Step) × (slice_get s.steps k ≡ Some t) × (t.lit ≡ negated m) × (t.level ≡ level)

-- a step of this level or of a lower one made the literal false
abbrev pub IsFalseUpTo : TrailState → ℕ → Lit → Type 0
IsFalseUpTo s level m = (k : ℕ) × (t : Step) × (slice_get s.steps k ≡ Some t) × (t.lit ≡ negated m) × (t.level ≤ level)

-- the clause with this number is held, and has a literal that became false at the current level
abbrev pub HasCurrent : StoreState → ℕ → Type 0
HasCurrent s id = (c : List Lit) × IsHeld s id c × ((m : Lit) × Contains c m × IsFalseSince s.trail s.trail.level m)

-- the hints name held clauses, and from these the clause follows in their order
pub record FollowsFrom (s : StoreState) (c : List Lit) (hints : List ℕ) : Type 0 where
  pub hinted : List (List Lit)
  pub held : AllZip (IsHeld s) hints hinted
  pub follows : FollowsInOrder c hinted

-- the first literal of the clause became false at the current level, and the others up to this lower one, the least
-- that serves
pub record IsUnitBackAt (s : TrailState) (level : ℕ) (c : List Lit) : Type 0 where
  pub lower : level < s.level
  pub asserting : Lit
  pub first : slice_get c 0 ≡ Some asserting
  pub current : IsFalseSince s s.level asserting
  pub others : All (λ m. (m ≡ asserting) ⊎ IsFalseUpTo s level m) c
  pub least : (level ≡ 0) ⊎ ((m : Lit) × Contains c m × IsFalseSince s level m)

-- the literal stands in a held clause
abbrev pub IsHeldLiteral : StoreState → Lit → Type 0
IsHeldLiteral s m = (id : ℕ) × (c : List Lit) × IsHeld s id c × Contains c m

-- the clause is false, follows from held clauses, of whose literals it is made, and is unit once the trail is back at
-- the level
pub record IsAnalysis (s : StoreState) (a : Analysis) : Type 0 where
  pub follows : FollowsFrom s a.clause.items a.hints.items
  pub unit_back : IsUnitBackAt s.trail a.level a.clause.items
  pub falsified : IsFalsified s.trail.values a.clause.items
  pub once : HasEachOnce a.clause.items
  pub held : All (IsHeldLiteral s) a.clause.items

-- a decision made the literal true
abbrev pub IsDecided : TrailState → Lit → Type 0
IsDecided s l = (k : ℕ) × (t : Step) × (slice_get s.steps k ≡ Some t) × (t.lit ≡ l) × (0 < t.level) × (t.reason ≡ None)

-- decisions that make the literal false: either its negation, or by held clauses from which that follows
pub record IsRefuted (s : StoreState) (l : Lit) (r : Refuted) : Type 0 where
  pub decided : All (IsDecided s.trail) r.lits.items
  pub once : HasEachOnce r.lits.items
  pub follows : ((r.lits.items ≡ negated l ∷ []) × (r.hints.items ≡ [])) ⊎ FollowsFrom s
      (map negated (r.lits.items ++ l ∷ [])) r.hints.items
