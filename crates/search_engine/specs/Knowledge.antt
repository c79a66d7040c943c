-- What a solver holds of its problem.
use Rattle.std.specs.Prelude.{◌≡◌, ℕ, ◌+◌, ◌≤◌, Bool, false, Option, Some, List, [], ◌∷◌, length, take, slice_get, All}
use Rattle.std.specs.Prelude.{Any, Contains, ◌⊎◌}
use Rattle.std.specs.List.{AllZip}
use Rattle.lit_core.specs.declared.literals.Lit.{Lit}
use Rattle.lit_core.specs.Literals.{literal_value, negated}
use Rattle.lit_core.specs.Truth.{IsSatisfied}
use Rattle.clause_store.specs.StoreState.{IsEachOnceOf}
use Rattle.ground_core.specs.declared.parts.GroundTerm.{GroundTerm}
use Rattle.ground_core.specs.declared.parts.Part.{Part}
use Rattle.ground_core.specs.declared.parts.TermBound.{TermBound}
use Rattle.ground_core.specs.Problems.{ProblemState, AreLitsOf}
use Rattle.ground_core.specs.Meaning.{Satisfies, SumHolds, BoundHolds}
use Rattle.ground_core.specs.GateClauses.{clauses_of}
pub use Rattle.aggregate_propagators.specs.Implied.{IsOfSum}

-- the clause with this number has the literals of c, each once
abbrev pub IsHeldAs : List (Option (List Lit)) → ℕ → List Lit → Type 0
IsHeldAs clauses id c = (k : List Lit) × (slice_get clauses id ≡ Some (Some k)) × IsEachOnceOf c k

-- one of these clauses has the same literals
abbrev pub IsOneOf : List (List Lit) → List Lit → Type 0
IsOneOf cs k = (c : List Lit) × Contains cs c × IsEachOnceOf c k

-- the clause holds wherever one constraint of the problem does: a sum, a bound, or that a selector is retired
abbrev pub IsOfConstraint : ProblemState → List Lit → Type 0
IsOfConstraint p k =
    Any (λ s. (v : ℕ → Bool) → SumHolds v s → IsSatisfied v k) p.sums
    ⊎ (Any (λ b. (v : ℕ → Bool) → BoundHolds v p.terms b → IsSatisfied v k) p.bounds ⊎ Any (λ l. (v : ℕ → Bool)
    → literal_value v l ≡ false → IsSatisfied v k) p.retired)

-- a sum, a bound or a term of the problem has the literal's variable, or it is the negation of a retired selector
abbrev pub IsConstrained : ProblemState → Lit → Type 0
IsConstrained p l =
    Any (IsOfSum l) p.sums ⊎ (Any (λ (b : TermBound). b.out.var.0 ≡ l.var.0) p.bounds
    ⊎ (Any (λ (t : GroundTerm). Any (λ (u : Part). u.lit.var.0 ≡ l.var.0) t.parts) p.terms
    ⊎ Any (λ s. l ≡ negated s) p.retired))

-- the literal stands in a clause of the problem, or a constraint or a term has its variable
abbrev pub Occurs : ProblemState → Lit → Type 0
Occurs p l = Any (λ c. Contains c l) (clauses_of p) ⊎ IsConstrained p l

-- the held clauses are the problem's, those of its constraints and the learnt ones, which have these numbers, and all
-- follow from the problem
pub record Knows (p : ProblemState) (learnt : List (List Lit)) (ids : List ℕ)
    (clauses : List (Option (List Lit))) : Type 0 where
  pub implied : (v : ℕ → Bool) → Satisfies p v → (id : ℕ) (k : List Lit) → slice_get clauses id ≡ Some (Some k)
      → IsSatisfied v k
  pub within : (id : ℕ) (k : List Lit) → slice_get clauses id ≡ Some (Some k) → AreLitsOf p.vars k
  pub from : (id : ℕ) (k : List Lit) → slice_get clauses id ≡ Some (Some k)
      → Contains ids id ⊎ (IsOneOf (clauses_of p) k ⊎ IsOfConstraint p k)
  pub problem : All (λ c. (id : ℕ) × IsHeldAs clauses id c × (Contains ids id → ⊥)) (clauses_of p)
  -- learning brings no literal that was not there
  pub occurs : (id : ℕ) (k : List Lit) → slice_get clauses id ≡ Some (Some k) → All (Occurs p) k
  pub learnt_held : AllZip (IsHeldAs clauses) ids learnt

-- the clauses are held in their order, from this number on
abbrev pub AreHeldFrom : List (Option (List Lit)) → ℕ → List (List Lit) → Type 0
AreHeldFrom clauses id [] = Unit {0}
AreHeldFrom clauses id (c ∷ cs) = IsHeldAs clauses id c × AreHeldFrom clauses (id + 1) cs

-- clauses were added in their order, and no others, each with every literal once
pub record Pushes (old new : List (Option (List Lit))) (cs : List (List Lit)) : Type 0 where
  pub front : old ≡ take (length old) new
  pub size : length new ≡ length old + length cs
  pub held : AreHeldFrom new (length old) cs
  pub from : (id : ℕ) (k : List Lit) → length old ≤ id → slice_get new id ≡ Some (Some k) → IsOneOf cs k

-- the clauses from a number on were removed
pub record RemovesFrom (first : ℕ) (old new : List (Option (List Lit))) : Type 0 where
  pub size : length new ≡ length old
  pub front : take first new ≡ take first old
  pub none : (id : ℕ) (k : List Lit) → first ≤ id → slice_get new id ≡ Some (Some k) → ⊥

-- the clauses with these numbers were removed, and no others
pub record RemovesAll (ids : List ℕ) (old new : List (Option (List Lit))) : Type 0 where
  pub size : length new ≡ length old
  pub back : (id : ℕ) (k : List Lit) → slice_get new id ≡ Some (Some k) → slice_get old id ≡ Some (Some k)
  pub there : (id : ℕ) (k : List Lit) → slice_get old id ≡ Some (Some k) → (Contains ids id → ⊥)
      → slice_get new id ≡ Some (Some k)
  pub gone : (id : ℕ) (k : List Lit) → Contains ids id → slice_get new id ≡ Some (Some k) → ⊥
