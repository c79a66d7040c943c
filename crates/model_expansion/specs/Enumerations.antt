-- Several models, no two of which have the same ground atoms.
use Rattle.std.specs.Prelude.{◌≡◌, ℕ, ◌+◌, ◌≤◌, Bool, true, false, List, [], ◌++◌, map, length, All, Any, Result}
use Rattle.std.specs.Prelude.{Ok, Err}
use Rattle.lit_core.specs.declared.literals.Lit.{Lit}
use Rattle.lit_core.specs.Literals.{valuation}
use Rattle.ground_core.specs.declared.growing.Addition.TheVariants.{Exclusion}
use Rattle.ground_core.specs.declared.solving.Halt.{Halt}
use Rattle.ground_core.specs.declared.solving.Halt.TheVariants.{Spent, Memory}
use Rattle.ground_core.specs.Problems.{ProblemState}
use Rattle.ground_core.specs.Meaning.{Satisfies, MakesTrue}
use Rattle.ground_core.specs.More.{Agree}
use Rattle.ground_core.specs.Laws.{Differs}
use Rattle.ground_core.specs.Growing.{IsSelector}
use Rattle.ground_core.specs.Solving.{SolveState, HasCoreWithin}
use Rattle.model_expansion.specs.declared.found.Several.{Several}
use Rattle.model_expansion.specs.Exclusions.{with_exclusions, exclusion_selectors, Excludes, AreModels}

-- each valuation that is left has the ground atoms of one of these; or there are n of these, and another one is left
abbrev pub EndsAt : ProblemState → List Lit → ℕ → List (List Bool) → Bool → Type 0
EndsAt p assumed n vs true =
    (v : ℕ → Bool) → Satisfies p v → MakesTrue v assumed → Any (λ w. Agree (length p.atoms) (valuation w) v) vs
EndsAt p assumed n vs false =
    (length vs ≡ n) × ((v : ℕ → Bool) × Satisfies p v × MakesTrue v assumed × All (λ w. Differs p w v) vs)

-- at most n models, all there are exactly where they are complete; that there is none is shown by a kept core
pub record FindsSeveral (p : ProblemState) (assumed : List Lit) (n : ℕ) (cores : List (List Lit)) (m : Several)
    : Type 0 where
  pub models : AreModels p assumed m.found
  pub most : length m.found ≤ n
  pub ends : EndsAt p assumed n m.found m.complete
  pub shown : m.found ≡ [] → m.complete ≡ true → HasCoreWithin cores assumed

-- at most n exclusions were added, of valuations that were left, each of them once
pub record AddsExclusions (assumed : List Lit) (n : ℕ) (old new : SolveState) : Type 0 where
  pub values : List (List Bool)
  pub excludes : Excludes values old new
  pub most : length values ≤ n
  pub models : AreModels old.problem assumed values

-- there is no model, or there was no memory
abbrev pub IsEmpty : Result Several Halt → Type 0
IsEmpty (Ok m) = (m.found ≡ []) × (m.complete ≡ true)
IsEmpty (Err Spent) = ⊥
IsEmpty (Err Memory) = Unit {0}

-- that there is no model, which a kept core shows, is returned at once
pub record IsEmptyAtOnce (old new : SolveState) (result : Result Several Halt) : Type 0 where
  pub answer : IsEmpty result
  pub learnt : new.learnt ≡ old.learnt

-- these models were found, and exclusions of them are in force under selectors that stand after what is assumed
pub record Gathers (assumed : List Lit) (n : ℕ) (old new : SolveState) (ls : List Lit) (vs : List (List Bool))
    : Type 0 where
  pub problem : new.problem ≡ with_exclusions old.problem vs
  pub additions : new.additions ≡ old.additions ++ map Exclusion vs
  pub free : new.free ≡ old.free + length vs
  pub lits : ls ≡ assumed ++ exclusion_selectors old.problem vs
  pub selectors : All (IsSelector new.problem) (exclusion_selectors old.problem vs)
  pub most : length vs ≤ n
  pub models : AreModels old.problem assumed vs

-- whether they are all, and what shows that there is none
pub record Ends (p : ProblemState) (assumed : List Lit) (n : ℕ) (cores : List (List Lit)) (vs : List (List Bool))
    (complete : Bool) : Type 0 where
  pub ends : EndsAt p assumed n vs complete
  pub shown : vs ≡ [] → complete ≡ true → HasCoreWithin cores assumed

-- they are all, or there was no memory
abbrev pub IsAll : Result Bool Halt → Type 0
IsAll (Ok complete) = complete ≡ true
IsAll (Err Spent) = ⊥
IsAll (Err Memory) = Unit {0}

-- that there is none is returned at once
pub record IsAllAtOnce (old new : SolveState) (vs : List (List Bool)) (result : Result Bool Halt) : Type 0 where
  pub none : vs ≡ []
  pub answer : IsAll result
  pub learnt : new.learnt ≡ old.learnt
