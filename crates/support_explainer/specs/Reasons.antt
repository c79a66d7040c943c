-- Why no valuation is left, or why a literal is true in all that are left.
use Rattle.std.specs.Prelude.{◌≡◌, ℕ, zero, suc, ◌<◌, Bool, false, Option, Some, None, Result, Ok, Err, List, [], ◌∷◌}
use Rattle.std.specs.Prelude.{◌++◌, length}
pub use Rattle.kb_logic.specs.Lists.{without_item}
use Rattle.lit_core.specs.declared.literals.Lit.{Lit}
use Rattle.lit_core.specs.Literals.{valuation, literal_value, negated}
use Rattle.ground_core.specs.declared.solving.Halt.{Halt}
use Rattle.ground_core.specs.declared.solving.Halt.TheVariants.{Spent, Memory}
use Rattle.ground_core.specs.Problems.{ProblemState}
use Rattle.ground_core.specs.Meaning.{Satisfies, MakesTrue, RefutesAll}
use Rattle.ground_core.specs.Solving.{SolveState, IsSublist, HasCoreWithin}
use Rattle.model_search.specs.Models.{IsConsistent, IsRefuted, IsLeft}
use Rattle.support_explainer.specs.declared.reason.Support.{Support}
use Rattle.support_explainer.specs.declared.reason.Support.TheVariants.{Free, Inconsistent, By}

-- the literals are consistent, or some of them are refuted
abbrev pub FindsCore : ProblemState → List Lit → List (List Lit) → Option (List Lit) → Type 0
FindsCore p ls cores None = IsConsistent p ls
FindsCore p ls cores (Some core) = IsSublist core ls × IsRefuted p cores core

-- the items without this one are refuted together with the last ones, or they are not
abbrev pub IsToldAt : ProblemState → List Lit → List Lit → ℕ → List (List Lit) → Option (List Lit) → Type 0
IsToldAt p items last k cores None = IsConsistent p (without_item items k ++ last)
IsToldAt p items last k cores (Some fewer) = (fewer ≡ without_item items k) × IsRefuted p cores (fewer ++ last)

-- the items are refuted together with the last literals, and without any one of them they are not
pub record IsIrreducible (p : ProblemState) (cores : List (List Lit)) (last items : List Lit) : Type 0 where
  pub refuted : IsRefuted p cores (items ++ last)
  pub needed : (k : ℕ) → k < length items → IsConsistent p (without_item items k ++ last)

-- what is assumed is consistent, or some of it is refuted, irreducibly
abbrev pub FindsConflict : ProblemState → List Lit → List (List Lit) → Option (List Lit) → Type 0
FindsConflict p assumed cores None = IsConsistent p assumed
FindsConflict p assumed cores (Some items) = IsSublist items assumed × IsIrreducible p cores [] items

-- some values make the target false, or what is assumed is refuted, or some of it is with the target's negation,
-- irreducibly
abbrev pub FindsSupport : ProblemState → List Lit → Lit → List (List Lit) → Support → Type 0
FindsSupport p assumed target cores (Free values) =
    (p.vars < length values) × Satisfies p (valuation values) × MakesTrue (valuation values) assumed
    × (literal_value (valuation values) target ≡ false)
FindsSupport p assumed target cores Inconsistent = IsRefuted p cores assumed
FindsSupport p assumed target cores (By items) = IsConsistent p assumed × IsSublist items assumed
    × IsIrreducible p cores (negated target ∷ []) items

-- what is assumed is refuted, or there was no memory
abbrev pub IsNoReason : Result Support Halt → Type 0
IsNoReason (Ok (Free values)) = ⊥
IsNoReason (Ok Inconsistent) = Unit {0}
IsNoReason (Ok (By items)) = ⊥
IsNoReason (Err Spent) = ⊥
IsNoReason (Err Memory) = Unit {0}

-- assumptions that a kept core refutes are refused at once
pub record IsInconsistentAtOnce (old new : SolveState) (result : Result Support Halt) : Type 0 where
  pub answer : IsNoReason result
  pub learnt : new.learnt ≡ old.learnt
