-- Literals that are true in all valuations left, found by searches.
use Rattle.std.specs.Prelude.{◌≡◌, ℕ, Bool, Option, Some, None, List, [], ◌∷◌, ◌++◌, All, Contains, flat_map, map}
use Rattle.std.specs.Prelude.{◌⊎◌}
use Rattle.kb_logic.specs.Lists.{IsSublist}
use Rattle.lit_core.specs.declared.literals.Lit.{Lit}
use Rattle.lit_core.specs.Literals.{negated}
use Rattle.ground_core.specs.Problems.{ProblemState}
use Rattle.ground_core.specs.Meaning.{Satisfies, MakesTrue, RefutesAll}
use Rattle.ground_core.specs.Solving.{HasCoreWithin}
use Rattle.consequences.specs.declared.kept.Kept.{Kept}
use Rattle.consequences.specs.Forced.{Forces, IsForced, IsFree}
use Rattle.kept_supports.specs.Supports.{kept_of}

-- each literal and its negation
abbrev pub both_signs : List Lit → List Lit
both_signs ls = flat_map (λ l. l ∷ negated l ∷ []) ls

-- exactly the asked literals that are true in all valuations left, in their order; and there is one
pub record AreForcedOf (p : ProblemState) (assumed ask ls : List Lit) : Type 0 where
  pub some : (v : ℕ → Bool) × Satisfies p v × MakesTrue v assumed
  pub order : IsSublist ls ask
  pub forced : All (Forces p assumed) ls
  pub others : All (λ l. Contains ls l ⊎ IsFree p assumed l) ask

-- no valuation is left, which a kept core shows, or these are forced
abbrev pub Finds : ProblemState → List Lit → List Lit → List (List Lit) → Option (List Lit) → Type 0
Finds p assumed ask cores None = RefutesAll p assumed × HasCoreWithin cores assumed
Finds p assumed ask cores (Some ls) = AreForcedOf p assumed ask ls

-- more literals are kept, of those that were asked, each forced by some of what was assumed
pub record AddsForced (p : ProblemState) (assumed ask : List Lit) (cores : List (List Lit)) (old new : List Kept)
    : Type 0 where
  pub more : List Kept
  pub kept : new ≡ old ++ more
  pub asked : IsSublist (map (λ (k : Kept). k.lit) more) ask
  pub forced : All (IsForced p assumed cores) more

-- these literals are those that are kept of both signs of the others
abbrev pub ListsKept : List Kept → List Lit → Option (List Lit) → Type 0
ListsKept ks ls None = Unit {0}
ListsKept ks ls (Some some) = some ≡ kept_of ks (both_signs ls)
