-- Exclusions of valuations, whose selectors are retired.
use Rattle.std.specs.Prelude.{◌≡◌, Bool, List, [], ◌∷◌, ◌++◌, map, All}
use Rattle.lit_core.specs.declared.literals.Lit.{Lit}
use Rattle.lit_core.specs.Literals.{valuation}
use Rattle.ground_core.specs.declared.growing.Addition.TheVariants.{Exclusion}
use Rattle.ground_core.specs.Problems.{ProblemState}
use Rattle.ground_core.specs.Growth.{with_exclusion, next_lit, retiring}
use Rattle.ground_core.specs.Laws.{Differs}
use Rattle.ground_core.specs.Solving.{SolveState}
use Rattle.model_search.specs.Models.{IsLeft}

-- the problem with these exclusions
abbrev pub with_exclusions : ProblemState → List (List Bool) → ProblemState
with_exclusions p [] = p
with_exclusions p (v ∷ vs) = with_exclusions (with_exclusion p v) vs

-- their selectors
abbrev pub exclusion_selectors : ProblemState → List (List Bool) → List Lit
exclusion_selectors p [] = []
exclusion_selectors p (v ∷ vs) = next_lit p ∷ exclusion_selectors (with_exclusion p v) vs

-- the problem with these exclusions, whose selectors are retired
abbrev pub with_past_exclusions : ProblemState → List (List Bool) → ProblemState
with_past_exclusions p vs = retiring (with_exclusions p vs) (p.retired ++ exclusion_selectors p vs)

-- nothing was added but these exclusions, and nothing retired but their selectors
pub record Excludes (vs : List (List Bool)) (old new : SolveState) : Type 0 where
  pub problem : new.problem ≡ with_past_exclusions old.problem vs
  pub additions : new.additions ≡ old.additions ++ map Exclusion vs
  pub free : new.free ≡ old.free

-- no two of these valuations have the same ground atoms
abbrev pub AreApart : ProblemState → List (List Bool) → Type 0
AreApart p [] = Unit {0}
AreApart p (v ∷ vs) = All (λ w. Differs p v (valuation w)) vs × AreApart p vs

-- valuations that satisfy the problem and make the literals true, no two of which have the same ground atoms
pub record AreModels (p : ProblemState) (assumed : List Lit) (vs : List (List Bool)) : Type 0 where
  pub left : All (IsLeft p assumed) vs
  pub apart : AreApart p vs
