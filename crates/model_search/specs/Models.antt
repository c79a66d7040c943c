-- Valuations that satisfy a problem and make literals true.
use Rattle.std.specs.Prelude.{ℕ, ◌<◌, Bool, Option, Some, None, List, length}
use Rattle.lit_core.specs.declared.literals.Lit.{Lit}
use Rattle.lit_core.specs.Literals.{valuation}
use Rattle.ground_core.specs.Problems.{ProblemState}
use Rattle.ground_core.specs.Meaning.{Satisfies, MakesTrue, RefutesAll}
use Rattle.ground_core.specs.Solving.{HasCoreWithin}

-- a valuation satisfies the problem and makes the literals true
abbrev pub IsConsistent : ProblemState → List Lit → Type 0
IsConsistent p ls = (v : ℕ → Bool) × Satisfies p v × MakesTrue v ls

-- none does, which a kept core shows
abbrev pub IsRefuted : ProblemState → List (List Lit) → List Lit → Type 0
IsRefuted p cores ls = RefutesAll p ls × HasCoreWithin cores ls

-- these are values of all variables, which satisfy the problem and make the literals true
abbrev pub IsLeft : ProblemState → List Lit → List Bool → Type 0
IsLeft p ls values = (p.vars < length values) × Satisfies p (valuation values) × MakesTrue (valuation values) ls

-- the literals are refuted, or these are such values
abbrev pub FindsModel : ProblemState → List Lit → List (List Lit) → Option (List Bool) → Type 0
FindsModel p ls cores None = IsRefuted p cores ls
FindsModel p ls cores (Some values) = IsLeft p ls values
