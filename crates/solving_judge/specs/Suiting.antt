-- Values that suit a problem.
use Rattle.std.specs.Prelude.{◌≡◌, ◌<◌, ℕ, Bool, List, length, Option, Some, None}
use Rattle.lit_core.specs.Literals.{valuation}
use Rattle.ground_core.specs.Problems.{ProblemState}
use Rattle.ground_core.specs.Meaning.{Satisfies}

-- each variable of the problem has a value, and they satisfy it
abbrev pub Suits : ProblemState → List Bool → Type 0
Suits p values = (p.vars < length values) × Satisfies p (valuation values)

-- this is the problem's last variable, if the values suit it
abbrev pub IsLastIfSuited : ProblemState → List Bool → Option ℕ → Type 0
IsLastIfSuited p values None = Suits p values → ⊥
IsLastIfSuited p values (Some last) = Suits p values × (p.vars ≡ last)
