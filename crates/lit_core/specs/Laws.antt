-- Laws of refutation and of fresh clauses, which small public functions promise.
use Rattle.std.specs.Prelude.{◌≡◌, ℕ, Bool, false, Option, Some, None, List, All, Contains, ◌⊎◌}
use Rattle.lit_core.specs.declared.literals.Lit.{Lit}
use Rattle.lit_core.specs.Literals.{value_in}
use Rattle.lit_core.specs.Truth.{IsSatisfied, IsSettled}
use Rattle.lit_core.specs.Refutation.{FollowsInOrder}
use Rattle.lit_core.specs.Freshness.{FreshAgainst, IsFreshAt, StaysOpenAt}

-- a clause that follows from clauses in order is true wherever they are
abbrev pub RefutationIsSound : Type 0
RefutationIsSound = (v : ℕ → Bool) (c : List Lit) (clauses : List (List Lit)) → All (IsSatisfied v) clauses
    → FollowsInOrder c clauses → IsSatisfied v c

-- a clause is fresh at a literal exactly where unit propagation, begun with its others made false, leaves the literal
-- open
abbrev pub FreshnessIsClosure : Type 0
FreshnessIsClosure = (clauses : List (List Lit)) (c : List Lit) (l : Lit)
    → (IsFreshAt clauses c l → StaysOpenAt clauses c l) × (StaysOpenAt clauses c l → IsFreshAt clauses c l)

-- where no clause is false or unit, a clause that would be unit is fresh
abbrev pub QuietLeavesFresh : Type 0
QuietLeavesFresh = (a : List (Option Bool)) (clauses : List (List Lit)) (c : List Lit) (l : Lit)
    → All (IsSettled a) clauses → Contains c l → value_in a l ≡ None → All (λ m. (m ≡ l) ⊎ (value_in a m ≡ Some false))
    c → IsFreshAt clauses c l

-- a clause that is fresh against clauses is fresh against any of them
abbrev pub FreshAgainstFewer : Type 0
FreshAgainstFewer = (more fewer : List (List Lit)) (c : List Lit) → FreshAgainst more c
    → ((d : List Lit) → Contains fewer d → Contains more d) → FreshAgainst fewer c
