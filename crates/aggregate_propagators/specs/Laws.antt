-- Laws of intervals.
use Rattle.std.specs.Prelude.{◌≡◌, ℕ, Bool, true, List, nat_eq, [], ◌∷◌, Option, Some, None, not, ◌⊎◌, false, All}
use Rattle.std.specs.List.{AllByRecursion}
use Rattle.kb_logic.specs.declared.elements.ExtInt.{ExtInt}
use Rattle.kb_logic.specs.declared.syntax.AggKind.{AggKind}
use Rattle.lit_core.specs.declared.literals.Lit.{Lit}
use Rattle.lit_core.specs.Literals.{literal_value}
use Rattle.lit_core.specs.Truth.{IsSatisfied}
use Rattle.ground_core.specs.declared.parts.Part.{Part}
use Rattle.ground_core.specs.declared.parts.AggCon.{AggCon}
use Rattle.ground_core.specs.Meaning.{SumHolds, parts_value}
use Rattle.ground_core.specs.Intervals.{known_of, changed, value_where, reaches, contradicts, refuting}
use Rattle.ground_core.specs.Intervals.{Extends, least_possible, greatest_possible}
use Rattle.aggregate_propagators.specs.Reasons.{clause_of}
use Rattle.aggregate_propagators.specs.Totals.{total, goal_of, with_side, met}

-- where the interval contradicts the result as soon as the clause is false, the clause is true wherever the constraint
-- holds
abbrev pub ContradictionIsSound : Type 0
ContradictionIsSound = (c : AggCon) (cl : List Lit) (v : ℕ → Bool) → contradicts (refuting cl) c ≡ true → SumHolds v c
    → IsSatisfied v cl

-- the same of a constraint of which only this much holds: where its result is false, its parts are below the bound. It
-- is
-- what a bound on a term says, whose selector is the negation of the result
abbrev pub BoundContradictionIsSound : Type 0
BoundContradictionIsSound = (c : AggCon) (cl : List Lit) (v : ℕ → Bool) → contradicts (refuting cl) c ≡ true
    → known_of (refuting cl) c.out ≡ Some false
    → (literal_value v c.out ≡ false → reaches c.least (parts_value v c.kind c.parts) ≡ false) → IsSatisfied v cl

-- whether a choice of parts reaches the bound is a question on one sum, for all four kinds
abbrev pub ReachesByTotals : Type 0
ReachesByTotals = (f : Part → Bool) (k : AggKind) (least : ExtInt) (ps : List Part)
    → reaches least (value_where f k ps) ≡ with_side k (met (goal_of k least) (total f k least ps))

-- no variable stands in two parts
abbrev pub HasVarsOnce : List Part → Type 0
HasVarsOnce [] = Unit {0}
HasVarsOnce (p ∷ ps) = AllByRecursion (λ (q : Part). nat_eq p.lit.var.0 q.lit.var.0 ≡ false) ps × HasVarsOnce ps

-- where no variable stands in two parts, both ends are values of the parts in valuations that extend the assignment
abbrev pub EndsAreAttained : Type 0
EndsAreAttained = (a : ℕ → Option Bool) (k : AggKind) (ps : List Part) → HasVarsOnce ps
    → ((v : ℕ → Bool) × Extends a v × (parts_value v k ps ≡ least_possible a k ps))
    × ((v : ℕ → Bool) × Extends a v × (parts_value v k ps ≡ greatest_possible a k ps))

-- where the interval contradicts the result, the clause is false, and it alone makes the contradiction
abbrev pub ReasonsSuffice : Type 0
ReasonsSuffice = (a : ℕ → Option Bool) (c : AggCon) → contradicts a c ≡ true
    → All (λ l. known_of a l ≡ Some false) (clause_of a c) × (contradicts (refuting (clause_of a c)) c ≡ true)

-- where a literal given a value makes a contradiction, the clause has no other unassigned literal than the one that is
-- false then
abbrev pub DecidedIsUnit : Type 0
DecidedIsUnit = (a : ℕ → Option Bool) (c : AggCon) (l : Lit) (s : Bool) → known_of a l ≡ None
    → contradicts (changed a l.var.0 s) c ≡ true
    → All (λ (m : Lit). (m ≡ record { var = l.var; positive = not s }) ⊎ (known_of a m ≡ Some false))
    (clause_of (changed a l.var.0 s) c)

-- each literal of the constraint has a value, which is that under the valuation
abbrev pub AreDecidedAs : (ℕ → Option Bool) → (ℕ → Bool) → AggCon → Type 0
AreDecidedAs a v c = (known_of a c.out ≡ Some (literal_value v c.out)) × All
    (λ (p : Part). known_of a p.lit ≡ Some (literal_value v p.lit)) c.parts

-- where they have values and nothing is contradicted, the constraint holds
abbrev pub QuietIsEnough : Type 0
QuietIsEnough = (a : ℕ → Option Bool) (v : ℕ → Bool) (c : AggCon) → AreDecidedAs a v c → contradicts a c ≡ false
    → SumHolds v c
