-- Which valuations satisfy a ground problem.
use Rattle.std.specs.Prelude.{◌≡◌, ℕ, ◌^◌, ℤ, pos, neg_ℤ, ◌+ℤ◌, ◌≤ℤ◌, Bool, true, false, List, All, IfSome, map, filter}
use Rattle.std.specs.Prelude.{slice_get}
use Rattle.std.specs.List.{list_all, list_any}
use Rattle.kb_logic.specs.declared.elements.ExtInt.{ExtInt}
use Rattle.kb_logic.specs.declared.elements.ExtInt.TheVariants.{NegInf, Num, PosInf}
use Rattle.kb_logic.specs.declared.syntax.AggKind.{AggKind}
use Rattle.kb_logic.specs.declared.syntax.Cmp.TheVariants as cmp
use Rattle.kb_logic.specs.Denotations.{Denotation, number, minus_infinity, plus_infinity, undefined, named}
use Rattle.kb_logic.specs.Denotations.{aggregate_value, compared}
pub use Rattle.kb_logic.specs.Denotations.{denotation_of_bound}
use Rattle.lit_core.specs.declared.literals.Lit.{Lit}
use Rattle.lit_core.specs.Literals.{literal_value}
use Rattle.lit_core.specs.Truth.{IsSatisfied}
use Rattle.ground_core.specs.declared.parts.Gate.{Gate}
use Rattle.ground_core.specs.declared.parts.Part.{Part}
use Rattle.ground_core.specs.declared.parts.AggCon.{AggCon}
use Rattle.ground_core.specs.declared.parts.GroundTerm.{GroundTerm}
use Rattle.ground_core.specs.declared.parts.TermBound.{TermBound}
use Rattle.ground_core.specs.Problems.{ProblemState}

-- whether all of the literals are true, or whether any is
abbrev pub joined : Bool → (ℕ → Bool) → List Lit → Bool
joined true v ls = list_all (literal_value v) ls
joined false v ls = list_any (literal_value v) ls

-- a gate's output has the value that its parts have together
abbrev pub GateHolds : (ℕ → Bool) → Gate → Type 0
GateHolds v g = literal_value v g.out ≡ joined g.all v g.parts

-- the weights of the parts whose literals are true
abbrev pub weights_of : (ℕ → Bool) → List Part → List Denotation
weights_of v ps = map (λ (p : Part). number p.weight) (filter (λ (p : Part). literal_value v p.lit) ps)

-- their number, their sum, the least or the greatest of them
abbrev pub parts_value : (ℕ → Bool) → AggKind → List Part → Denotation
parts_value v kind ps = aggregate_value kind (weights_of v ps)

-- a constraint's output is true exactly where the value of its parts is at least its bound
abbrev pub SumHolds : (ℕ → Bool) → AggCon → Type 0
SumHolds v s = literal_value v s.out ≡ compared cmp.Ge (parts_value v s.kind s.parts) (denotation_of_bound s.least)

-- a number more, where there is a number
abbrev pub shifted : ℤ → Denotation → Denotation
shifted base (number z) = number (base +ℤ z)
shifted base (named n) = named n
shifted base minus_infinity = minus_infinity
shifted base plus_infinity = plus_infinity
shifted base undefined = undefined

-- the value of a ground term
abbrev pub term_value : (ℕ → Bool) → GroundTerm → Denotation
term_value v t = shifted t.base (parts_value v t.kind t.parts)

-- from -10^15 to 10^15, or infinite
abbrev pub IsInRange : Denotation → Type 0
IsInRange (number z) = (neg_ℤ (pos (10 ^ 15)) ≤ℤ z) × (z ≤ℤ pos (10 ^ 15))
IsInRange minus_infinity = Unit {0}
IsInRange plus_infinity = Unit {0}
IsInRange (named n) = ⊥
IsInRange undefined = ⊥

-- where a bound's output is true, its term is below the number
abbrev pub BoundHolds : (ℕ → Bool) → List GroundTerm → TermBound → Type 0
BoundHolds v terms b = literal_value v b.out ≡ true → IfSome (slice_get terms b.term)
    (λ t. compared cmp.Lt (term_value v t) (denotation_of_bound b.below) ≡ true)

-- every one of these literals is false
abbrev pub AreAllFalse : (ℕ → Bool) → List Lit → Type 0
AreAllFalse v ls = All (λ l. literal_value v l ≡ false) ls

-- all that is said holds, and the retired selectors are false
pub record Satisfies (p : ProblemState) (v : ℕ → Bool) : Type 0 where
  pub gates : All (GateHolds v) p.gates
  pub clauses : All (IsSatisfied v) p.clauses
  pub sums : All (SumHolds v) p.sums
  pub bounds : All (BoundHolds v p.terms) p.bounds
  pub retired : AreAllFalse v p.retired

-- every one of these literals is true
abbrev pub MakesTrue : (ℕ → Bool) → List Lit → Type 0
MakesTrue v ls = All (λ l. literal_value v l ≡ true) ls

-- no valuation that satisfies the problem makes all of these literals true
abbrev pub RefutesAll : ProblemState → List Lit → Type 0
RefutesAll p ls = (v : ℕ → Bool) → Satisfies p v → MakesTrue v ls → ⊥

-- in every valuation that satisfies the problem each of its terms has a value from -10^15 to 10^15, or an infinite one
abbrev pub HasTermsInRange : ProblemState → Type 0
HasTermsInRange p = (v : ℕ → Bool) → Satisfies p v → All (λ t. IsInRange (term_value v t)) p.terms
