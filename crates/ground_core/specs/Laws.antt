-- Laws of ground problems, which small public functions promise.
use Rattle.std.specs.Prelude.{◌≡◌, ◌↔◌, ◌+◌, ◌<◌, ◌≤◌, ℕ, Bool, true, false, not, List, [], All, Contains, length, Ok}
use Rattle.std.specs.List.{AllByRecursion}
use Rattle.kb_logic.specs.declared.elements.Elem.{Elem}
use Rattle.kb_logic.specs.declared.elements.ExtInt.{ExtInt}
use Rattle.kb_logic.specs.declared.syntax.Cmp.TheVariants as cmp
use Rattle.kb_logic.specs.declared.structures.Literal.{Literal}
use Rattle.kb_logic.specs.declared.vocabularies.Symbol.{Symbol}
use Rattle.kb_logic.specs.Structures.{IsDistinct}
use Rattle.kb_logic.specs.Denotations.{compared}
use Rattle.lit_core.specs.declared.literals.Lit.{Lit}
use Rattle.lit_core.specs.Freshness.{FreshAgainst}
use Rattle.lit_core.specs.Literals.{literal_value, negated, valuation}
use Rattle.lit_core.specs.Truth.{IsSatisfied}
use Rattle.ground_core.specs.declared.parts.Gate.{Gate}
use Rattle.ground_core.specs.Problems.{ProblemState, IsProblem, IsLitOf, AreLitsOf}
use Rattle.ground_core.specs.Meaning.{GateHolds, Satisfies, RefutesAll, AreAllFalse, denotation_of_bound}
use Rattle.ground_core.specs.Atoms.{ground_atoms, IsGroundAtom}
use Rattle.ground_core.specs.More.{Agree, DefinesMore}
use Rattle.ground_core.specs.GateClauses.{gate_clauses, clauses_of}
use Rattle.ground_core.specs.Growth.{with_clause, with_bound, with_exclusion, next_lit}
use Rattle.ground_core.specs.Growing.{value_at, Conserves, IsSelector, with_retired, bounded, excluded, retired}
use Rattle.ground_core.specs.Selectors.{AreSelectors}
use Rattle.ground_core.specs.Solving.{SolveState, IsKept, Answers, KeepsCores, HasCoreWithin}
use Rattle.ground_core.specs.Calls.{Keeps, Counts, Costs, GrowsByAdditions}
use Rattle.ground_core.specs.declared.solving.Budget.{Budget}
use Rattle.ground_core.specs.declared.solving.Verdict.TheVariants.{Unsat}

-- a gate's clauses hold exactly where the gate does
abbrev pub ClausesSayTheGate : Type 0
ClausesSayTheGate = (v : ℕ → Bool) (g : Gate) → (All (IsSatisfied v) (gate_clauses g) → GateHolds v g)
    × (GateHolds v g → All (IsSatisfied v) (gate_clauses g))

-- only the values of the problem's own variables matter
abbrev pub OnlyVariablesMatter : Type 0
OnlyVariablesMatter = (p : ProblemState) (v w : ℕ → Bool) → IsProblem p → Agree p.vars v w → Satisfies p v
    → Satisfies p w

-- what defines more in two steps defines more
abbrev pub MoreInTwoSteps : Type 0
MoreInTwoSteps = (p q r : ProblemState) → DefinesMore p q → DefinesMore q r → DefinesMore p r

-- a problem defines more than itself, in that nothing is new
abbrev pub MoreThanItself : Type 0
MoreThanItself = (p : ProblemState) → DefinesMore p p

-- one clause more is satisfied where the problem and the clause are
abbrev pub ClauseIsAdded : Type 0
ClauseIsAdded = (p : ProblemState) (c : List Lit) (v : ℕ → Bool)
    → (Satisfies (with_clause p c) v → Satisfies p v × IsSatisfied v c) × (Satisfies p v → IsSatisfied v c
    → Satisfies (with_clause p c) v)

-- a problem without sums and bounds is satisfied exactly where its clauses are and its retired selectors are false
abbrev pub ClausesSayTheProblem : Type 0
ClausesSayTheProblem = (p : ProblemState) (v : ℕ → Bool) → p.sums ≡ [] → p.bounds ≡ []
    → (All (IsSatisfied v) (clauses_of p) → AreAllFalse v p.retired → Satisfies p v)
    × (Satisfies p v → All (IsSatisfied v) (clauses_of p))

-- the clauses of a problem, with those of its gates, are over its variables
abbrev pub ClausesAreOfTheProblem : Type 0
ClausesAreOfTheProblem = (p : ProblemState) → IsProblem p → All (AreLitsOf p.vars) (clauses_of p)

-- each ground atom stands in their list, and nothing else does, each once where no domain has an element twice
abbrev pub EachAtomStandsOnce : Type 0
EachAtomStandsOnce =
    (symbols : List Symbol) (domains : List (List Elem)) → ((a : Literal) → Contains (ground_atoms symbols domains) a
    ↔ IsGroundAtom symbols domains a) × (AllByRecursion IsDistinct domains
    → IsDistinct (ground_atoms symbols domains))

-- under a bound exactly the valuations remain in which the term is below the number
pub record BoundSelects (p : ProblemState) (term : ℕ) (below : ExtInt) : Type 0 where
  pub means : (v : ℕ → Bool) → Satisfies (with_bound p term below) v → v (next_lit p).var.0 ≡ true
      → compared cmp.Lt (value_at p term v) (denotation_of_bound below) ≡ true
  pub extends : (v : ℕ → Bool) → Satisfies p v → compared cmp.Lt (value_at p term v) (denotation_of_bound below) ≡ true
      → (w : ℕ → Bool) × Agree p.vars v w × Satisfies (with_bound p term below) w × (w (next_lit p).var.0 ≡ true)

abbrev pub BoundsSelect : Type 0
BoundsSelect = (p : ProblemState) (term : ℕ) (below : ExtInt) → IsProblem p → term < length p.terms
    → BoundSelects p term below

-- a bound whose selector may be retired again says nothing of what was there
pub record BoundSaysNoMore (p q : ProblemState) (term : ℕ) (below : ExtInt) : Type 0 where
  pub added : Conserves p (with_bound q term below)
  pub selector : IsSelector (with_bound q term below) (next_lit q)
  pub retired : Conserves p (with_retired (with_bound q term below) (next_lit q))

abbrev pub BoundsSayNoMore : Type 0
BoundsSayNoMore = (p q : ProblemState) (term : ℕ) (below : ExtInt) → IsProblem q → Conserves p q → term < length q.terms
    → BoundSaysNoMore p q term below

-- a solver keeps its laws under a bound
abbrev pub BoundsAreKept : Type 0
BoundsAreKept = (s : SolveState) (term : ℕ) (below : ExtInt) → term < length s.problem.terms → IsKept s
    → IsKept (bounded s term below)

-- and under an exclusion
abbrev pub ExclusionsAreKept : Type 0
ExclusionsAreKept = (s : SolveState) (values : List Bool) → IsKept s → IsKept (excluded s values)

-- and where a selector is retired that was not
abbrev pub RetirementsAreKept : Type 0
RetirementsAreKept = (s : SolveState) (l : Lit) → IsLitOf s.problem.vars l → l.positive ≡ true
    → (Contains s.problem.retired l → ⊥) → IsKept s → IsKept (retired s l)

-- the second valuation is the first with this literal made false
pub record IsMadeFalse (l : Lit) (v w : ℕ → Bool) : Type 0 where
  pub made : literal_value w l ≡ false
  pub others : (k : ℕ) → (k ≡ l.var.0 → ⊥) → w k ≡ v k

-- with its selector retired a problem is satisfied where it was once the selector is made false, and only where it was
-- and the selector is false
pub record RetirementRestricts (p : ProblemState) (l : Lit) : Type 0 where
  pub extends : (v w : ℕ → Bool) → Satisfies p v → IsMadeFalse l v w → Satisfies (with_retired p l) w
  pub restricts : (v : ℕ → Bool) → Satisfies (with_retired p l) v → Satisfies p v × (literal_value v l ≡ false)

abbrev pub RetirementsRestrict : Type 0
RetirementsRestrict = (p : ProblemState) (l : Lit) → IsSelector p l → AreSelectors p.retired → RetirementRestricts p l

-- a ground atom has another value than these
abbrev pub Differs : ProblemState → List Bool → (ℕ → Bool) → Type 0
Differs p values v = (k : ℕ) × (1 ≤ k) × (k ≤ length p.atoms) × (v k ≡ not (valuation values k))

-- under an exclusion exactly the valuations remain that differ somewhere; it says nothing else, also when its selector
-- is retired
pub record ExclusionSelects (p q : ProblemState) (values : List Bool) : Type 0 where
  pub means : (v : ℕ → Bool) → Satisfies (with_exclusion q values) v → v (next_lit q).var.0 ≡ true → Differs q values v
  pub extends : (v : ℕ → Bool) → Satisfies q v → Differs q values v → (w : ℕ → Bool) × Agree q.vars v w × Satisfies
      (with_exclusion q values) w × (w (next_lit q).var.0 ≡ true)
  pub added : Conserves p (with_exclusion q values)
  pub selector : IsSelector (with_exclusion q values) (next_lit q)
  pub retired : Conserves p (with_retired (with_exclusion q values) (next_lit q))

abbrev pub ExclusionsSelect : Type 0
ExclusionsSelect = (p q : ProblemState) (values : List Bool) → IsProblem q → Conserves p q → ExclusionSelects p q values

-- what is added under selectors changes no answer: the same literals are refuted
abbrev pub AdditionsChangeNoAnswer : Type 0
AdditionsChangeNoAnswer = (p q : ProblemState) (ls : List Lit) → Conserves p q → AreLitsOf p.vars ls
    → (RefutesAll p ls ↔ RefutesAll q ls)

-- a fresh clause has no literal together with its negation
abbrev pub FreshClausesAreNoTautologies : Type 0
FreshClausesAreNoTautologies = (cs : List (List Lit)) (c : List Lit) (l : Lit) → FreshAgainst cs c → Contains c l
    → Contains c (negated l) → ⊥

-- what each of two calls keeps, both keep, and their counts add up
abbrev pub CallsAddUp : Type 0
CallsAddUp =
    (r s t : SolveState) (a b c : Budget) → (Keeps r s a b → Keeps s t b c → Keeps r t a c)
    × ((top k j : ℕ) → Counts top k r s a b → Counts top j s t b c → Counts top (k + j) r t a c)

-- searches that are counted with one more free variable cost what that many cost
abbrev pub CountsAreCosts : Type 0
CountsAreCosts = (k m : ℕ) (s t : SolveState) (a b : Budget) → 1 ≤ k → k ≤ m → a.spent ≤ b.spent
    → Counts (s.free + 1) k s t a b → Costs m s t a b

-- what an answer refutes is refuted, and has a kept core among it
abbrev pub RefusalsAreKept : Type 0
RefusalsAreKept =
    (p : ProblemState) (before after : List (List Lit)) (core ls : List Lit) → Answers p ls (Unsat core)
    → KeepsCores before (Ok (Unsat core)) after → RefutesAll p ls × HasCoreWithin after ls

-- a bound whose selector is retired at once is such an addition
abbrev pub RetiredBoundsAreAdditions : Type 0
RetiredBoundsAreAdditions = (p q : ProblemState) (term : ℕ) (below : ExtInt) → IsProblem q → GrowsByAdditions p q
    → GrowsByAdditions p (with_retired (with_bound q term below) (next_lit q))
