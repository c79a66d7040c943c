-- How a solver grows.
use Rattle.std.specs.Prelude.{◌≡◌, ℕ, ◌+◌, ◌-◌, ◌<◌, ◌≤◌, Bool, true, false, List, [], ◌∷◌, ◌++◌, length, slice_get}
use Rattle.std.specs.Prelude.{All, Contains, Option, Some, None}
use Rattle.kb_logic.specs.declared.elements.ExtInt.{ExtInt}
use Rattle.kb_logic.specs.Denotations.{Denotation, undefined}
use Rattle.lit_core.specs.declared.literals.Lit.{Lit}
use Rattle.ground_core.specs.declared.growing.Addition.{Addition}
use Rattle.ground_core.specs.declared.growing.Addition.TheVariants.{Bound, Exclusion}
use Rattle.ground_core.specs.declared.parts.Gate.{Gate}
use Rattle.ground_core.specs.declared.parts.Part.{Part}
use Rattle.ground_core.specs.declared.parts.AggCon.{AggCon}
use Rattle.ground_core.specs.declared.parts.GroundTerm.{GroundTerm}
use Rattle.ground_core.specs.declared.parts.TermBound.{TermBound}
use Rattle.ground_core.specs.Problems.{ProblemState, IsLitOf}
use Rattle.ground_core.specs.Meaning.{Satisfies, term_value, denotation_of_bound}
use Rattle.ground_core.specs.More.{Agree}
use Rattle.ground_core.specs.Growth.{with_bound, with_exclusion, retiring}
use Rattle.ground_core.specs.Solving.{SolveState}

-- the value of the term, if there is one
abbrev pub value_of_term : Option GroundTerm → (ℕ → Bool) → Denotation
value_of_term None v = undefined
value_of_term (Some t) v = term_value v t

-- the value of the term at this place
abbrev pub value_at : ProblemState → ℕ → (ℕ → Bool) → Denotation
value_at p term v = value_of_term (slice_get p.terms term) v

-- the number is the value of the term at this place
abbrev pub HasValue : ProblemState → ℕ → (ℕ → Bool) → ExtInt → Type 0
HasValue p term v n = value_at p term v ≡ denotation_of_bound n

-- the solver of another problem, which has one more variable
abbrev pub with_addition : SolveState → ProblemState → Addition → SolveState
with_addition s q a = record {
  problem = q;
  learnt = s.learnt;
  moments = s.moments;
  cores = s.cores;
  free = s.free + 1;
  searches = s.searches;
  additions = s.additions ++ a ∷ [];
}

-- with one more bound
abbrev pub bounded : SolveState → ℕ → ExtInt → SolveState
bounded s term below = with_addition s (with_bound s.problem term below) (Bound term below)

-- with one more exclusion
abbrev pub excluded : SolveState → List Bool → SolveState
excluded s values = with_addition s (with_exclusion s.problem values) (Exclusion values)

-- with one more retired selector
abbrev pub with_retired : ProblemState → Lit → ProblemState
with_retired p l = retiring p (p.retired ++ l ∷ [])

abbrev pub retired : SolveState → Lit → SolveState
retired s l = record {
  problem = with_retired s.problem l;
  learnt = s.learnt;
  moments = s.moments;
  cores = s.cores;
  free = s.free - 1;
  searches = s.searches;
  additions = s.additions;
}

-- the literal is of another variable
abbrev pub IsApart : Lit → Lit → Type 0
IsApart l k = k.var.0 ≡ l.var.0 → ⊥

-- the positive literal of a variable that no ground atom, gate, sum or term has, that clauses have only negated, and
-- bounds only as what they are under
pub record IsSelector (p : ProblemState) (l : Lit) : Type 0 where
  pub positive : l.positive ≡ true
  pub within : IsLitOf p.vars l
  pub atoms : length p.atoms < l.var.0
  pub gates : All (λ (g : Gate). IsApart l g.out × All (IsApart l) g.parts) p.gates
  pub clauses : All (λ (c : List Lit). Contains c l → ⊥) p.clauses
  pub sums : All (λ (s : AggCon). IsApart l s.out × All (λ (t : Part). IsApart l t.lit) s.parts) p.sums
  pub terms : All (λ (t : GroundTerm). All (λ (u : Part). IsApart l u.lit) t.parts) p.terms
  pub bounds : All (λ (b : TermBound). b.out.var.0 ≡ l.var.0 → b.out ≡ l) p.bounds

-- the variables after the first m are false, up to n
abbrev pub AreFalse : ℕ → ℕ → (ℕ → Bool) → Type 0
AreFalse m n v = (k : ℕ) → m < k → k ≤ n → v k ≡ false

-- each valuation of p extends to one of q in which what is new is false, and each of q is one of p
pub record Conserves (p q : ProblemState) : Type 0 where
  pub grows : p.vars ≤ q.vars
  pub atoms : q.atoms ≡ p.atoms
  pub terms : q.terms ≡ p.terms
  pub restricts : (v : ℕ → Bool) → Satisfies q v → Satisfies p v
  pub extends : (v : ℕ → Bool) → Satisfies p v → (w : ℕ → Bool) × Agree p.vars v w × AreFalse p.vars q.vars w
      × Satisfies q w
