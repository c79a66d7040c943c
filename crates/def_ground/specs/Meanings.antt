-- What a problem that grew says, beside what it said.
use Rattle.std.specs.Prelude.{◌≡◌, ℕ, ◌+◌, ◌*◌, ◌<◌, ◌≤◌, List, [], ◌∷◌, length, Bool, true, not, if◌then◌else◌}
use Rattle.std.specs.Prelude.{Option, Some, None, IsNone}
use Rattle.std.specs.List.{list_all}
use Rattle.kb_logic.specs.Bounds.{value_type_of}
use Rattle.lit_core.specs.declared.literals.Lit.{Lit}
use Rattle.lit_core.specs.Literals.{literal_value}
use Rattle.ground_core.specs.Problems.{ProblemState, IsProblem, AreLitsOf}
use Rattle.ground_core.specs.Meaning.{Satisfies}
use Rattle.ground_core.specs.More.{Agree, DefinesMore}
use Rattle.term_values.specs.GroundBases.{GroundBase, structure_of, tuples_at, values_at, first_var, IsOver}
use Rattle.def_ground.specs.declared.answers.Answer.{Answer}
use Rattle.def_ground.specs.Answers.{answer_value, AnswerWithin}
use Rattle.def_ground.specs.Cases.{Case, side_value}

-- q defines more variables than p, and in each valuation that satisfies it the answer has the value V
pub record Means (p q : ProblemState) (a : Answer) (V : (ℕ → Bool) → Bool) : Type 0 where
  pub fine : IsProblem q
  pub more : DefinesMore p q
  pub within : AnswerWithin q.vars a
  pub right : (v : ℕ → Bool) → Satisfies q v → answer_value v a ≡ V v

-- q says more than p: V, of p's variables, and it defines its own
pub record AssertsMore (p q : ProblemState) (V : (ℕ → Bool) → Bool) : Type 0 where
  pub fine : IsProblem q
  pub grows : p.vars ≤ q.vars
  pub gives : (v : ℕ → Bool) → Satisfies q v → Satisfies p v × (V v ≡ true)
  pub extends : (v : ℕ → Bool) → Satisfies p v → V v ≡ true → (w : ℕ → Bool) × Agree p.vars v w × Satisfies q w
  pub unique : (v w : ℕ → Bool) → Satisfies q v → Satisfies q w → Agree p.vars v w → Agree q.vars v w

-- each valuation that satisfies the problem is one of the ground atoms of a structure with what is known
abbrev pub HasAtoms : GroundBase → ProblemState → Type 0
HasAtoms b p = (v : ℕ → Bool) → Satisfies p v → IsOver b v

-- the ground atoms have variables of the problem, and their values alone make the structure
pub record HasRoom (b : GroundBase) (p : ProblemState) : Type 0 where
  pub same : (v w : ℕ → Bool) → Agree p.vars v w → structure_of b v ≡ structure_of b w
  pub predicates : (s i : ℕ) → IsNone (value_type_of b.vocabulary s) → i < length (tuples_at b s)
      → first_var b s + i ≤ p.vars
  pub functions :
      (s i j : ℕ) → i < length (tuples_at b s) → j < length (values_at b s)
      → first_var b s + i * length (values_at b s) + j ≤ p.vars

-- the cases whose guards are true
abbrev pub selected_cases : (ℕ → Bool) → List Case → List Case
selected_cases v [] = []
selected_cases v (c ∷ cs) = if list_all (literal_value v) c.guards then c ∷ selected_cases v cs else selected_cases v cs

-- the side's literals are over the first n variables
abbrev pub SideWithin : ℕ → Option (List Lit) → Type 0
SideWithin n None = Unit {0}
SideWithin n (Some ls) = AreLitsOf n ls

-- so are all literals of the case
pub record IsCaseOf (n : ℕ) (c : Case) : Type 0 where
  pub guards : AreLitsOf n c.guards
  pub yes : SideWithin n c.yes
  pub no : SideWithin n c.no

-- exactly one case has true guards; it is true where V is, and false where V is not
pub record CasesSay (v : ℕ → Bool) (cs : List Case) (V : Bool) : Type 0 where
  pub case : Case
  pub one : selected_cases v cs ≡ case ∷ []
  pub yes : side_value v case.yes ≡ V
  pub no : side_value v case.no ≡ not V
