-- What a formula comes to under an assignment: a constant, or a literal that the problem defines.
use Rattle.std.specs.Prelude.{◌≡◌, ◌≤◌, ℕ, List, [], ◌∷◌, Bool, not}
use Rattle.lit_core.specs.declared.literals.Lit.{Lit}
use Rattle.lit_core.specs.Literals.{literal_value, negated}
use Rattle.ground_core.specs.Problems.{ProblemState, IsLitOf}
use Rattle.ground_core.specs.Growth.{next_lit, with_gate}
use Rattle.def_ground.specs.declared.answers.Answer.{Answer}
use Rattle.def_ground.specs.declared.answers.Answer.TheVariants.{Constant, Literal}

-- an answer, and the problem with what defines it
pub record GroundResult : Type 0 where
  pub answer : Answer
  pub problem : ProblemState

-- the answer's value under a valuation
abbrev pub answer_value : (ℕ → Bool) → Answer → Bool
answer_value v (Constant c) = c
answer_value v (Literal l) = literal_value v l

-- the answer's literal, if it is one, is over the first n variables
abbrev pub AnswerWithin : ℕ → Answer → Type 0
AnswerWithin n (Constant c) = Unit {0}
AnswerWithin n (Literal l) = IsLitOf n l

-- the answer with the other value
abbrev pub opposite_of : Answer → Answer
opposite_of (Constant c) = Constant (not c)
opposite_of (Literal l) = Literal (negated l)

-- all, or any, of the literals: one alone is its own answer, two and more are a gate
abbrev pub gate_of : Bool → List Lit → ProblemState → GroundResult
gate_of all [] p = record { answer = Constant all; problem = p }
gate_of all (l ∷ []) p = record { answer = Literal l; problem = p }
gate_of all (l ∷ m ∷ ls) p = record { answer = Literal (next_lit p); problem = with_gate p all (l ∷ m ∷ ls) }

-- the call came to what the definition says: its answer, and its problem
abbrev pub Makes : GroundResult → Answer → ProblemState → Type 0
Makes g a q = (a ≡ g.answer) × (q ≡ g.problem)

-- the problem grew, and the answer is over its variables
pub record Grows (p q : ProblemState) (a : Answer) : Type 0 where
  pub vars : p.vars ≤ q.vars
  pub within : AnswerWithin q.vars a
