-- Atoms, comparisons and equivalences that are asserted: each case is a clause, and no variable is made for the whole.
use Rattle.std.specs.Prelude.{List, [], ◌∷◌, ◌++◌, map, Bool, true, false, if◌then◌else◌, Option, Some, None}
use Rattle.kb_logic.specs.declared.syntax.Cmp.{Cmp}
use Rattle.kb_logic.specs.Denotations.{Denotation}
use Rattle.lit_core.specs.declared.literals.Lit.{Lit}
use Rattle.lit_core.specs.Literals.{negated}
use Rattle.ground_core.specs.Problems.{ProblemState}
use Rattle.ground_core.specs.Growth.{with_clause}
use Rattle.def_ground.specs.declared.answers.Answer.{Answer}
use Rattle.def_ground.specs.declared.answers.Answer.TheVariants.{Constant, Literal}
use Rattle.def_ground.specs.Answers.{GroundResult}
use Rattle.def_ground.specs.Cases.{Case, with_clauses, clauses_saying, answer_without}
use Rattle.def_ground.specs.Comparisons.{guard_answers, comparison_case}
use Rattle.def_ground.specs.Forms.{settles, with_answer, signed_result, same_of}

-- the clause of the literals and the answer
abbrev pub or_clause : List Lit → GroundResult → ProblemState
or_clause ls g = if settles false g.answer then g.problem else with_clause g.problem (with_answer g.answer ls)

-- the answer's clause, or else that of each case
abbrev pub answer_or_clauses : Option Answer → Bool → List Lit → List Case → ProblemState → ProblemState
answer_or_clauses (Some a) sign ls cs p = or_clause ls (signed_result sign (record { answer = a; problem = p }))
answer_or_clauses None sign ls cs p = with_clauses p (clauses_saying sign ls cs)

-- the problem that also says: one of the literals is true, or what the cases say is, or where the sign is false it is
-- not
abbrev pub assert_cases : Bool → List Lit → List Case → ProblemState → ProblemState
assert_cases sign ls cs p = answer_or_clauses (answer_without cs) sign ls cs p

-- so for a comparison of two terms by their rows
abbrev pub assert_comparison : Bool → Cmp → List (List Lit × Denotation) → List (List Lit × Denotation) → List Lit
    → ProblemState → ProblemState
assert_comparison sign c [] bs ls p =
    or_clause ls (signed_result sign (record { answer = Constant true; problem = p }))
assert_comparison sign c (a ∷ as') bs ls p =
    let s = guard_answers bs p in
    assert_cases sign ls (map (comparison_case c s.rows) (a ∷ as')) s.problem

-- two literals have one value, or one of the others is true
abbrev pub alike_clauses : List Lit → Lit → Lit → List (List Lit)
alike_clauses ls l m = (ls ++ negated l ∷ m ∷ []) ∷ (ls ++ l ∷ negated m ∷ []) ∷ []

-- the problem that also says: one of the literals is true, or two answers have one value, or where the sign is false
-- two
abbrev pub assert_alike : Bool → Answer → Answer → List Lit → ProblemState → ProblemState
assert_alike sign (Constant c) y ls p = or_clause ls (signed_result sign (same_of (Constant c) y p))
assert_alike sign (Literal l) (Constant c) ls p = or_clause ls (signed_result sign (same_of (Literal l) (Constant c) p))
assert_alike true (Literal l) (Literal m) ls p = with_clauses p (alike_clauses ls l m)
assert_alike false (Literal l) (Literal m) ls p = with_clauses p (alike_clauses ls l (negated m))
