-- Comparisons of a minimum or a maximum with the rows of other terms: a threshold for each row.
use Rattle.std.specs.Prelude.{List, [], ◌∷◌, ◌++◌, fold, false, true}
use Rattle.kb_logic.specs.declared.syntax.AggKind.{AggKind}
use Rattle.kb_logic.specs.declared.syntax.Cmp.{Cmp}
use Rattle.kb_logic.specs.declared.syntax.Cmp.TheVariants as cmp
use Rattle.kb_logic.specs.Denotations.{Denotation, number, named, minus_infinity, plus_infinity, undefined}
use Rattle.lit_core.specs.declared.literals.Lit.{Lit}
use Rattle.ground_core.specs.Problems.{ProblemState}
use Rattle.def_ground.specs.declared.answers.Answer.TheVariants.{Constant}
use Rattle.def_ground.specs.Answers.{GroundResult}
use Rattle.def_ground.specs.Cases.{Case, case_of, cases_of}
use Rattle.def_ground.specs.Linear.{Linear, with_problem, compared_at}

-- the cases of the rows so far
pub record CasesSoFar : Type 0 where
  pub cases : List Case
  pub problem : ProblemState

abbrev pub with_case : List Lit → GroundResult → CasesSoFar → CasesSoFar
with_case guards g cs = record { cases = cs.cases ++ case_of guards g.answer ∷ []; problem = g.problem }

-- how the aggregate compares with the value of a row
abbrev pub compared_with_row : AggKind → Cmp → Linear → Denotation → GroundResult
compared_with_row k c st (number d) = compared_at k c st d
compared_with_row k c st (named n) = record { answer = Constant false; problem = st.problem }
compared_with_row k c st minus_infinity = record { answer = Constant false; problem = st.problem }
compared_with_row k c st plus_infinity = record { answer = Constant false; problem = st.problem }
compared_with_row k c st undefined = record { answer = Constant false; problem = st.problem }

abbrev pub threshold_step : AggKind → Cmp → Linear → CasesSoFar → List Lit × Denotation → CasesSoFar
threshold_step k c st cs r = with_case r.0 (compared_with_row k c (with_problem cs.problem st) r.1) cs

-- how the aggregate compares with a term of these rows; where the term has no row, no valuation has a structure
abbrev pub compared_with_rows : AggKind → Cmp → Linear → List (List Lit × Denotation) → GroundResult
compared_with_rows k c st [] = record { answer = Constant true; problem = st.problem }
compared_with_rows k c st (r ∷ rs) =
    let cs = fold (threshold_step k c st) (record { cases = []; problem = st.problem }) (r ∷ rs) in
    cases_of cs.cases cs.problem

-- the comparison with its sides exchanged
abbrev pub flipped : Cmp → Cmp
flipped cmp.Eq = cmp.Eq
flipped cmp.Ne = cmp.Ne
flipped cmp.Lt = cmp.Gt
flipped cmp.Gt = cmp.Lt
flipped cmp.Le = cmp.Ge
flipped cmp.Ge = cmp.Le
