-- A comparison of two terms, by their rows: a case for each row of the left term, whose sides are the values of the
-- right term that compare so. No variable is made for a pair of values.
use Rattle.std.specs.Prelude.{List, [], ◌∷◌, map, Bool, true, false, not, if◌then◌else◌, Option, Some, None}
use Rattle.std.specs.List.{list_all}
use Rattle.kb_logic.specs.declared.syntax.Cmp.{Cmp}
use Rattle.kb_logic.specs.Denotations.{Denotation, compared}
use Rattle.lit_core.specs.declared.literals.Lit.{Lit}
use Rattle.ground_core.specs.Problems.{ProblemState}
use Rattle.def_ground.specs.declared.answers.Answer.{Answer}
use Rattle.def_ground.specs.declared.answers.Answer.TheVariants.{Constant, Literal}
use Rattle.def_ground.specs.Answers.{GroundResult, gate_of}
use Rattle.def_ground.specs.Cases.{Case, cases_of}

-- rows with one answer in place of their guards
pub record GuardAnswers : Type 0 where
  pub rows : List (Answer × Denotation)
  pub problem : ProblemState

-- each row's guards as one answer, a gate only where they are two or more
abbrev pub guard_answers : List (List Lit × Denotation) → ProblemState → GuardAnswers
guard_answers [] p = record { rows = []; problem = p }
guard_answers (r ∷ rs) p =
    let g = gate_of true r.0 p in
    let more = guard_answers rs g.problem in
    record { rows = (g.answer, r.1) ∷ more.rows; problem = more.problem }

-- the side with one answer more
abbrev pub or_literal : Answer → Option (List Lit) → Option (List Lit)
or_literal (Constant true) o = None
or_literal (Constant false) o = o
or_literal (Literal l) None = None
or_literal (Literal l) (Some ls) = Some (l ∷ ls)

-- the answers of the rows whose value passes the test
abbrev pub any_where : (Denotation → Bool) → List (Answer × Denotation) → Option (List Lit)
any_where test [] = Some []
any_where test (r ∷ rs) = if test r.1 then or_literal r.0 (any_where test rs) else any_where test rs

-- that the value of one of these rows passes the test: it does so in any case where all do
abbrev pub side_where : (Denotation → Bool) → List (Answer × Denotation) → Option (List Lit)
side_where test rs = if list_all (λ (r : Answer × Denotation). test r.1) rs then None else any_where test rs

-- the case of one row of the left term
abbrev pub comparison_case : Cmp → List (Answer × Denotation) → List Lit × Denotation → Case
comparison_case c bs a = record {
  guards = a.0;
  yes = side_where (λ y. compared c a.1 y) bs;
  no = side_where (λ y. not (compared c a.1 y)) bs;
}

-- a comparison of two terms by their rows; where the left term has no row it makes no variable
abbrev pub comparison_of : Cmp → List (List Lit × Denotation) → List (List Lit × Denotation) → ProblemState
    → GroundResult
comparison_of c [] bs p = record { answer = Constant true; problem = p }
comparison_of c (a ∷ as') bs p =
    let s = guard_answers bs p in
    cases_of (map (comparison_case c s.rows) (a ∷ as')) s.problem
