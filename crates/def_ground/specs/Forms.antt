-- What a formula comes to under an assignment, and the problem that defines it.
use Rattle.std.specs.Prelude.{ℕ, ◌+◌, ℤ, pos, neg_ℤ, ◌*ℤ◌, List, [], ◌∷◌, ◌++◌, map, fold, Bool, true, false, not}
use Rattle.std.specs.Prelude.{if◌then◌else◌, ◌||◌, Option, Some, None}
use Rattle.std.specs.Bool.{beq}
use Rattle.kb_logic.specs.declared.elements.Elem.{Elem}
use Rattle.kb_logic.specs.declared.syntax.AggKind.{AggKind}
use Rattle.kb_logic.specs.declared.syntax.AggKind.TheVariants as kind
use Rattle.kb_logic.specs.declared.syntax.Cmp.{Cmp}
use Rattle.kb_logic.specs.Meaning.{signed_of}
use Rattle.kb_logic.specs.Trees.{TermTree, variable, integer, constructed, application, summation, product, aggregate}
use Rattle.kb_logic.specs.Trees.{TermTrees, no_terms, more_terms, SummandTrees, no_summands, more_summands}
use Rattle.kb_logic.specs.Trees.{FormulaTree, verum, falsum, atom, comparison, negation, conjunction, disjunction}
use Rattle.kb_logic.specs.Trees.{implication, equivalence, universal, existential, numbered}
use Rattle.kb_logic.specs.Trees.{FormulaTrees, no_formulas, more_formulas}
use Rattle.kb_logic.specs.Structures.{choices}
use Rattle.kb_logic.specs.Denotations.{Denotation}
use Rattle.lit_core.specs.declared.literals.Lit.{Lit}
use Rattle.lit_core.specs.Literals.{negated}
use Rattle.ground_core.specs.Problems.{ProblemState}
use Rattle.ground_core.specs.Growth.{next_lit, with_same}
use Rattle.term_values.specs.GroundBases.{GroundBase, known_of, first_var, row_index, tuples_at}
use Rattle.term_values.specs.Rows.{positive_lit, rows_of_term, rows_of_terms}
use Rattle.def_ground.specs.declared.answers.Answer.{Answer}
use Rattle.def_ground.specs.declared.answers.Answer.TheVariants.{Constant, Literal}
use Rattle.def_ground.specs.Answers.{GroundResult, opposite_of, gate_of}
use Rattle.def_ground.specs.Cases.{Case, case_of, cases_of}
use Rattle.def_ground.specs.Comparisons.{comparison_of}
use Rattle.def_ground.specs.Counting.{has_aggregate, have_aggregates, integer_factor, extreme_of}
use Rattle.def_ground.specs.Linear.{Linear, instance_step, compared_at}
use Rattle.def_ground.specs.SumSides.{compared_sums}
use Rattle.def_ground.specs.Thresholds.{compared_with_rows, flipped}

-- what is known of an atom, or its literal
abbrev pub answer_of_atom : Option Bool → ℕ → Answer
answer_of_atom None n = Literal (positive_lit n)
answer_of_atom (Some c) n = Constant c

-- a predicate's atom, by the index of its arguments; there is none where they are outside their types
abbrev pub atom_answer : GroundBase → ℕ → Option ℕ → Answer
atom_answer b s None = Constant false
atom_answer b s (Some i) = answer_of_atom (known_of b (first_var b s + i)) (first_var b s + i)

-- the case of one row of an atom's arguments
abbrev pub atom_case : GroundBase → ℕ → List Lit × List Denotation → Case
atom_case b s r = case_of r.0 (atom_answer b s (row_index (tuples_at b s) r.1))

-- the literals of the parts of a conjunction or a disjunction so far; where it is settled, one part decides the whole
pub record Parts : Type 0 where
  pub settled : Bool
  pub lits : List Lit
  pub problem : ProblemState

-- the answer decides the conjunction (`all`) or the disjunction
abbrev pub settles : Bool → Answer → Bool
settles all (Constant c) = not (beq c all)
settles all (Literal l) = false

-- the literals with the answer's
abbrev pub with_answer : Answer → List Lit → List Lit
with_answer (Constant c) ls = ls
with_answer (Literal l) ls = ls ++ l ∷ []

-- one part more, and then the rest, unless it settles the whole
abbrev pub next_parts : Bool → GroundResult → List Lit → (List Lit → ProblemState → Parts) → Parts
next_parts all g ls rest =
    if settles all g.answer then record { settled = true; lits = with_answer g.answer ls; problem = g.problem }
    else rest (with_answer g.answer ls) g.problem

abbrev pub no_more_parts : List Lit → ProblemState → Parts
no_more_parts ls p = record { settled = false; lits = ls; problem = p }

-- a part for each assignment
abbrev pub parts_each : (List Elem → ProblemState → GroundResult) → Bool → List (List Elem) → List Lit → ProblemState
    → Parts
parts_each G all [] ls p = no_more_parts ls p
parts_each G all (a ∷ more) ls p = next_parts all (G a p) ls (λ xs q. parts_each G all more xs q)

-- the whole: a constant where it is settled, else all, or any, of the literals
abbrev pub close_parts : Bool → Parts → GroundResult
close_parts all r =
    if r.settled then record { answer = Constant (not all); problem = r.problem } else gate_of all r.lits r.problem

abbrev pub opposite_result : GroundResult → GroundResult
opposite_result g = record { answer = opposite_of g.answer; problem = g.problem }

-- the result, or its opposite where the sign is false
abbrev pub signed_result : Bool → GroundResult → GroundResult
signed_result true g = g
signed_result false g = opposite_result g

-- whether two answers are the same
abbrev pub same_of : Answer → Answer → ProblemState → GroundResult
same_of (Constant true) y p = record { answer = y; problem = p }
same_of (Constant false) y p = record { answer = opposite_of y; problem = p }
same_of (Literal l) (Constant true) p = record { answer = Literal l; problem = p }
same_of (Literal l) (Constant false) p = record { answer = Literal (negated l); problem = p }
same_of (Literal l) (Literal m) p = record { answer = Literal (next_lit p); problem = with_same p l m }

-- no part yet
abbrev pub no_parts_yet : ProblemState → Linear
no_parts_yet p = record { base = pos 0; parts = []; problem = p }

-- a comparison of sides with aggregates. A minimum or a maximum is compared with the rows of the other side; else the
-- counts and sums of both sides are, as one sum, with what is left of their rows
abbrev pub compared_sides : Option AggKind → Option AggKind → Cmp → (left right both : Linear)
    → List (List Lit × Denotation) → List (List Lit × Denotation) → GroundResult
compared_sides (Some k) o c left right both xs ys = compared_with_rows k c left ys
compared_sides None (Some k) c left right both xs ys = compared_with_rows k (flipped c) right xs
compared_sides None None c left right both xs ys = compared_sums c both xs ys

abbrev mutual
  -- what a formula comes to
  pub form_of : GroundBase → FormulaTree → List Elem → ProblemState → GroundResult
  form_of b verum e p = record { answer = Constant true; problem = p }
  form_of b falsum e p = record { answer = Constant false; problem = p }
  form_of b (atom s ts) e p = cases_of (map (atom_case b s) (rows_of_terms b ts e)) p
  form_of b (comparison c x y) e p =
      if has_aggregate x || has_aggregate y then
      (let left = sums_of b (pos 1) x e (no_parts_yet p) in
      compared_sides (extreme_of x) (extreme_of y) c left (sums_of b (pos 1) y e (no_parts_yet p))
      (sums_of b (neg_ℤ (pos 1)) y e left) (rows_of_term b x e) (rows_of_term b y e))
      else comparison_of c (rows_of_term b x e) (rows_of_term b y e) p
  form_of b (negation f) e p = opposite_result (form_of b f e p)
  form_of b (conjunction fs) e p = close_parts true (parts_of b true fs e [] p)
  form_of b (disjunction fs) e p = close_parts false (parts_of b false fs e [] p)
  form_of b (implication f g) e p =
      close_parts false
      (next_parts false (opposite_result (form_of b f e p)) []
      (λ xs q. next_parts false (form_of b g e q) xs no_more_parts))
  form_of b (equivalence f g) e p =
      let x = form_of b f e p in
      let y = form_of b g e x.problem in
      same_of x.answer y.answer y.problem
  form_of b (universal bs f) e p =
      close_parts true (parts_each (λ a q. form_of b f (e ++ a) q) true (choices b.domains bs) [] p)
  form_of b (existential bs f) e p =
      close_parts false (parts_each (λ a q. form_of b f (e ++ a) q) false (choices b.domains bs) [] p)
  form_of b (numbered c n bs f) e p =
      compared_at kind.Count c
      (fold (instance_step kind.Count (pos 1) (λ a q. form_of b f (e ++ a) q) (λ a. [])) (no_parts_yet p)
      (choices b.domains bs)) n

  -- the parts of a conjunction or a disjunction
  pub parts_of : GroundBase → Bool → FormulaTrees → List Elem → List Lit → ProblemState → Parts
  parts_of b all no_formulas e ls p = no_more_parts ls p
  parts_of b all (more_formulas f fs) e ls p = next_parts all (form_of b f e p) ls (λ xs q. parts_of b all fs e xs q)

  -- the parts with those of the aggregates in a term, times a factor
  pub sums_of : GroundBase → ℤ → TermTree → List Elem → Linear → Linear
  sums_of b z (variable n) e st = st
  sums_of b z (integer y) e st = st
  sums_of b z (constructed ty n) e st = st
  sums_of b z (application s ts) e st = st
  sums_of b z (summation ss) e st = sums_of_summands b z ss e st
  sums_of b z (product ts) e st =
      if have_aggregates ts then sums_of_factors b (z *ℤ integer_factor ts) ts e st else st
  sums_of b z (aggregate k bs f t) e st =
      fold (instance_step k z (λ a q. form_of b f (e ++ a) q) (λ a. rows_of_term b t (e ++ a))) st
      (choices b.domains bs)

  pub sums_of_summands : GroundBase → ℤ → SummandTrees → List Elem → Linear → Linear
  sums_of_summands b z no_summands e st = st
  sums_of_summands b z (more_summands minus t ss) e st =
      sums_of_summands b z ss e (sums_of b (signed_of minus z) t e st)

  pub sums_of_factors : GroundBase → ℤ → TermTrees → List Elem → Linear → Linear
  sums_of_factors b z no_terms e st = st
  sums_of_factors b z (more_terms t ts) e st = sums_of_factors b z ts e (sums_of b z t e st)
