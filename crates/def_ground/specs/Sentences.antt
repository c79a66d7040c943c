-- Sentences as clauses: what stands at the top needs no gate.
use Rattle.std.specs.Prelude.{ℕ, nat_le, List, [], ◌∷◌, ◌++◌, length, map, fold, Bool, true, false, not, if◌then◌else◌}
use Rattle.std.specs.Prelude.{◌||◌}
use Rattle.kb_logic.specs.declared.elements.Elem.{Elem}
use Rattle.kb_logic.specs.Trees.{FormulaTree, verum, falsum, atom, comparison, negation, conjunction, disjunction}
use Rattle.kb_logic.specs.Trees.{implication, equivalence, universal, existential, numbered}
use Rattle.kb_logic.specs.Trees.{FormulaTrees, no_formulas, more_formulas}
use Rattle.kb_logic.specs.Structures.{choices}
use Rattle.lit_core.specs.declared.literals.Lit.{Lit}
use Rattle.ground_core.specs.Problems.{ProblemState}
use Rattle.ground_core.specs.Growth.{with_clause}
use Rattle.term_values.specs.GroundBases.{GroundBase}
use Rattle.term_values.specs.Rows.{rows_of_term, rows_of_terms}
use Rattle.def_ground.specs.Forms.{Parts, parts_each, signed_result, form_of, atom_case}
use Rattle.def_ground.specs.CaseSentences.{or_clause, assert_cases, assert_comparison, assert_alike}
use Rattle.def_ground.specs.Counting.{has_aggregate}
use Rattle.def_ground.specs.Disjuncts.{disjuncts_of}

-- unless the parts settle the clause, what comes next, with their literals
abbrev pub unless_settled : Parts → (List Lit → ProblemState → ProblemState) → ProblemState
unless_settled r rest = if r.settled then r.problem else rest r.lits r.problem

-- the clause of all the literals, unless a part settles it
abbrev pub parts_clause : Parts → ProblemState
parts_clause r = unless_settled r (λ xs q. with_clause q xs)

-- how many literals each of many clauses may have in common: a constant, so that all clauses together stay linear
abbrev pub longest_shared : ℕ
longest_shared = 8

-- so few literals that each of many clauses may have them
abbrev pub are_few : List Lit → Bool
are_few ls = nat_le (length ls) longest_shared

-- under each assignment, with the problem that the ones before made
abbrev pub assert_each : (List Elem → ProblemState → ProblemState) → List (List Elem) → ProblemState → ProblemState
assert_each A [] p = p
assert_each A (a ∷ more) p = assert_each A more (A a p)

abbrev mutual
  -- the problem that also says: one of the literals is true, or the formula is (where the sign is false: or it is not)
  pub assert_of : GroundBase → Bool → FormulaTree → List Elem → List Lit → ProblemState → ProblemState
  assert_of b true verum e ls p = p
  assert_of b false verum e ls p = with_clause p ls
  assert_of b true falsum e ls p = with_clause p ls
  assert_of b false falsum e ls p = p
  assert_of b sign (atom s ts) e ls p = assert_cases sign ls (map (atom_case b s) (rows_of_terms b ts e)) p
  assert_of b sign (comparison c x y) e ls p =
      if has_aggregate x || has_aggregate y then
      or_clause ls (signed_result sign (form_of b (comparison c x y) e p))
      else assert_comparison sign c (rows_of_term b x e) (rows_of_term b y e) ls p
  assert_of b sign (equivalence f g) e ls p =
      let x = form_of b f e p in
      let y = form_of b g e x.problem in
      assert_alike sign x.answer y.answer ls y.problem
  assert_of b sign (numbered c n bs f) e ls p = or_clause ls (signed_result sign (form_of b (numbered c n bs f) e p))
  assert_of b sign (negation f) e ls p = assert_of b (not sign) f e ls p
  assert_of b true (conjunction fs) e ls p = assert_all b true fs e ls p
  assert_of b false (conjunction fs) e ls p = assert_any b false fs e ls p
  assert_of b true (disjunction fs) e ls p = assert_any b true fs e ls p
  assert_of b false (disjunction fs) e ls p = assert_all b false fs e ls p
  assert_of b true (implication f g) e ls p =
      unless_settled (disjuncts_of b false f e ls p)
      (λ xs q. if are_few xs then assert_of b true g e xs q else or_clause xs (signed_result true (form_of b g e q)))
  assert_of b false (implication f g) e ls p = assert_of b false g e ls (assert_of b true f e ls p)
  assert_of b true (universal bs f) e ls p =
      assert_each (λ a q. assert_of b true f (e ++ a) ls q) (choices b.domains bs) p
  assert_of b false (universal bs f) e ls p =
      parts_clause (parts_each (λ a q. signed_result false (form_of b f (e ++ a) q)) false (choices b.domains bs) ls p)
  assert_of b true (existential bs f) e ls p =
      parts_clause (parts_each (λ a q. form_of b f (e ++ a) q) false (choices b.domains bs) ls p)
  assert_of b false (existential bs f) e ls p =
      assert_each (λ a q. assert_of b false f (e ++ a) ls q) (choices b.domains bs) p

  -- each of the formulas
  pub assert_all : GroundBase → Bool → FormulaTrees → List Elem → List Lit → ProblemState → ProblemState
  assert_all b sign no_formulas e ls p = p
  assert_all b sign (more_formulas f fs) e ls p = assert_all b sign fs e ls (assert_of b sign f e ls p)

  -- one of the formulas: the last one is asserted under the literals of the others, where these are few
  pub assert_any : GroundBase → Bool → FormulaTrees → List Elem → List Lit → ProblemState → ProblemState
  assert_any b sign no_formulas e ls p = with_clause p ls
  assert_any b sign (more_formulas f no_formulas) e ls p =
      if are_few ls then assert_of b sign f e ls p else or_clause ls (signed_result sign (form_of b f e p))
  assert_any b sign (more_formulas f (more_formulas g fs)) e ls p =
      unless_settled (disjuncts_of b sign f e ls p) (λ xs q. assert_any b sign (more_formulas g fs) e xs q)

-- sentences one after another
abbrev pub assert_sentences : GroundBase → List FormulaTree → ProblemState → ProblemState
assert_sentences b fs p = fold (λ q f. assert_of b true f [] [] q) p fs
