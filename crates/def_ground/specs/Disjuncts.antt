-- The literals of a formula that stands as a part of a disjunction: those of its own parts where it is one itself.
use Rattle.std.specs.Prelude.{List, Bool, true, false, not, if◌then◌else◌}
use Rattle.kb_logic.specs.declared.elements.Elem.{Elem}
use Rattle.kb_logic.specs.Trees.{FormulaTree, verum, falsum, atom, comparison, negation, conjunction, disjunction}
use Rattle.kb_logic.specs.Trees.{implication, equivalence, universal, existential, numbered}
use Rattle.kb_logic.specs.Trees.{FormulaTrees, no_formulas, more_formulas}
use Rattle.lit_core.specs.declared.literals.Lit.{Lit}
use Rattle.ground_core.specs.Problems.{ProblemState}
use Rattle.term_values.specs.GroundBases.{GroundBase}
use Rattle.def_ground.specs.Forms.{Parts, next_parts, no_more_parts, signed_result, form_of}

-- the parts so far, and unless they settle the whole those of the rest
abbrev pub more_parts : Parts → (List Lit → ProblemState → Parts) → Parts
more_parts r rest = if r.settled then r else rest r.lits r.problem

-- the literals, with what the formula comes to, or its opposite where the sign is false
abbrev pub own_part : GroundBase → Bool → FormulaTree → List Elem → List Lit → ProblemState → Parts
own_part b sign f e ls p = next_parts false (signed_result sign (form_of b f e p)) ls no_more_parts

abbrev mutual
  -- the literals, with those of the formula, or of its negation where the sign is false
  pub disjuncts_of : GroundBase → Bool → FormulaTree → List Elem → List Lit → ProblemState → Parts
  disjuncts_of b sign verum e ls p = own_part b sign verum e ls p
  disjuncts_of b sign falsum e ls p = own_part b sign falsum e ls p
  disjuncts_of b sign (atom s ts) e ls p = own_part b sign (atom s ts) e ls p
  disjuncts_of b sign (comparison c x y) e ls p = own_part b sign (comparison c x y) e ls p
  disjuncts_of b sign (equivalence f g) e ls p = own_part b sign (equivalence f g) e ls p
  disjuncts_of b sign (universal bs f) e ls p = own_part b sign (universal bs f) e ls p
  disjuncts_of b sign (existential bs f) e ls p = own_part b sign (existential bs f) e ls p
  disjuncts_of b sign (numbered c n bs f) e ls p = own_part b sign (numbered c n bs f) e ls p
  disjuncts_of b sign (negation f) e ls p = disjuncts_of b (not sign) f e ls p
  disjuncts_of b true (conjunction fs) e ls p = own_part b true (conjunction fs) e ls p
  disjuncts_of b false (conjunction fs) e ls p = all_disjuncts b false fs e ls p
  disjuncts_of b true (disjunction fs) e ls p = all_disjuncts b true fs e ls p
  disjuncts_of b false (disjunction fs) e ls p = own_part b false (disjunction fs) e ls p
  disjuncts_of b true (implication f g) e ls p =
      more_parts (disjuncts_of b false f e ls p) (λ xs q. disjuncts_of b true g e xs q)
  disjuncts_of b false (implication f g) e ls p = own_part b false (implication f g) e ls p

  -- so for each of the formulas
  pub all_disjuncts : GroundBase → Bool → FormulaTrees → List Elem → List Lit → ProblemState → Parts
  all_disjuncts b sign no_formulas e ls p = no_more_parts ls p
  all_disjuncts b sign (more_formulas f fs) e ls p =
      more_parts (disjuncts_of b sign f e ls p) (λ xs q. all_disjuncts b sign fs e xs q)
