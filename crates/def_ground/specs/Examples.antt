-- Ground problems worked out by hand.
use Rattle.std.specs.Prelude.{◌≡◌, ℕ, pos, negsuc, List, [], ◌∷◌, true, false, Some, None}
use Rattle.kb_logic.specs.declared.elements.Elem.TheVariants.{Named, Num}
use Rattle.kb_logic.specs.declared.elements.ExtInt.TheVariants as ext
use Rattle.kb_logic.specs.declared.syntax.AggKind.TheVariants as kind
use Rattle.kb_logic.specs.declared.syntax.Cmp.TheVariants as cmp
use Rattle.kb_logic.specs.Trees.{TermTree, variable, integer, constructed, application, summation, aggregate}
use Rattle.kb_logic.specs.Trees.{no_terms, more_terms}
use Rattle.kb_logic.specs.Trees.{no_summands, more_summands, FormulaTree, verum, atom, comparison, negation}
use Rattle.kb_logic.specs.Trees.{conjunction, disjunction, universal, no_formulas, more_formulas, DefinitionTree}
use Rattle.lit_core.specs.declared.literals.Lit.{Lit}
use Rattle.ground_core.specs.declared.parts.GroundTerm.{GroundTerm}
use Rattle.ground_core.specs.declared.parts.Part.{Part}
use Rattle.term_values.specs.GroundBases.{GroundBase}
use Rattle.def_ground.specs.AskedTerms.{with_asked}
use Rattle.def_ground.specs.Definitions.{define_of}
use Rattle.def_ground.specs.Problems.{fact_of, problem_of}

-- the literal that a variable is true, or that it is false
abbrev yes_ : ℕ → Lit
yes_ n = fact_of n true

abbrev no_ : ℕ → Lit
no_ n = fact_of n false

-- predicates P and Q over the type {a; b}; P(a) is known to be true and P(b) to be false
abbrev predicates : GroundBase
predicates = record {
  vocabulary =
      record {
        name = [];
        types = [];
        symbols = record { name = []; args = 0 ∷ []; value = None }
            ∷ record { name = []; args = 0 ∷ []; value = None } ∷ [];
      };
  domains = (Named (97 ∷ []) ∷ Named (98 ∷ []) ∷ []) ∷ [];
  known = Some true ∷ Some false ∷ None ∷ None ∷ [];
}

abbrev each : FormulaTree → FormulaTree
each f = universal (record { name = []; ty = 0 } ∷ []) f

abbrev holds : ℕ → FormulaTree
holds s = atom s (more_terms (variable 0) no_terms)

-- each element has exactly one of P and Q
abbrev one_of_both : List FormulaTree
one_of_both =
    each (disjunction (more_formulas (holds 0) (more_formulas (holds 1) no_formulas)))
    ∷ each (negation (conjunction (more_formulas (holds 0) (more_formulas (holds 1) no_formulas)))) ∷ []

-- constants c and d of the type {1; 2}
abbrev constants : GroundBase
constants = record {
  vocabulary =
      record {
        name = [];
        types = [];
        symbols = record { name = []; args = []; value = Some 0 }
            ∷ record { name = []; args = []; value = Some 0 } ∷ [];
      };
  domains = (Num (pos 1) ∷ Num (pos 2) ∷ []) ∷ [];
  known = None ∷ None ∷ None ∷ None ∷ [];
}

-- P holds of just what Q holds of; Q holds of just a
abbrev p_by_q : DefinitionTree
p_by_q = record {
  rules =
      record {
        vars = record { name = []; ty = 0 } ∷ [];
        symbol = 0;
        args = variable 0 ∷ [];
        value = None;
        has_body = true;
        body = holds 1;
      } ∷ [];
}

abbrev q_of_a : DefinitionTree
q_of_a = record {
  rules =
      record {
        vars = [];
        symbol = 1;
        args = constructed 0 0 ∷ [];
        value = None;
        has_body = false;
        body = verum;
      } ∷ [];
}

abbrev with_definition : DefinitionTree → List (List Lit)
with_definition d = (define_of predicates d (problem_of predicates [])).clauses

-- c is less than d
abbrev in_order : List FormulaTree
in_order = comparison cmp.Lt (application 0 no_terms) (application 1 no_terms) ∷ []

-- c - d
abbrev difference : TermTree
difference =
    summation (more_summands false (application 0 no_terms) (more_summands true (application 1 no_terms) no_summands))

-- the terms of the problem that says nothing but names the difference
abbrev difference_named : List GroundTerm
difference_named = (with_asked constants (problem_of constants []) (record { name = []; term = difference })).terms

-- the number of elements of which Q holds
abbrev number_of_q : TermTree
number_of_q = aggregate kind.Count (record { name = []; ty = 0 } ∷ []) (holds 1) (integer (pos 1))

-- it is at least 2
abbrev two_of_q : List FormulaTree
two_of_q = comparison cmp.Ge number_of_q (integer (pos 2)) ∷ []

-- the terms of the problem that says nothing but names that number
abbrev number_named : List GroundTerm
number_named = (with_asked predicates (problem_of predicates []) (record { name = []; term = number_of_q })).terms

-- a predicate R over the type {1; 2; 3}
abbrev numbers : GroundBase
numbers = record {
  vocabulary =
      record { name = []; types = []; symbols = record { name = []; args = 0 ∷ []; value = None } ∷ [] };
  domains = (Num (pos 1) ∷ Num (pos 2) ∷ Num (pos 3) ∷ []) ∷ [];
  known = None ∷ None ∷ None ∷ [];
}

-- the least number of which R holds is at least 3
abbrev least_from_three : List FormulaTree
least_from_three =
    comparison cmp.Ge (aggregate kind.Min (record { name = []; ty = 0 } ∷ []) (holds 0) (variable 0)) (integer (pos 3))
    ∷ []

-- a literal that counts 1
abbrev once : Lit → Part
once l = record { lit = l; weight = pos 1 }

-- P(a), P(b), Q(a) and Q(b) are the variables 1 to 4: the facts, then Q(b) and not Q(a), with no gate.
-- Since P(a) is known to hold and P(b) not to, that P is defined by Q says Q(a), and not Q(b); that Q holds of just a
-- says the same.
-- c = 1, c = 2, d = 1 and d = 2 are the variables 1 to 4 too: one value each, and no variable more for the comparison,
-- which says that c and d are not both 1, and that c is not 2, since no value of d is greater.
-- The difference c - d is 0 where both are 1; it is 1 more where c = 2, and 1 less where d = 2.
-- The number of elements of Q is a literal for each of both. That it is at least 2 is the variable 5, the output of a
-- constraint. That the least number of R is at least 3 is a gate, the variable 4: neither 1 nor 2 is in R
pub record ProblemsAsWorkedOut : Type 0 where
  pub plain_vars : (problem_of predicates one_of_both).vars ≡ 4
  pub plain_gates : (problem_of predicates one_of_both).gates ≡ []
  pub plain_clauses :
      (problem_of predicates one_of_both).clauses ≡ (yes_ 1 ∷ []) ∷ (no_ 2 ∷ []) ∷ (yes_ 4 ∷ []) ∷ (no_ 3 ∷ []) ∷ []
  pub defined_clauses : with_definition p_by_q ≡ (yes_ 1 ∷ []) ∷ (no_ 2 ∷ []) ∷ (yes_ 3 ∷ []) ∷ (no_ 4 ∷ []) ∷ []
  pub fact_clauses : with_definition q_of_a ≡ (yes_ 1 ∷ []) ∷ (no_ 2 ∷ []) ∷ (yes_ 3 ∷ []) ∷ (no_ 4 ∷ []) ∷ []
  pub order_vars : (problem_of constants in_order).vars ≡ 4
  pub order_gates : (problem_of constants in_order).gates ≡ []
  pub order_clauses :
      (problem_of constants in_order).clauses
      ≡ (yes_ 1 ∷ yes_ 2 ∷ []) ∷ (no_ 1 ∷ no_ 2 ∷ []) ∷ (yes_ 3 ∷ yes_ 4 ∷ []) ∷ (no_ 3 ∷ no_ 4 ∷ [])
      ∷ (no_ 1 ∷ no_ 3 ∷ []) ∷ (no_ 2 ∷ []) ∷ []
  pub difference_terms :
      difference_named ≡ record {
        name = [];
        kind = kind.Sum;
        base = pos 0;
        parts = record { lit = yes_ 2; weight = pos 1 } ∷ record { lit = yes_ 4; weight = negsuc 0 } ∷ [];
      } ∷ []
  pub count_sums :
      (problem_of predicates two_of_q).sums ≡ record {
        out = yes_ 5;
        kind = kind.Sum;
        parts = once (yes_ 3) ∷ once (yes_ 4) ∷ [];
        least = ext.Num (pos 2);
      } ∷ []
  pub count_clauses : (problem_of predicates two_of_q).clauses ≡ (yes_ 1 ∷ []) ∷ (no_ 2 ∷ []) ∷ (yes_ 5 ∷ []) ∷ []
  pub count_named :
      number_named
      ≡ record { name = []; kind = kind.Sum; base = pos 0; parts = once (yes_ 3) ∷ once (yes_ 4) ∷ [] } ∷ []
  pub least_gates :
      (problem_of numbers least_from_three).gates
      ≡ record { out = yes_ 4; all = true; parts = no_ 1 ∷ no_ 2 ∷ [] } ∷ []
  pub least_clauses : (problem_of numbers least_from_three).clauses ≡ (yes_ 4 ∷ []) ∷ []
