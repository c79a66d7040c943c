-- Worked examples of truth and value, in a structure that is small enough to work them out by hand.
use Rattle.std.specs.Prelude.{◌≡◌, ◌+◌, ℕ, ℤ, pos, negsuc, List, [], ◌∷◌, Bool, true, false, Option, None, Some}
use Rattle.kb_logic.specs.declared.elements.Elem.{Elem}
use Rattle.kb_logic.specs.declared.elements.Elem.TheVariants.{Named, Num}
use Rattle.kb_logic.specs.declared.vocabularies.Bound.{Bound}
use Rattle.kb_logic.specs.declared.vocabularies.Symbol.{Symbol}
use Rattle.kb_logic.specs.declared.vocabularies.Vocabulary.{Vocabulary}
use Rattle.kb_logic.specs.declared.structures.Structure.{Structure}
use Rattle.kb_logic.specs.declared.syntax.Cmp.TheVariants as cmp
use Rattle.kb_logic.specs.declared.syntax.AggKind.TheVariants as kind
use Rattle.kb_logic.specs.Trees.{TermTree, variable, integer, constructed, application, summation, product, aggregate}
use Rattle.kb_logic.specs.Trees.{no_terms, more_terms, no_summands, more_summands, FormulaTree, verum, falsum, atom}
use Rattle.kb_logic.specs.Trees.{comparison, negation, conjunction, disjunction, implication, equivalence, universal}
use Rattle.kb_logic.specs.Trees.{existential, numbered, no_formulas, more_formulas, RuleTree, DefinitionTree}
use Rattle.kb_logic.specs.Trees.{TheoryTree}
use Rattle.kb_logic.specs.Denotations.{Denotation, number, minus_infinity, plus_infinity, undefined}
use Rattle.kb_logic.specs.Meaning.{value_of, truth_of}
use Rattle.kb_logic.specs.Bounds.{Interval, bounds_of, width_of}
use Rattle.kb_logic.specs.Weights.{atom_count, rule_occurrences, weight_of}

abbrev one : Elem
one = Num (pos 1)

abbrev two : Elem
two = Num (pos 2)

abbrev three : Elem
three = Num (pos 3)

-- the types are number = {1; 2; 3}, nothing = {} and letter = {a}. The predicate 0 is small = {1; 2}. The function 1 is
-- weight = {1->2; 2->2; 3->5}
abbrev sample : Structure
sample = record {
  domains = (one ∷ two ∷ three ∷ []) ∷ [] ∷ (Named (97 ∷ []) ∷ []) ∷ [];
  relations = record { symbol = 0; rows = (one ∷ []) ∷ (two ∷ []) ∷ [] } ∷ [];
  functions = record { symbol = 1; rows = (one ∷ two ∷ []) ∷ (two ∷ two ∷ []) ∷ (three ∷ Num (pos 5) ∷ []) ∷ [] } ∷ [];
}

abbrev is_true : FormulaTree → Bool
is_true f = truth_of sample f []

abbrev value : TermTree → Denotation
value t = value_of sample t []

-- one variable of a type
abbrev over : ℕ → List Bound
over ty = record { name = 120 ∷ []; ty = ty } ∷ []

abbrev small : TermTree → FormulaTree
small t = atom 0 (more_terms t no_terms)

abbrev weight : TermTree → TermTree
weight t = application 1 (more_terms t no_terms)

abbrev x : TermTree
x = variable 0

abbrev y : TermTree
y = variable 1

abbrev both : FormulaTree → FormulaTree → FormulaTree
both f g = conjunction (more_formulas f (more_formulas g no_formulas))

abbrev either : FormulaTree → FormulaTree → FormulaTree
either f g = disjunction (more_formulas f (more_formulas g no_formulas))

-- connectives
abbrev pub Connectives : Type 0
Connectives =
    (is_true (both verum falsum) ≡ false)
    × (is_true (either verum falsum) ≡ true)
    × (is_true (negation falsum) ≡ true)
    × (is_true (implication falsum falsum) ≡ true)
    × (is_true (implication verum falsum) ≡ false)
    × (is_true (equivalence falsum verum) ≡ false)
    × (is_true (equivalence falsum falsum) ≡ true)
    × (is_true (conjunction no_formulas) ≡ true)
    × (is_true (disjunction no_formulas) ≡ false)

-- atoms and comparisons: 3 is not small, 7 is no number of the structure, and letters have no order
abbrev pub Atoms : Type 0
Atoms =
    (is_true (small (integer (pos 2))) ≡ true)
    × (is_true (small (integer (pos 3))) ≡ false)
    × (is_true (small (integer (pos 7))) ≡ false)
    × (is_true (small (constructed 2 0)) ≡ false)
    × (is_true (comparison cmp.Eq (constructed 2 0) (constructed 2 0)) ≡ true)
    × (is_true (comparison cmp.Lt (constructed 2 0) (integer (pos 1))) ≡ false)
    × (is_true (comparison cmp.Le (integer (negsuc 0)) (integer (pos 0))) ≡ true)
    × (is_true (comparison cmp.Ne (weight (integer (pos 1))) (weight (integer (pos 2)))) ≡ false)

-- quantifiers: over three numbers, over nothing, nested over types of different sizes, and with a variable that hides
-- another
abbrev pub Quantifiers : Type 0
Quantifiers =
    (is_true (universal (over 0) (small x)) ≡ false)
    × (is_true (existential (over 0) (small x)) ≡ true)
    × (is_true (universal (over 1) falsum) ≡ true)
    × (is_true (existential (over 1) verum) ≡ false)
    × (is_true (universal (over 0) (existential (over 2) (comparison cmp.Ne x y))) ≡ true)
    × (is_true (universal (over 0) (existential (over 0) (comparison cmp.Lt x y))) ≡ false)
    × (is_true (existential (over 0) (universal (over 0) (comparison cmp.Le x y))) ≡ true)
    × (is_true (universal (over 0) (existential (over 0) (both (small y) (negation (comparison cmp.Eq x y))))) ≡ true)
    × (is_true (numbered cmp.Eq (pos 2) (over 0) (small x)) ≡ true)
    × (is_true (numbered cmp.Gt (pos 2) (over 0) (small x)) ≡ false)
    × (is_true (numbered cmp.Eq (pos 0) (over 1) verum) ≡ true)

-- arithmetic: 2 - 5, 2 * 5 * -1, and a sum with a letter
abbrev pub Arithmetic : Type 0
Arithmetic =
    (value (summation (more_summands false (integer (pos 2)) (more_summands true (weight (integer (pos 3)))
    no_summands))) ≡ number (negsuc 2))
    × (value (product (more_terms (integer (pos 2)) (more_terms (weight (integer (pos 3)))
    (more_terms (integer (negsuc 0)) no_terms)))) ≡ number (negsuc 9))
    × (value (summation (more_summands false (constructed 2 0) no_summands)) ≡ undefined)

-- aggregates: the two small numbers both weigh 2; over nothing a count and a sum are 0, and a minimum and a maximum
-- infinite
abbrev pub Aggregates : Type 0
Aggregates =
    (value (aggregate kind.Count (over 0) (small x) (integer (pos 1))) ≡ number (pos 2))
    × (value (aggregate kind.Sum (over 0) (small x) (weight x)) ≡ number (pos 4))
    × (value (aggregate kind.Min (over 0) verum (weight x)) ≡ number (pos 2))
    × (value (aggregate kind.Max (over 0) verum (weight x)) ≡ number (pos 5))
    × (value (aggregate kind.Count (over 0) falsum (integer (pos 1))) ≡ number (pos 0))
    × (value (aggregate kind.Sum (over 1) verum x) ≡ number (pos 0))
    × (value (aggregate kind.Min (over 1) verum x) ≡ plus_infinity)
    × (value (aggregate kind.Max (over 0) falsum (weight x)) ≡ minus_infinity)
    × (is_true (universal (over 0) (comparison cmp.Le (aggregate kind.Count (over 0) (comparison cmp.Lt y x)
    (integer (pos 1))) x)) ≡ true)

-- integers at the ends of 64 bits, and beside infinite values
abbrev pub Ends : Type 0
Ends =
    (is_true (comparison cmp.Lt (integer (pos 9223372036854775807)) (aggregate kind.Min (over 1) verum x)) ≡ true)
    × (is_true (comparison cmp.Lt (aggregate kind.Max (over 1) verum x) (integer (negsuc 9223372036854775807))) ≡ true)
    × (value (summation (more_summands false (integer (pos 9223372036854775807))
    (more_summands true (integer (pos 1)) no_summands))) ≡ number (pos 9223372036854775806))
    × (value (summation (more_summands true (integer (pos 1000000000000000)) no_summands))
    ≡ number (negsuc 999999999999999))

abbrev symbol : Option ℕ → Symbol
symbol value = record { name = []; args = 0 ∷ []; value = value }

-- the symbols of the sample structure; weights are numbers
abbrev words : Vocabulary
words = record { name = []; types = []; symbols = symbol None ∷ symbol (Some 0) ∷ [] }

abbrev bounds : TermTree → Interval
bounds t = bounds_of words sample.domains t []

abbrev from_to : ℤ → ℤ → Interval
from_to low high = record { low = low; high = high }

-- `small(x) <- weight(x) = 2`
abbrev rule : RuleTree
rule = record {
  vars = over 0;
  symbol = 0;
  args = x ∷ [];
  value = None;
  has_body = true;
  body = comparison cmp.Eq (weight x) (integer (pos 2));
}

-- `small(x) <- true` where the Bool is true, else `small(x)`
abbrev fact : Bool → RuleTree
fact has_body = record {
  vars = over 0;
  symbol = 0;
  args = x ∷ [];
  value = None;
  has_body = has_body;
  body = verum;
}

-- `!x: small(x).`
abbrev theory : TheoryTree
theory = record { sentences = universal (over 0) (small x) ∷ []; definitions = [] }

-- `sum{x : small(x) : weight(x)} = 5.`
abbrev sum_sentence : FormulaTree
sum_sentence = comparison cmp.Eq (aggregate kind.Sum (over 0) (small x) (weight x)) (integer (pos 5))

-- `weight(x) = 2 <- small(x)`
abbrev valued_rule : RuleTree
valued_rule = record {
  vars = over 0;
  symbol = 1;
  args = x ∷ [];
  value = Some (integer (pos 2));
  has_body = true;
  body = small x;
}

abbrev weight_with : List FormulaTree → List DefinitionTree → List TermTree → ℕ
weight_with sentences definitions terms = weight_of words sample.domains
    (record { sentences = sentences; definitions = definitions }) terms

-- `weight(x) = v <- v = x + 1`, which stands for `weight(x) = x + 1`
abbrev computed_rule : RuleTree
computed_rule = record {
  vars = record { name = 120 ∷ []; ty = 0 } ∷ record { name = 118 ∷ []; ty = 0 } ∷ [];
  symbol = 1;
  args = x ∷ [];
  value = Some y;
  has_body = true;
  body = comparison cmp.Eq y (summation (more_summands false x (more_summands false (integer (pos 1)) no_summands)));
}

-- the occurrences of a rule: 1, those of its head, and those of its body where it has one. A body `true` that is
-- written counts, and so does a body that the head's value gives
abbrev pub Rules : Type 0
Rules =
    (rule_occurrences words sample.domains rule ≡ 1 + 3 + 9)
    × (rule_occurrences words sample.domains (fact false) ≡ 1 + 3)
    × (rule_occurrences words sample.domains (fact true) ≡ 1 + 3 + 3)
    × (rule_occurrences words sample.domains computed_rule ≡ 1 + 9 + 9)
    × (weight_with [] (record { rules = fact false ∷ [] } ∷ []) [] ≡ 28)
    × (weight_with [] (record { rules = fact true ∷ [] } ∷ []) [] ≡ 40)

-- the weight of an aggregate with an application in its weight, of an application in another, of a number quantifier,
-- of a definition of a function, of a term that may be asked for, and of a count
abbrev pub Weights : Type 0
Weights =
    (weight_with (sum_sentence ∷ []) [] [] ≡ 64)
    × (weight_with (small (weight (weight (integer (pos 1)))) ∷ []) [] [] ≡ 48)
    × (weight_with (numbered cmp.Eq (pos 2) (over 0) (small x) ∷ []) [] [] ≡ 28)
    × (weight_with [] (record { rules = valued_rule ∷ [] } ∷ []) [] ≡ 40)
    × (weight_with [] [] (weight (integer (pos 1)) ∷ []) ≡ 24)
    × (weight_with [] [] (aggregate kind.Count (over 0) (small x) (integer (pos 1)) ∷ []) ≡ 40)

-- static bounds, a width, ground atoms (3 of small and 9 of weight), and the weight of a theory
abbrev pub Sizes : Type 0
Sizes =
    (bounds (weight (integer (pos 1))) ≡ from_to (pos 1) (pos 3))
    × (bounds (summation (more_summands false (integer (pos 2))
    (more_summands true (weight (integer (pos 1))) no_summands))) ≡ from_to (negsuc 0) (pos 1))
    × (bounds (product (more_terms (weight (integer (pos 1))) (more_terms (integer (negsuc 1)) no_terms)))
    ≡ from_to (negsuc 5) (negsuc 1))
    × (bounds (aggregate kind.Count (over 0) (small x) (integer (pos 1))) ≡ from_to (pos 0) (pos 3))
    × (bounds (aggregate kind.Sum (over 0) (small x) (weight x)) ≡ from_to (pos 0) (pos 9))
    × (bounds (aggregate kind.Min (over 0) (small x) (weight x)) ≡ from_to (pos 1) (pos 3))
    × (bounds (constructed 1 0) ≡ from_to (pos 0) (pos 0))
    × (width_of (bounds (aggregate kind.Sum (over 0) (small x) (weight x))) ≡ 9)
    × (atom_count words sample.domains ≡ 12)
    × (weight_of words sample.domains theory [] ≡ 28)

abbrev pub WorkedExamples : Type 0
WorkedExamples = Connectives × Atoms × Quantifiers × Arithmetic × Aggregates × Ends × Sizes × Rules × Weights
