-- Worked examples of certain truth, over known atoms that are few enough to work them out by hand.
use Rattle.std.specs.Prelude.{◌≡◌, ℕ, pos, negsuc, List, [], ◌∷◌, true, false, Option, None, Some}
use Rattle.kb_logic.specs.declared.elements.Elem.{Elem}
use Rattle.kb_logic.specs.declared.elements.Elem.TheVariants.{Named, Num}
use Rattle.kb_logic.specs.declared.vocabularies.Bound.{Bound}
use Rattle.kb_logic.specs.declared.vocabularies.Symbol.{Symbol}
use Rattle.kb_logic.specs.declared.structures.Structure.{Structure}
use Rattle.kb_logic.specs.declared.syntax.Cmp.TheVariants as cmp
use Rattle.kb_logic.specs.declared.syntax.AggKind.TheVariants as kind
use Rattle.kb_logic.specs.Trees.{TermTree, variable, integer, constructed, application, summation, product, aggregate}
use Rattle.kb_logic.specs.Trees.{no_terms, more_terms, no_summands, more_summands, FormulaTree, verum, falsum, atom}
use Rattle.kb_logic.specs.Trees.{comparison, negation, conjunction, disjunction, implication, equivalence, universal}
use Rattle.kb_logic.specs.Trees.{existential, numbered, no_formulas, more_formulas}
use Rattle.kb_logic.specs.Denotations.{Denotation, named, number, plus_infinity}
use Rattle.kb_logic.specs.Models.{GroundAtom}
use Rattle.partial_structures.specs.KnownAtoms.{KnownAtoms, value_at}
use Rattle.partial_structures.specs.Extension.{ExtendsData}
use Rattle.certain_truth.specs.Certainty.{known_value, certain_truth}
use Rattle.partial_structures.specs.declared.truths.Truth.{Truth}
use Rattle.partial_structures.specs.declared.truths.Truth.TheVariants.{Yes, No, Unknown}

abbrev b : Elem
b = Named (98 ∷ [])

abbrev f : Elem
f = Named (102 ∷ [])

abbrev red : Elem
red = Named (114 ∷ [])

abbrev green : Elem
green = Named (103 ∷ [])

abbrev symbol : List ℕ → Option ℕ → Symbol
symbol args value = record { name = []; args = args; value = value }

abbrev holds : ℕ → List Elem → Option Elem → GroundAtom
holds s args value = record { symbol = s; args = args; value = value }

-- the types are area = {b; f}, color = {red; green}, nothing = {} and number = {1; 2}. Of the predicate border it is
-- known that (b,f) is in it and (f,b) is not, of the function color that it is red at b and not red at f, of the
-- function size that it is 2 at b; the proposition p is true, and of the constant home nothing is known
abbrev sample : KnownAtoms
sample = record {
  symbols = symbol (0 ∷ 0 ∷ []) None ∷ symbol (0 ∷ []) (Some 1) ∷ symbol [] None ∷ symbol (0 ∷ []) (Some 3) ∷ symbol []
      (Some 0) ∷ [];
  domains = (b ∷ f ∷ []) ∷ (red ∷ green ∷ []) ∷ [] ∷ (Num (pos 1) ∷ Num (pos 2) ∷ []) ∷ [];
  true_atoms = holds 0 (b ∷ f ∷ []) None ∷ holds 1 (b ∷ []) (Some red) ∷ holds 2 [] None ∷ holds 3 (b ∷ [])
      (Some (Num (pos 2))) ∷ [];
  false_atoms = holds 0 (f ∷ b ∷ []) None ∷ holds 1 (b ∷ []) (Some green) ∷ holds 1 (f ∷ []) (Some red) ∷ holds 3
      (b ∷ []) (Some (Num (pos 1))) ∷ [];
}

abbrev certain : FormulaTree → Truth
certain g = certain_truth sample g []

abbrev value : TermTree → Option Denotation
value t = known_value sample t []

-- one variable of a type
abbrev over : ℕ → List Bound
over ty = record { name = 120 ∷ []; ty = ty } ∷ []

abbrev x : TermTree
x = variable 0

abbrev y : TermTree
y = variable 1

abbrev at_b : TermTree
at_b = constructed 0 0

abbrev at_f : TermTree
at_f = constructed 0 1

abbrev is_red : TermTree
is_red = constructed 1 0

abbrev is_green : TermTree
is_green = constructed 1 1

abbrev border : TermTree → TermTree → FormulaTree
border t u = atom 0 (more_terms t (more_terms u no_terms))

abbrev color : TermTree → TermTree
color t = application 1 (more_terms t no_terms)

abbrev size : TermTree → TermTree
size t = application 3 (more_terms t no_terms)

abbrev home : TermTree
home = application 4 no_terms

-- an unknown formula
abbrev perhaps : FormulaTree
perhaps = border at_b at_b

abbrev both : FormulaTree → FormulaTree → FormulaTree
both g h = conjunction (more_formulas g (more_formulas h no_formulas))

abbrev either : FormulaTree → FormulaTree → FormulaTree
either g h = disjunction (more_formulas g (more_formulas h no_formulas))

-- atoms: known, unknown, outside their types, and with an unknown argument
abbrev pub Atoms : Type 0
Atoms =
    (certain (border at_b at_f) ≡ Yes)
    × (certain (border at_f at_b) ≡ No)
    × (certain (border at_b at_b) ≡ Unknown)
    × (certain (atom 2 no_terms) ≡ Yes)
    × (certain (border is_red at_b) ≡ No)
    × (certain (border home at_b) ≡ Unknown)

-- connectives
abbrev pub Connectives : Type 0
Connectives =
    (certain (either perhaps verum) ≡ Yes)
    × (certain (either perhaps falsum) ≡ Unknown)
    × (certain (both perhaps falsum) ≡ No)
    × (certain (both perhaps verum) ≡ Unknown)
    × (certain (negation perhaps) ≡ Unknown)
    × (certain (implication perhaps verum) ≡ Yes)
    × (certain (implication falsum perhaps) ≡ Yes)
    × (certain (implication perhaps falsum) ≡ Unknown)
    × (certain (equivalence verum falsum) ≡ No)
    × (certain (equivalence perhaps perhaps) ≡ Unknown)
    × (certain (conjunction no_formulas) ≡ Yes)
    × (certain (disjunction no_formulas) ≡ No)

-- comparisons: equations of a function in either order, a value outside the value type, and other comparisons
abbrev pub Comparisons : Type 0
Comparisons =
    (certain (comparison cmp.Eq (color at_b) is_red) ≡ Yes)
    × (certain (comparison cmp.Eq (color at_b) is_green) ≡ No)
    × (certain (comparison cmp.Eq (color at_f) is_red) ≡ No)
    × (certain (comparison cmp.Eq is_red (color at_f)) ≡ No)
    × (certain (comparison cmp.Eq (color at_f) is_green) ≡ Unknown)
    × (certain (comparison cmp.Eq (color at_f) at_b) ≡ No)
    × (certain (comparison cmp.Ne (color at_b) is_green) ≡ Yes)
    × (certain (comparison cmp.Ne (color at_f) is_red) ≡ Unknown)
    × (certain (comparison cmp.Lt (size at_b) (integer (pos 3))) ≡ Yes)
    × (certain (comparison cmp.Lt (size at_f) (integer (pos 3))) ≡ Unknown)
    × (certain (comparison cmp.Eq home at_b) ≡ Unknown)

-- quantifiers: over areas, over nothing, nested over types of different sizes, and counts
abbrev pub Quantifiers : Type 0
Quantifiers =
    (certain (existential (over 0) (existential (over 0) (border x y))) ≡ Yes)
    × (certain (universal (over 0) (universal (over 0) (border x y))) ≡ No)
    × (certain (universal (over 0) (border x x)) ≡ Unknown)
    × (certain (universal (over 2) falsum) ≡ Yes)
    × (certain (existential (over 2) verum) ≡ No)
    × (certain (universal (over 0) (existential (over 1) (comparison cmp.Eq (color x) y))) ≡ Unknown)
    × (certain (universal (over 0) (existential (over 1) (negation (comparison cmp.Eq (color x) y)))) ≡ Yes)
    × (certain (numbered cmp.Eq (pos 1) (over 0) (comparison cmp.Eq (color x) is_red)) ≡ Yes)
    × (certain (numbered cmp.Gt (pos 1) (over 0) (comparison cmp.Eq (color x) is_red)) ≡ No)
    × (certain (numbered cmp.Le (pos 2) (over 0) (border at_b x)) ≡ Unknown)
    × (certain (numbered cmp.Eq (pos 0) (over 2) verum) ≡ Yes)

-- terms: a weight that no true condition needs may be unknown
abbrev pub Terms : Type 0
Terms =
    (value (color at_b) ≡ Some (named (114 ∷ [])))
    × (value (color at_f) ≡ None)
    × (value (summation (more_summands false (size at_b) (more_summands true (integer (pos 1)) no_summands)))
    ≡ Some (number (pos 1)))
    × (value (product (more_terms (size at_b) (more_terms (size at_f) no_terms))) ≡ None)
    × (value (aggregate kind.Count (over 0) (comparison cmp.Eq (color x) is_red) (integer (pos 1)))
    ≡ Some (number (pos 1)))
    × (value (aggregate kind.Count (over 0) (border x x) (integer (pos 1))) ≡ None)
    × (value (aggregate kind.Sum (over 0) (comparison cmp.Eq (color x) is_red) (size x)) ≡ Some (number (pos 2)))
    × (value (aggregate kind.Sum (over 0) verum (size x)) ≡ None)
    × (value (aggregate kind.Min (over 2) verum x) ≡ Some plus_infinity)
    × (certain (universal (over 0) (comparison cmp.Eq (aggregate kind.Count (over 0)
    (comparison cmp.Eq (color y) is_red) (integer (pos 1))) (integer (pos 1)))) ≡ Yes)

-- what is known of atoms: a function's other values are false with its value
abbrev pub Values : Type 0
Values =
    (value_at sample (holds 0 (b ∷ f ∷ []) None) ≡ Yes)
    × (value_at sample (holds 0 (f ∷ f ∷ []) None) ≡ Unknown)
    × (value_at sample (holds 1 (b ∷ []) (Some green)) ≡ No)
    × (value_at sample (holds 1 (f ∷ []) (Some green)) ≡ Unknown)

-- a structure with these borders and these colors at b and f
abbrev with : List (List Elem) → Elem → Elem → Structure
with borders at_b' at_f' = record {
  domains = sample.domains;
  relations = record { symbol = 0; rows = borders } ∷ record { symbol = 2; rows = [] ∷ [] } ∷ [];
  functions =
      record { symbol = 1; rows = (b ∷ at_b' ∷ []) ∷ (f ∷ at_f' ∷ []) ∷ [] }
      ∷ record { symbol = 3; rows = (b ∷ Num (pos 2) ∷ []) ∷ (f ∷ Num (pos 1) ∷ []) ∷ [] }
      ∷ record { symbol = 4; rows = (b ∷ []) ∷ [] }
      ∷ [];
}

-- a structure extends the data with what is unknown either way, and not where it lacks a true atom or has a false one
abbrev pub Extensions : Type 0
Extensions =
    ExtendsData (with ((b ∷ f ∷ []) ∷ []) red green) sample
    × ExtendsData (with ((b ∷ b ∷ []) ∷ (b ∷ f ∷ []) ∷ []) red green) sample
    × (ExtendsData (with ((b ∷ b ∷ []) ∷ []) red green) sample → ⊥)
    × (ExtendsData (with ((b ∷ f ∷ []) ∷ (f ∷ b ∷ []) ∷ []) red green) sample → ⊥)
    × (ExtendsData (with ((b ∷ f ∷ []) ∷ []) green green) sample → ⊥)
    × (ExtendsData (with ((b ∷ f ∷ []) ∷ []) red red) sample → ⊥)

-- arithmetic at its bounds, at the end of 64 bits, and beside an infinite value
abbrev pub Ends : Type 0
Ends =
    (value (product (more_terms (integer (pos 500000000000000)) (more_terms (size at_b) no_terms)))
    ≡ Some (number (pos 1000000000000000)))
    × (value (summation (more_summands true (integer (pos 1000000000000000))
    (more_summands false (size at_b) no_summands))) ≡ Some (number (negsuc 999999999999997)))
    × (certain (comparison cmp.Lt (integer (pos 9223372036854775807)) (aggregate kind.Min (over 2) verum x)) ≡ Yes)
    × (certain (comparison cmp.Lt (integer (negsuc 999999999999999)) (size at_f)) ≡ Unknown)

abbrev pub WorkedExamples : Type 0
WorkedExamples = Atoms × Connectives × Comparisons × Quantifiers × Terms × Values × Extensions × Ends
