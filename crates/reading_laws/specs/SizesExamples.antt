-- Worked examples of the stage of sizes.
use Rattle.std.specs.Prelude.{◌≡◌, ℕ, pos, true, false, List, [], ◌∷◌, map, fold, zip, Option, None, Some, codes}
use Rattle.kb_logic.specs.declared.elements.Elem.{Elem}
use Rattle.kb_logic.specs.declared.elements.Elem.TheVariants.{Named, Num}
use Rattle.kb_logic.specs.declared.syntax.AggKind.TheVariants as kind
use Rattle.kb_logic.specs.declared.syntax.Cmp.TheVariants as cmp
use Rattle.kb_logic.specs.declared.vocabularies.Bound.{Bound}
use Rattle.kb_logic.specs.declared.vocabularies.Parent.TheVariants as parent
use Rattle.kb_logic.specs.declared.vocabularies.Vocabulary.{Vocabulary}
use Rattle.kb_logic.specs.Trees.{TermTree, variable, integer, application, product, summation, aggregate, terms_of}
use Rattle.kb_logic.specs.Trees.{summands_of, FormulaTree, verum, atom, comparison, negation, conjunction}
use Rattle.kb_logic.specs.Trees.{disjunction, implication, universal, formulas_of, RuleTree, TheoryTree}
use Rattle.kb_logic.specs.Weights.{atom_count, weight_of}
use Rattle.kb_text.specs.declared.fault.K.TheVariants as k
use Rattle.kb_text.specs.declared.fault.KbFault.{KbFault}
use Rattle.stage_definitions.specs.Earliest.{refusal}
use Rattle.stage_definitions.specs.TypedFiles.{TypedFile}
use Rattle.stage_definitions.specs.Elements.{integers_from}
use Rattle.stage_definitions.specs.SizesStage.{size_uses, size_noted, uses_of_symbols, uses_of_theory}
use Rattle.reading_laws.specs.Written.{type_under, symbol, vocabulary}
use Rattle.reading_laws.specs.Examples.{areas_and_colors}

-- the integers from 1 to n
abbrev up_to : ℕ → List Elem
up_to n = integers_from (pos 1) n

abbrev over : List ℕ → List Bound
over types = map (λ t. record { name = codes "x"; ty = t }) types

abbrev theory : List FormulaTree → TheoryTree
theory fs = record { sentences = fs; definitions = [] }

abbrev apply : ℕ → TermTree → TermTree
apply s t = application s (terms_of (t ∷ []))

abbrev x : TermTree
x = variable 0

abbrev y : TermTree
y = variable 1

-- ---- areas and colors: !x y: Border(x,y) => color(x) ~= color(y).

abbrev colors_differ : FormulaTree
colors_differ = universal (over (0 ∷ 0 ∷ [])) (implication (atom 0 (terms_of (x ∷ y
    ∷ []))) (comparison cmp.Ne (apply 1 x) (apply 1 y)))

abbrev two_areas : List (List Elem)
two_areas = (Named (codes "b") ∷ Named (codes "f") ∷ []) ∷ (Named (codes "Red") ∷ Named (codes "Green") ∷ []) ∷ []

-- Area = {b; f; 1..2000}
abbrev many_areas : List (List Elem)
many_areas = (Named (codes "b") ∷ Named (codes "f") ∷ up_to 2000) ∷ (Named (codes "Red") ∷ Named (codes "Green") ∷ [])
    ∷ []

-- the refusals at the names of Border and color, which stand at 72 and 92
abbrev refused_by_atoms : List (List Elem) → Option KbFault
refused_by_atoms domains = fold size_noted None (uses_of_symbols domains 0 (zip (72 ∷ 92
    ∷ []) areas_and_colors.symbols))

-- ---- two propositions: p | q.  ~p.

abbrev p : FormulaTree
p = atom 0 (terms_of [])

abbrev q : FormulaTree
q = atom 1 (terms_of [])

abbrev propositions : Vocabulary
propositions = vocabulary [] (symbol (codes "p") [] None ∷ symbol (codes "q") [] None ∷ [])

-- ---- the timetable of 30 courses, 20 slots and 5 rooms, with the term slot(3)

abbrev timetable : Vocabulary
timetable =
    vocabulary (type_under (codes "Course") parent.Nat ∷ type_under (codes "Slot") parent.Nat
    ∷ type_under (codes "Room") parent.Nat ∷ [])
    (symbol (codes "Before") (0 ∷ 0 ∷ []) None ∷ symbol (codes "slot") (0 ∷ []) (Some 1)
    ∷ symbol (codes "room") (0 ∷ []) (Some 2) ∷ [])

abbrev lessons : List (List Elem)
lessons = up_to 30 ∷ up_to 20 ∷ up_to 5 ∷ []

abbrev lessons_differ : TheoryTree
lessons_differ =
    theory
    (universal (over (0 ∷ 0 ∷ [])) (implication (atom 0 (terms_of (x ∷ y
    ∷ []))) (comparison cmp.Lt (apply 1 x) (apply 1 y)))
    ∷ universal (over (0 ∷ 0 ∷ [])) (implication (conjunction (formulas_of (comparison cmp.Lt x y
    ∷ comparison cmp.Eq (apply 1 x) (apply 1 y) ∷ []))) (comparison cmp.Ne (apply 2 x) (apply 2 y)))
    ∷ [])

-- ---- type N isa nat  c:N  p, and terms that begin at 70

abbrev numbers : Vocabulary
numbers = vocabulary (type_under (codes "N") parent.Nat ∷ []) (symbol (codes "c") [] (Some 0)
    ∷ symbol (codes "p") [] None ∷ [])

abbrev c : TermTree
c = application 0 (terms_of [])

-- a file whose theories begin at 50 and 60, and whose one term block has a term with these places
abbrev file : List FormulaTree → List ℕ → List FormulaTree → List ℕ → TermTree → List ℕ → TypedFile
file first first_terms second second_terms t terms = record {
  vocabulary = numbers;
  theories = record { name = codes "T"; theory = theory first } ∷ record { name = codes "U"; theory = theory second }
      ∷ [];
  terms = record { name = codes "t"; term = t } ∷ [];
  places = record {
    types = 5 ∷ [];
    symbols = 15 ∷ 25 ∷ [];
    theories = 50 ∷ 60 ∷ [];
    theory_terms = first_terms
        ∷ second_terms ∷ [];
    block_terms = terms ∷ [];
  };
}

abbrev refused_in : TypedFile → List Elem → Option KbFault
refused_in f domain = fold size_noted None (size_uses f 0 (domain ∷ []))

-- the earliest refusal of a term block's term beside empty theories
abbrev refused : TermTree → List ℕ → List Elem → Option KbFault
refused t places domain = refused_in (file [] [] [] [] t places) domain

-- ... and of a sentence of the first theory, or of the second
abbrev refused_sentence : FormulaTree → List ℕ → List Elem → Option KbFault
refused_sentence f places domain = refused_in (file (f ∷ []) places [] [] (integer (pos 0)) (90 ∷ [])) domain

abbrev refused_second : FormulaTree → List ℕ → List Elem → Option KbFault
refused_second f places domain = refused_in (file [] [] (f ∷ []) places (integer (pos 0)) (90 ∷ [])) domain

-- N = {1000000}
abbrev million : List Elem
million = Num (pos 1000000) ∷ []

abbrev times : List TermTree → TermTree
times ts = product (terms_of ts)

abbrev plus : TermTree → TermTree → TermTree
plus a b = summation (summands_of ((false, a) ∷ (false, b) ∷ []))

abbrev large : TermTree
large = integer (pos 1000000000000000)

-- !x: !y: !z: p, over N
abbrev three_deep : FormulaTree
three_deep = universal (over (0 ∷ [])) (universal (over (0 ∷ [])) (universal (over (0 ∷ [])) (atom 1 (terms_of []))))

-- !x[N]: c = t <- x * x * x < 1
abbrev cubes_below : TermTree → RuleTree
cubes_below t = record {
  vars = over (0 ∷ []);
  symbol = 0;
  args = [];
  value = Some t;
  has_body = true;
  body = comparison cmp.Lt (times (x ∷ x ∷ x ∷ [])) (integer (pos 1));
}

-- the earliest refusal of a definition of one rule, whose terms begin at these places
abbrev refused_rule : RuleTree → List ℕ → List Elem → Option KbFault
refused_rule r places domain = fold size_noted None (uses_of_theory numbers (domain ∷ []) (
  record {
    name = codes "T";
    theory = record { sentences = []; definitions = record { rules = r ∷ [] } ∷ [] };
  },
  places,
))

-- sum{x : true : x}
abbrev sum_of_all : TermTree
sum_of_all = aggregate kind.Sum (over (0 ∷ [])) verum x

pub record SizesAreWorkedOut : Type 0 where
  -- 2 * 2 and 2 * 2 atoms; 2 * 2 + 4 + 4 * (2 * 2 * 6 + 1)
  pub atoms_of_areas : atom_count areas_and_colors two_areas ≡ 8
  pub weight_of_areas : weight_of areas_and_colors two_areas (theory (colors_differ ∷ [])) [] ≡ 108
  -- 2 atoms and 5 occurrences
  pub weight_of_propositions : weight_of propositions [] (theory (disjunction (formulas_of (p ∷ q ∷ [])) ∷ negation p
      ∷ [])) [] ≡ 22
  -- 900, 600 and 150 atoms; 747,022 occurrences
  pub atoms_of_timetable : atom_count timetable lessons ≡ 1650
  pub weight_of_timetable : weight_of timetable lessons lessons_differ (apply 1 (integer (pos 3)) ∷ []) ≡ 2989738
  -- 2,002 * 2,002 tuples of Border are too many, those of color alone are not; only the first declaration past the
  -- limit is refused
  pub few_atoms : refused_by_atoms two_areas ≡ None
  pub too_many_atoms : refused_by_atoms many_areas ≡ Some (refusal k.TooLarge 72)
  -- 4 * (1 + 252 + 63,504 + 16,003,008) and the atoms are above 64,000,000, with 251 elements they are below
  pub too_heavy : refused_sentence three_deep [] (up_to 252) ≡ Some (refusal k.TooLarge 50)
  pub light_enough : refused_sentence three_deep [] (up_to 251) ≡ None
  -- the theory that is not chosen is not looked at
  pub not_chosen : refused_second three_deep [] (up_to 252) ≡ None
  -- c * c is at most 10 ^ 12, c * c * c is 10 ^ 18
  pub small_product : refused (times (c ∷ c ∷ [])) (70 ∷ 70 ∷ 74 ∷ []) million ≡ None
  pub large_product : refused (times (c ∷ c ∷ c ∷ [])) (70 ∷ 70 ∷ 74 ∷ 78 ∷ []) million ≡ Some (refusal k.OutOfRange 70)
  -- c * c * c * 0: a prefix of the chain is too large
  pub large_front : refused (times (c ∷ c ∷ c ∷ integer (pos 0) ∷ [])) (70 ∷ 70 ∷ 74 ∷ 78 ∷ 82 ∷ []) million
      ≡ Some (refusal k.OutOfRange 70)
  -- c + c * c * c: the product begins further on, but the sum is too large too
  pub large_part : refused (plus c (times (c ∷ c ∷ c ∷ []))) (70 ∷ 70 ∷ 74 ∷ 74 ∷ 78 ∷ 82 ∷ []) million
      ≡ Some (refusal k.OutOfRange 70)
  -- 0 * (c * c * c): only the product in brackets is
  pub only_inside : refused (times (integer (pos 0) ∷ times (c ∷ c ∷ c ∷ []) ∷ [])) (70 ∷ 70 ∷ 74 ∷ 75 ∷ 79 ∷ 83
      ∷ []) million ≡ Some (refusal k.OutOfRange 74)
  -- 10 ^ 15, and 10 ^ 15 + 1
  pub at_the_limit : refused large (70 ∷ []) [] ≡ None
  pub past_the_limit : refused (plus large (integer (pos 1))) (70 ∷ 70 ∷ 89 ∷ []) [] ≡ Some (refusal k.OutOfRange 70)
  -- over an empty type c is from 0 to 0
  pub empty_type : refused (times (c ∷ large ∷ [])) (70 ∷ 70 ∷ 74 ∷ []) [] ≡ None
  -- sum{x : true : x} over 1..3 is from 0 to 9, and times 10 ^ 15 it is too large; the variable begins at 85
  pub bounded_sum : refused sum_of_all (70 ∷ 85 ∷ []) (up_to 3) ≡ None
  pub unbounded_sum : refused (times (sum_of_all ∷ large ∷ [])) (70 ∷ 70 ∷ 85 ∷ 90 ∷ []) (up_to 3)
      ≡ Some (refusal k.OutOfRange 70)
  -- !x: x * x * x < 1 in the chosen theory, and in the other
  pub in_the_theory : refused_sentence (universal (over (0
      ∷ [])) (comparison cmp.Lt (times (x ∷ x ∷ x ∷ [])) (integer (pos 1)))) (54 ∷ 54 ∷ 56 ∷ 58 ∷ 60 ∷ []) million
      ≡ Some (refusal k.OutOfRange 54)
  pub in_the_other : refused_second (universal (over (0
      ∷ [])) (comparison cmp.Lt (times (x ∷ x ∷ x ∷ [])) (integer (pos 1)))) (64 ∷ 64 ∷ 66 ∷ 68 ∷ 70 ∷ []) million
      ≡ None
  -- !x[N]: c = x <- x * x * x < 1, and with 10 ^ 15 + 1 as the head's value
  pub in_a_body : refused_rule (cubes_below x) (60 ∷ 65 ∷ 65 ∷ 67 ∷ 69 ∷ 71 ∷ []) million
      ≡ Some (refusal k.OutOfRange 65)
  pub small_body : refused_rule (cubes_below x) (60 ∷ 65 ∷ 65 ∷ 67 ∷ 69 ∷ 71 ∷ []) (up_to 3) ≡ None
  pub in_a_head : refused_rule (cubes_below (integer (pos 1000000000000001))) (60 ∷ 80 ∷ 80 ∷ 82 ∷ 84 ∷ 86 ∷ [])
      (up_to 3) ≡ Some (refusal k.OutOfRange 60)
