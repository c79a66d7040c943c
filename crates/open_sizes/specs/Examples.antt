-- Worked examples of what is open, over domains that are small enough to work them out by hand.
use Rattle.std.specs.Prelude.{◌≡◌, ℕ, pos, List, [], ◌∷◌, map, Bool, true, false, Option, None, Some}
use Rattle.kb_logic.specs.declared.elements.Elem.{Elem}
use Rattle.kb_logic.specs.declared.elements.Elem.TheVariants.{Named, Num}
use Rattle.kb_logic.specs.declared.syntax.AggKind.TheVariants as kind
use Rattle.kb_logic.specs.declared.syntax.Cmp.TheVariants as cmp
use Rattle.kb_logic.specs.declared.vocabularies.Bound.{Bound}
use Rattle.kb_logic.specs.declared.vocabularies.Parent.TheVariants as parent
use Rattle.kb_logic.specs.declared.vocabularies.Symbol.{Symbol}
use Rattle.kb_logic.specs.declared.vocabularies.Vocabulary.{Vocabulary}
use Rattle.kb_logic.specs.Models.{GroundAtom}
use Rattle.kb_logic.specs.KnownAtoms.{KnownAtoms}
use Rattle.kb_logic.specs.Trees.{TermTree, variable, integer, application, aggregate, terms_of, FormulaTree, atom}
use Rattle.kb_logic.specs.Trees.{comparison, negation, conjunction, disjunction, implication, equivalence, universal}
use Rattle.kb_logic.specs.Trees.{existential, numbered, formulas_of, RuleTree, TheoryTree}
use Rattle.kb_logic.specs.Weights.{weight_of}
use Rattle.partial_structures.specs.KnownAtoms.{nothing_known, with_true, with_closed}
use Rattle.open_sizes.specs.OpenWeights.{open_occurrences, open_in_rule, open_in_asked, open_weight_of}

abbrev symbol : List ℕ → Option ℕ → Symbol
symbol args value = record { name = []; args = args; value = value }

abbrev over : List Symbol → Vocabulary
over symbols = record {
  name = [];
  types = record { name = []; parent = parent.Root; made = [] } ∷ record { name = []; parent = parent.Nat; made = [] }
      ∷ [];
  symbols = symbols;
}

abbrev holds : ℕ → List Elem → Option Elem → GroundAtom
holds s args value = record { symbol = s; args = args; value = value }

abbrev number : ℕ → Elem
number n = Num (pos n)

abbrev each : List ℕ → List Bound
each types = map (λ t. record { name = []; ty = t }) types

abbrev x : TermTree
x = variable 0

abbrev y : TermTree
y = variable 1

abbrev at : ℕ → TermTree
at n = integer (pos n)

abbrev says : ℕ → List TermTree → FormulaTree
says s ts = atom s (terms_of ts)

abbrev applied : ℕ → List TermTree → TermTree
applied s ts = application s (terms_of ts)

abbrev either : FormulaTree → FormulaTree → FormulaTree
either f g = disjunction (formulas_of (f ∷ g ∷ []))

abbrev both : FormulaTree → FormulaTree → FormulaTree
both f g = conjunction (formulas_of (f ∷ g ∷ []))

abbrev theory : FormulaTree → TheoryTree
theory f = record { sentences = f ∷ []; definitions = [] }

-- ---- three areas and two colors: of the borders there is one alone, and of the colors nothing is known

abbrev map_of_areas : Vocabulary
map_of_areas = over (symbol (0 ∷ 0 ∷ []) None ∷ symbol (0 ∷ []) (Some 1) ∷ [])

abbrev area : ℕ → Elem
area n = Named (n ∷ [])

abbrev one_border : KnownAtoms
one_border =
    let nothing = nothing_known map_of_areas.symbols ((area 97 ∷ area 98 ∷ area 99 ∷ [])
    ∷ (number 1 ∷ number 2 ∷ []) ∷ []) in
    with_closed (with_true nothing (holds 0 (area 97 ∷ area 98 ∷ []) None)) 0

-- !x y: Border(x, y) => color(x) ~= color(y).
abbrev colors_differ : TheoryTree
colors_differ = theory (universal (each (0 ∷ 0 ∷ [])) (implication (says 0 (x ∷ y
    ∷ [])) (comparison cmp.Ne (applied 1 (x ∷ [])) (applied 1 (y ∷ [])))))

-- ---- the numbers 1, 2 and 3, with P(1..3) unknown and Q = {1, 2}

abbrev numbers : Vocabulary
numbers = over (symbol (1 ∷ []) None ∷ symbol (1 ∷ 1 ∷ []) None ∷ [])

abbrev three : List (List Elem)
three = [] ∷ (number 1 ∷ number 2 ∷ number 3 ∷ []) ∷ []

abbrev one_pair : Vocabulary → KnownAtoms
one_pair v = with_closed (with_true (nothing_known v.symbols three) (holds 1 (number 1 ∷ number 2 ∷ []) None)) 1

-- !x y: Q(x, y) => P(x) | P(y).
abbrev one_of_a_pair : TheoryTree
one_of_a_pair = theory (universal (each (1 ∷ 1 ∷ [])) (implication (says 1 (x ∷ y ∷ [])) (either (says 0 (x ∷ []))
    (says 0 (y ∷ [])))))

-- ---- the same, with an unknown constant c and a function f of which it is known that f(1) = 2

abbrev functions : Vocabulary
functions = over (symbol (1 ∷ []) None ∷ symbol (1 ∷ 1 ∷ []) None ∷ symbol [] (Some 1) ∷ symbol (1 ∷ []) (Some 1) ∷ [])

abbrev one_value : KnownAtoms
one_value = with_true (one_pair functions) (holds 3 (number 1 ∷ []) (Some (number 2)))

abbrev open_in : FormulaTree → ℕ
open_in f = open_occurrences functions one_value f []

abbrev c : TermTree
c = applied 2 []

abbrev p : TermTree → FormulaTree
p t = says 0 (t ∷ [])

abbrev q : TermTree → TermTree → FormulaTree
q t u = says 1 (t ∷ u ∷ [])

-- the sum of the weight over the numbers with this condition
abbrev sum_where : FormulaTree → TermTree → TermTree
sum_where f t = aggregate kind.Sum (each (1 ∷ [])) f t

-- P(x) <- body, for each number x
abbrev rule : Bool → FormulaTree → RuleTree
rule has_body body = record {
  vars = each (1 ∷ []);
  symbol = 0;
  args = x ∷ [];
  value = None;
  has_body = has_body;
  body = body;
}

pub record OpenIsWorkedOut : Type 0 where
  -- 9 and 3 * 2 atoms, 9 * 6 and 1 occurrences; open are 3 * 2 atoms, the sentence, and at one pair the implication and
  -- the comparison 2 * 2 times
  pub map_weight : weight_of map_of_areas one_border.domains colors_differ [] ≡ 235
  pub map_open : open_weight_of map_of_areas one_border colors_differ [] ≡ 30
  -- 3 and 9 atoms, 9 * 5 and 1 occurrences; open are 3 atoms, the sentence, and at one pair the implication, the
  -- disjunction and its two atoms
  pub pair_weight : weight_of numbers three one_of_a_pair [] ≡ 196
  pub pair_open : open_weight_of numbers (one_pair numbers) one_of_a_pair [] ≡ 23
  -- a certain part of what is open: P(1) & Q(1, 2), and ~(P(1) <=> Q(2, 1))
  pub certain_part : open_in (both (p (at 1)) (q (at 1) (at 2))) ≡ 2
  pub certain_side : open_in (negation (equivalence (p (at 1)) (q (at 2) (at 1)))) ≡ 3
  -- an open part of what is certain: P(1) | Q(1, 2)
  pub open_part : open_in (either (p (at 1)) (q (at 1) (at 2))) ≡ 0
  -- quantifiers: ?x: Q(x, 3) & P(x) is false, ?x: Q(x, 2) & P(x) has one open instance, ?2 x: P(x) has three
  pub false_instances : open_in (existential (each (1 ∷ [])) (both (q x (at 3)) (p x))) ≡ 0
  pub one_instance : open_in (existential (each (1 ∷ [])) (both (q x (at 2)) (p x))) ≡ 3
  pub counted_instances : open_in (numbered cmp.Eq (pos 2) (each (1 ∷ [])) (p x)) ≡ 4
  -- applications: P(c) has 3, P(f(c)) has 3 * 3, P(f(1)) has 3 though f(1) is known, and c = f(2) has 3 * 3
  pub constant : open_in (p c) ≡ 3
  pub nested : open_in (p (applied 3 (c ∷ []))) ≡ 9
  pub known_argument : open_in (p (applied 3 (at 1 ∷ []))) ≡ 3
  pub two_sides : open_in (comparison cmp.Eq c (applied 3 (at 2 ∷ []))) ≡ 9
  -- aggregates: one with three open conditions; one with certain ones and an unknown weight, which has 3 values under
  -- each of 3 assignments; and two whose values are known, beside c
  pub open_conditions : open_in (comparison cmp.Gt (sum_where (p x) x) (at 3)) ≡ 7
  pub unknown_weight : open_in (comparison cmp.Eq (sum_where (q (at 1) x) (applied 3 (x ∷ []))) (at 1)) ≡ 10
  pub known_aggregate : open_in (comparison cmp.Eq (sum_where (q (at 1) x) x) c) ≡ 3
  pub known_weight : open_in (comparison cmp.Eq (sum_where (q x (at 2)) (applied 3 (x ∷ []))) c) ≡ 3
  -- rules: the head counts under each of 3 assignments, and the body where it is open and written
  pub certain_body : open_in_rule functions one_value (rule true (q x (at 2))) ≡ 4
  pub open_body : open_in_rule functions one_value (rule true (both (q x (at 2)) (p x))) ≡ 6
  pub no_body : open_in_rule functions one_value (rule false (p x)) ≡ 4
  -- terms that may be asked for: c has 3 values, f(1) is known, and an aggregate counts as in a formula
  pub open_term : open_in_asked functions one_value c ≡ 3
  pub known_term : open_in_asked functions one_value (applied 3 (at 1 ∷ [])) ≡ 0
  pub open_aggregate : open_in_asked functions one_value (sum_where (p x) x) ≡ 7
