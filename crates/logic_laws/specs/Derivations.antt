-- Whether an atom is derived, as a test, and worked examples of models of definitions.
use Rattle.std.specs.Prelude.{◌≡◌, ◌↔◌, ℕ, pos, List, [], ◌∷◌, map, Bool, true, false, ◌&&◌, ◌==◌, Option, Some, None}
use Rattle.std.specs.Prelude.{option_map, IsTrue}
use Rattle.std.specs.List.{list_any}
use Rattle.kb_logic.specs.declared.elements.Elem.{Elem}
use Rattle.kb_logic.specs.declared.elements.Elem.TheVariants.{Num}
use Rattle.kb_logic.specs.declared.vocabularies.Bound.{Bound}
use Rattle.kb_logic.specs.declared.vocabularies.Symbol.{Symbol}
use Rattle.kb_logic.specs.declared.vocabularies.Vocabulary.{Vocabulary}
use Rattle.kb_logic.specs.declared.structures.Table.{Table}
use Rattle.kb_logic.specs.declared.structures.Structure.{Structure}
use Rattle.kb_logic.specs.Trees.{TermTree, variable, integer, FormulaTree, verum, atom, no_terms, terms_of, RuleTree}
use Rattle.kb_logic.specs.Trees.{DefinitionTree}
use Rattle.kb_logic.specs.Denotations.{Denotation, denotation_of, same_value}
use Rattle.kb_logic.specs.Meaning.{assignments, value_of, values_of, truth_of}
use Rattle.kb_logic.specs.Models.{GroundAtom, IsDerived, ModelOfDefinition}

abbrev pub same_values : List Denotation → List Denotation → Bool
same_values [] [] = true
same_values [] (v ∷ vs) = false
same_values (u ∷ us) [] = false
same_values (u ∷ us) (v ∷ vs) = same_value u v && same_values us vs

abbrev pub same_optional_value : Option Denotation → Option Denotation → Bool
same_optional_value None None = true
same_optional_value None (Some v) = false
same_optional_value (Some u) None = false
same_optional_value (Some u) (Some v) = same_value u v

-- under the assignment e the head of the rule is the atom
abbrev pub is_head : Structure → RuleTree → GroundAtom → List Elem → Bool
is_head m r a e =
    (r.symbol == a.symbol)
    && (same_values (values_of m (terms_of r.args) e) (map denotation_of a.args)
    && same_optional_value (option_map (λ t. value_of m t e) r.value) (option_map denotation_of a.value))

-- some instance of some rule has the atom as its head, and a true body
abbrev pub is_derived : Structure → DefinitionTree → GroundAtom → Bool
is_derived m d a = list_any (λ r. list_any (λ e. is_head m r a e && truth_of m r.body e) (assignments m r.vars)) d.rules

-- the test tells what is derived
abbrev pub DerivedIsDecided : Type 0
DerivedIsDecided = (m : Structure) (d : DefinitionTree) (a : GroundAtom) → IsTrue (is_derived m d a) ↔ IsDerived m d a

abbrev pub one : Elem
one = Num (pos 1)

abbrev pub two : Elem
two = Num (pos 2)

abbrev proposition : Symbol
proposition = record { name = []; args = []; value = None }

-- p, q and o are the propositions 0, 1 and 2; f is the function 3 from type 0, which has 1 and 2, to itself; type 1 is
-- empty
abbrev pub words : Vocabulary
words = record {
  name = [];
  types = [];
  symbols = proposition ∷ proposition ∷ proposition ∷ record {
    name = [];
    args =
        0 ∷ [];
    value = Some 0;
  } ∷ [];
}

abbrev table : ℕ → List (List Elem) → Table
table s rows = record { symbol = s; rows = rows }

-- the structure with these rows of p, q, o and f; a proposition is true by the empty row
abbrev pub world : List (List Elem) → List (List Elem) → List (List Elem) → List (List Elem) → Structure
world p q o f = record {
  domains = (one ∷ two ∷ []) ∷ [] ∷ [];
  relations = table 0 p ∷ table 1 q ∷ table 2 o ∷ [];
  functions = table 3 f ∷ [];
}

abbrev pub yes : List (List Elem)
yes = [] ∷ []

abbrev pub constant_one : List (List Elem)
constant_one = (one ∷ one ∷ []) ∷ (two ∷ one ∷ []) ∷ []

abbrev pub p_if : List Bound → FormulaTree → RuleTree
p_if vars body = record { vars = vars; symbol = 0; args = []; value = None; has_body = true; body = body }

abbrev pub said : ℕ → FormulaTree
said s = atom s no_terms

abbrev rules : List RuleTree → DefinitionTree
rules rs = record { rules = rs }

abbrev of_type : ℕ → List Bound
of_type ty = record { name = []; ty = ty } ∷ []

-- `f(x) = n` for each x
abbrev pub f_is : TermTree → RuleTree
f_is n = record {
  vars = of_type 0;
  symbol = 3;
  args = variable 0 ∷ [];
  value = Some n;
  has_body = false;
  body = verum;
}

abbrev pub p_holds : GroundAtom
p_holds = record { symbol = 0; args = []; value = None }

abbrev pub f_at_one : Elem → GroundAtom
f_at_one x = record { symbol = 3; args = one ∷ []; value = Some x }

-- `p <- q.`
abbrev pub p_if_q : DefinitionTree
p_if_q = rules (p_if [] (said 1) ∷ [])

-- `f(x) = 1. f(x) = 2.`
abbrev pub both_values : DefinitionTree
both_values = rules (f_is (integer (pos 1)) ∷ f_is (integer (pos 2)) ∷ [])

-- what is derived and what is a model: by a rule with a true body; by the second of two rules; by a fact; not by a rule
-- with a variable over an empty type; not where the value is outside the value type; and two rules may give a function
-- two values
pub record DefinitionExamples : Type 0 where
  pub model : ModelOfDefinition words (world yes yes [] constant_one) p_if_q
  pub not_closed : ModelOfDefinition words (world [] yes [] constant_one) p_if_q → ⊥
  pub not_founded : ModelOfDefinition words (world yes [] [] constant_one) p_if_q → ⊥
  pub second_rule : is_derived (world [] [] yes constant_one) (rules (p_if [] (said 1) ∷ p_if [] (said 2) ∷ []))
      p_holds ≡ true
  pub fact : is_derived (world [] [] [] constant_one) (rules (p_if [] verum ∷ [])) p_holds ≡ true
  pub some_instance : is_derived (world [] [] [] constant_one) (rules (p_if (of_type 0) verum ∷ [])) p_holds ≡ true
  pub empty_type : is_derived (world [] [] [] constant_one) (rules (p_if (of_type 1) verum ∷ [])) p_holds ≡ false
  pub value_outside : (is_derived (world [] [] [] constant_one) (rules (f_is (integer (pos 3)) ∷ []))
      (f_at_one one) ≡ false)
      × (is_derived (world [] [] [] constant_one) (rules (f_is (integer (pos 3)) ∷ [])) (f_at_one two) ≡ false)
  pub two_values : ModelOfDefinition words (world [] [] [] constant_one) both_values → ⊥
