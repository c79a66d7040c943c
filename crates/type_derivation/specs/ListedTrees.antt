-- Trees whose variables take their types from the start of a list, in the order in which they are bound in the text.
-- Derivation works by these trees; they are the typed ones.
use Rattle.std.specs.Prelude.{ℕ, ◌≡◌, pos, List, [], ◌∷◌, Option, None, Some}
use Rattle.kb_logic.specs.declared.vocabularies.Vocabulary.{Vocabulary}
use Rattle.kb_logic.specs.declared.vocabularies.Bound.{Bound}
use Rattle.kb_logic.specs.Trees.{TermTree, TermTrees, SummandTrees, FormulaTree, FormulaTrees, RuleTree}
use Rattle.kb_logic.specs.Trees as tree
use Rattle.stage_definitions.specs.Demands.{later_types}
use Rattle.stage_definitions.specs.NamedTrees.{NamedVar, NamedTerm, at, NamedNode, variable, integer, constructed}
use Rattle.stage_definitions.specs.NamedTrees.{application, summation, product, aggregate, NamedTerms, no_terms}
use Rattle.stage_definitions.specs.NamedTrees.{more_terms, NamedSummands, no_summands, more_summands, NamedFormula}
use Rattle.stage_definitions.specs.NamedTrees.{truth}
use Rattle.stage_definitions.specs.NamedTrees.{atom, comparison, negation, conjunction, disjunction, implication}
use Rattle.stage_definitions.specs.NamedTrees.{equivalence, universal, existential, numbered, NamedFormulas}
use Rattle.stage_definitions.specs.NamedTrees.{no_formulas}
use Rattle.stage_definitions.specs.NamedTrees.{more_formulas, terms_of, NamedRule}
use Rattle.stage_definitions.specs.TypedTrees.{integer_of, truth_tree, typed_sentence, typed_rule, typed_block_term}
use Rattle.stage_definitions.specs.TypesStage.{sentence_settled, rule_settled, block_settled}
use Rattle.type_constraints.specs.ChosenTypes.{types_among}

-- the type at the start
abbrev pub first_type : List ℕ → ℕ
first_type [] = 0
first_type (t ∷ ts) = t

-- variables with the types at the start
abbrev pub listed_vars : List ℕ → List NamedVar → List Bound
listed_vars ts [] = []
listed_vars ts (x ∷ xs) = record { name = x.name; ty = first_type ts } ∷ listed_vars (later_types ts) xs

-- what is left after variables
abbrev pub left_vars : List ℕ → List NamedVar → List ℕ
left_vars ts [] = ts
left_vars ts (x ∷ xs) = left_vars (later_types ts) xs

-- what is left after a tree
abbrev mutual
  pub left_formula : List ℕ → NamedFormula → List ℕ
  left_formula ts (truth b) = ts
  left_formula ts (atom s us) = left_terms ts us
  left_formula ts (comparison c x y) = left_term (left_term ts x) y
  left_formula ts (negation f) = left_formula ts f
  left_formula ts (conjunction fs) = left_formulas ts fs
  left_formula ts (disjunction fs) = left_formulas ts fs
  left_formula ts (implication f g) = left_formula (left_formula ts f) g
  left_formula ts (equivalence f g) = left_formula (left_formula ts f) g
  left_formula ts (universal xs f) = left_formula (left_vars ts xs) f
  left_formula ts (existential xs f) = left_formula (left_vars ts xs) f
  left_formula ts (numbered c n xs f) = left_formula (left_vars ts xs) f

  pub left_formulas : List ℕ → NamedFormulas → List ℕ
  left_formulas ts no_formulas = ts
  left_formulas ts (more_formulas f fs) = left_formulas (left_formula ts f) fs

  pub left_term : List ℕ → NamedTerm → List ℕ
  left_term ts (at p x) = left_node ts x

  pub left_node : List ℕ → NamedNode → List ℕ
  left_node ts (variable n) = ts
  left_node ts (integer i) = ts
  left_node ts (constructed t i) = ts
  left_node ts (application s us) = left_terms ts us
  left_node ts (summation ss) = left_summands ts ss
  left_node ts (product us) = left_terms ts us
  left_node ts (aggregate how xs f w) = left_term (left_formula (left_vars ts xs) f) w

  pub left_terms : List ℕ → NamedTerms → List ℕ
  left_terms ts no_terms = ts
  left_terms ts (more_terms u us) = left_terms (left_term ts u) us

  pub left_summands : List ℕ → NamedSummands → List ℕ
  left_summands ts no_summands = ts
  left_summands ts (more_summands m u ss) = left_summands (left_term ts u) ss

-- trees whose variables have the types at the start
abbrev mutual
  pub listed_formula : List ℕ → NamedFormula → FormulaTree
  listed_formula ts (truth b) = truth_tree b
  listed_formula ts (atom s us) = tree.atom s (listed_terms ts us)
  listed_formula ts (comparison c x y) = tree.comparison c (listed_term ts x) (listed_term (left_term ts x) y)
  listed_formula ts (negation f) = tree.negation (listed_formula ts f)
  listed_formula ts (conjunction fs) = tree.conjunction (listed_formulas ts fs)
  listed_formula ts (disjunction fs) = tree.disjunction (listed_formulas ts fs)
  listed_formula ts (implication f g) = tree.implication (listed_formula ts f) (listed_formula (left_formula ts f) g)
  listed_formula ts (equivalence f g) = tree.equivalence (listed_formula ts f) (listed_formula (left_formula ts f) g)
  listed_formula ts (universal xs f) = tree.universal (listed_vars ts xs) (listed_formula (left_vars ts xs) f)
  listed_formula ts (existential xs f) = tree.existential (listed_vars ts xs) (listed_formula (left_vars ts xs) f)
  listed_formula ts (numbered c n xs f) =
      tree.numbered c (pos (integer_of n)) (listed_vars ts xs) (listed_formula (left_vars ts xs) f)

  pub listed_formulas : List ℕ → NamedFormulas → FormulaTrees
  listed_formulas ts no_formulas = tree.no_formulas
  listed_formulas ts (more_formulas f fs) = tree.more_formulas (listed_formula ts f)
      (listed_formulas (left_formula ts f) fs)

  pub listed_term : List ℕ → NamedTerm → TermTree
  listed_term ts (at p x) = listed_node ts x

  pub listed_node : List ℕ → NamedNode → TermTree
  listed_node ts (variable n) = tree.variable n
  listed_node ts (integer i) = tree.integer (pos (integer_of i))
  listed_node ts (constructed t i) = tree.constructed t i
  listed_node ts (application s us) = tree.application s (listed_terms ts us)
  listed_node ts (summation ss) = tree.summation (listed_summands ts ss)
  listed_node ts (product us) = tree.product (listed_terms ts us)
  listed_node ts (aggregate how xs f w) =
      tree.aggregate how (listed_vars ts xs) (listed_formula (left_vars ts xs) f)
      (listed_term (left_formula (left_vars ts xs) f) w)

  pub listed_terms : List ℕ → NamedTerms → TermTrees
  listed_terms ts no_terms = tree.no_terms
  listed_terms ts (more_terms u us) = tree.more_terms (listed_term ts u) (listed_terms (left_term ts u) us)

  pub listed_summands : List ℕ → NamedSummands → SummandTrees
  listed_summands ts no_summands = tree.no_summands
  listed_summands ts (more_summands m u ss) = tree.more_summands m (listed_term ts u)
      (listed_summands (left_term ts u) ss)

-- ---- rules: the variables before the head, then the head's arguments and its value, then the body

abbrev pub listed_args : List ℕ → List NamedTerm → List TermTree
listed_args ts [] = []
listed_args ts (u ∷ us) = listed_term ts u ∷ listed_args (left_term ts u) us

abbrev pub listed_value : List ℕ → Option NamedTerm → Option TermTree
listed_value ts None = None
listed_value ts (Some u) = Some (listed_term ts u)

abbrev pub left_value : List ℕ → Option NamedTerm → List ℕ
left_value ts None = ts
left_value ts (Some u) = left_term ts u

-- the arguments and the value of a head
abbrev pub listed_head : List ℕ → NamedRule → List TermTree × Option TermTree
listed_head ts r = (listed_args ts r.args, listed_value (left_terms ts (terms_of r.args)) r.value)

abbrev pub left_head : List ℕ → NamedRule → List ℕ
left_head ts r = left_value (left_terms ts (terms_of r.args)) r.value

abbrev pub listed_rule : List ℕ → NamedRule → RuleTree
listed_rule ts r = record {
  vars = listed_vars ts r.vars;
  symbol = r.symbol;
  args = (listed_head (left_vars ts r.vars) r).0;
  value = (listed_head (left_vars ts r.vars) r).1;
  has_body = r.has_body;
  body = listed_formula (left_head (left_vars ts r.vars) r) r.body;
}

-- the variables of a typed tree have, in the order in which they are bound, the types in the settled parts
pub record TypesAreInOrder : Type 0 where
  pub sentence : (v : Vocabulary) → (f : NamedFormula) → typed_sentence v f ≡ listed_formula
      (types_among (sentence_settled v f)) f
  pub rule : (v : Vocabulary) → (r : NamedRule) → typed_rule v r ≡ listed_rule (types_among (rule_settled v r)) r
  pub term : (v : Vocabulary) → (t : NamedTerm) → typed_block_term v t ≡ listed_term (types_among (block_settled v t)) t
