-- The tree with the types of its variables. Each variable has its written type, or else the type by its places, or else
-- the type by the other sides of its comparisons, as what stands in the scope of its list says.
use Rattle.std.specs.Prelude.{ℕ, pos, ◌+◌, ◌^◌, Bool, true, false, List, [], ◌∷◌, ◌++◌, length, map, Option, option_map}
use Rattle.kb_logic.specs.declared.vocabularies.Symbol.{Symbol}
use Rattle.kb_logic.specs.declared.vocabularies.TypeDecl.{TypeDecl}
use Rattle.kb_logic.specs.declared.vocabularies.Vocabulary.{Vocabulary}
use Rattle.kb_logic.specs.declared.vocabularies.Bound.{Bound}
use Rattle.kb_logic.specs.Trees.{TermTree, TermTrees, SummandTrees, FormulaTree, FormulaTrees, RuleTree}
use Rattle.kb_logic.specs.Trees as tree
use Rattle.stage_definitions.specs.Demands.{Finding, nothing, found, torn, Part, Parts, parts_of, written}
use Rattle.stage_definitions.specs.Demands.{formula_parts}
use Rattle.stage_definitions.specs.Demands.{term_parts, number_demand, parts_in_rule}
use Rattle.stage_definitions.specs.NamedTrees.{NamedVar, NamedTerm, at, NamedNode, variable, integer, constructed}
use Rattle.stage_definitions.specs.NamedTrees.{application, summation, product, aggregate, NamedTerms, no_terms}
use Rattle.stage_definitions.specs.NamedTrees.{more_terms, NamedSummands, no_summands, more_summands, NamedFormula}
use Rattle.stage_definitions.specs.NamedTrees.{truth}
use Rattle.stage_definitions.specs.NamedTrees.{atom, comparison, negation, conjunction, disjunction, implication}
use Rattle.stage_definitions.specs.NamedTrees.{equivalence, universal, existential, numbered, NamedFormulas}
use Rattle.stage_definitions.specs.NamedTrees.{no_formulas}
use Rattle.stage_definitions.specs.NamedTrees.{more_formulas, NamedRule}
use Rattle.stage_definitions.specs.Numbering.{within_count}
use Rattle.stage_definitions.specs.Typing.{finding_of, settled, places_in, by_places, sides_in, type_found}

-- ---- one variable: its number, and what is demanded in the scope of its list

-- what is found of its type as it is written, or else by its places
abbrev pub found_by_places : List TypeDecl → Parts → ℕ → NamedVar → Finding
found_by_places types ps n x = settled (written x.ty) (finding_of types (places_in n ps))

-- and where that is nothing, by the other sides of its comparisons; the variables in scope have these types, and those
-- that are bound further inside have theirs as they are written or by their places
abbrev pub found_by_sides : List TypeDecl → List (Option ℕ) → Parts → ℕ → NamedVar → Finding
found_by_sides types in_scope ps n x =
    settled (found_by_places types ps n x) (finding_of types (sides_in in_scope n
    (by_places types (length in_scope) ps)))

-- a type that is found; where none is, 0
abbrev pub chosen : Finding → ℕ
chosen nothing = 0
chosen (found t) = t
chosen torn = 0

-- ---- a list of variables, of which the first has the number n, and what is demanded in their scope

-- their types as they are written or by their places
abbrev pub types_by_places : List TypeDecl → Parts → ℕ → List NamedVar → List (Option ℕ)
types_by_places types ps n [] = []
types_by_places types ps n (x ∷ xs) = type_found (found_by_places types ps n x) ∷ types_by_places types ps (n + 1) xs

-- the variables with their types
abbrev pub typed_from : List TypeDecl → List (Option ℕ) → Parts → ℕ → List NamedVar → List Bound
typed_from types in_scope ps n [] = []
typed_from types in_scope ps n (x ∷ xs) =
    record { name = x.name; ty = chosen (found_by_sides types in_scope ps n x) } ∷ typed_from types in_scope
    ps (n + 1) xs

-- ---- a list of variables in the scope of others, which have these types as they are written or by their places

-- the types in the scope of the list, as they are written or by their places
abbrev pub inside : List TypeDecl → List (Option ℕ) → List NamedVar → List Part → List (Option ℕ)
inside types around xs ps = around ++ types_by_places types (parts_of ps) (length around) xs

-- the variables of the list with their types
abbrev pub typed_vars : List TypeDecl → List (Option ℕ) → List NamedVar → List Part → List Bound
typed_vars types around xs ps = typed_from types (inside types around xs ps) (parts_of ps) (length around) xs

-- ---- trees in the scope of variables with these types, as they are written or by their places

-- what an aggregate demands in the scope of its list
abbrev pub aggregate_parts : List Symbol → NamedFormula → NamedTerm → List Part
aggregate_parts symbols f w = formula_parts symbols f ++ number_demand symbols w ∷ term_parts symbols w

-- an integer past 64 bits is refused with the tokens, and counts as 0
abbrev pub integer_of : ℕ → ℕ
integer_of i = within_count (2 ^ 63) i

-- `true` and `false`
abbrev pub truth_tree : Bool → FormulaTree
truth_tree true = tree.verum
truth_tree false = tree.falsum

-- trees in which each list of variables has its types by what is demanded in its scope
abbrev mutual
  pub typed_formula : Vocabulary → List (Option ℕ) → NamedFormula → FormulaTree
  typed_formula v around (truth b) = truth_tree b
  typed_formula v around (atom s us) = tree.atom s (typed_terms v around us)
  typed_formula v around (comparison c x y) = tree.comparison c (typed_term v around x) (typed_term v around y)
  typed_formula v around (negation f) = tree.negation (typed_formula v around f)
  typed_formula v around (conjunction fs) = tree.conjunction (typed_formulas v around fs)
  typed_formula v around (disjunction fs) = tree.disjunction (typed_formulas v around fs)
  typed_formula v around (implication f g) = tree.implication (typed_formula v around f) (typed_formula v around g)
  typed_formula v around (equivalence f g) = tree.equivalence (typed_formula v around f) (typed_formula v around g)
  typed_formula v around (universal xs f) =
      tree.universal (typed_vars v.types around xs (formula_parts v.symbols f))
      (typed_formula v (inside v.types around xs (formula_parts v.symbols f)) f)
  typed_formula v around (existential xs f) =
      tree.existential (typed_vars v.types around xs (formula_parts v.symbols f))
      (typed_formula v (inside v.types around xs (formula_parts v.symbols f)) f)
  typed_formula v around (numbered c n xs f) =
      tree.numbered c (pos (integer_of n)) (typed_vars v.types around xs (formula_parts v.symbols f))
      (typed_formula v (inside v.types around xs (formula_parts v.symbols f)) f)

  pub typed_formulas : Vocabulary → List (Option ℕ) → NamedFormulas → FormulaTrees
  typed_formulas v around no_formulas = tree.no_formulas
  typed_formulas v around (more_formulas f fs) = tree.more_formulas (typed_formula v around f)
      (typed_formulas v around fs)

  pub typed_term : Vocabulary → List (Option ℕ) → NamedTerm → TermTree
  typed_term v around (at p x) = typed_node v around x

  pub typed_node : Vocabulary → List (Option ℕ) → NamedNode → TermTree
  typed_node v around (variable n) = tree.variable n
  typed_node v around (integer i) = tree.integer (pos (integer_of i))
  typed_node v around (constructed t i) = tree.constructed t i
  typed_node v around (application s us) = tree.application s (typed_terms v around us)
  typed_node v around (summation ss) = tree.summation (typed_summands v around ss)
  typed_node v around (product us) = tree.product (typed_terms v around us)
  typed_node v around (aggregate how xs f w) =
      tree.aggregate how (typed_vars v.types around xs (aggregate_parts v.symbols f w))
      (typed_formula v (inside v.types around xs (aggregate_parts v.symbols f w)) f)
      (typed_term v (inside v.types around xs (aggregate_parts v.symbols f w)) w)

  pub typed_terms : Vocabulary → List (Option ℕ) → NamedTerms → TermTrees
  typed_terms v around no_terms = tree.no_terms
  typed_terms v around (more_terms u us) = tree.more_terms (typed_term v around u) (typed_terms v around us)

  pub typed_summands : Vocabulary → List (Option ℕ) → NamedSummands → SummandTrees
  typed_summands v around no_summands = tree.no_summands
  typed_summands v around (more_summands m u ss) = tree.more_summands m (typed_term v around u)
      (typed_summands v around ss)

-- ---- trees in no variable's scope

-- a sentence with the types of its variables
abbrev pub typed_sentence : Vocabulary → NamedFormula → FormulaTree
typed_sentence v f = typed_formula v [] f

-- the term of a term block with the types of its variables
abbrev pub typed_block_term : Vocabulary → NamedTerm → TermTree
typed_block_term v t = typed_term v [] t

-- the types of a rule's variables, as they are written or by their places
abbrev pub rule_types : Vocabulary → NamedRule → List (Option ℕ)
rule_types v r = inside v.types [] r.vars (parts_in_rule v.symbols r)

-- a rule with the types of its variables, by what its head and its body demand
abbrev pub typed_rule : Vocabulary → NamedRule → RuleTree
typed_rule v r = record {
  vars = typed_vars v.types [] r.vars (parts_in_rule v.symbols r);
  symbol = r.symbol;
  args = map (typed_term v (rule_types v r)) r.args;
  value = option_map (typed_term v (rule_types v r)) r.value;
  has_body = r.has_body;
  body = typed_formula v (rule_types v r) r.body;
}
