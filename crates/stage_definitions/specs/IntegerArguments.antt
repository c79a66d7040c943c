-- The integers that stand as arguments of functions and of heads.
--
-- Each list has one item a term, in the order in which the places of terms are kept, a term before its parts.
use Rattle.std.specs.Prelude.{ℕ, ℤ, neg_ℤ, Bool, List, [], ◌∷◌, ◌++◌, Option, None, Some, slice_get, if◌then◌else◌}
use Rattle.std.specs.Prelude.{zip, filter_map, option_to_list}
use Rattle.std.specs.List.{flat_map}
use Rattle.kb_logic.specs.declared.vocabularies.Symbol.{Symbol}
use Rattle.kb_logic.specs.Trees.{TermTree, variable, integer, constructed, application, summation, product, aggregate}
use Rattle.kb_logic.specs.Trees.{TermTrees, no_terms, more_terms, SummandTrees, no_summands, more_summands}
use Rattle.kb_logic.specs.Trees.{FormulaTree, verum, falsum, atom, comparison, negation, conjunction, disjunction}
use Rattle.kb_logic.specs.Trees.{implication, equivalence, universal, existential, numbered, FormulaTrees}
use Rattle.kb_logic.specs.Trees.{no_formulas, more_formulas, terms_of}
use Rattle.stage_definitions.specs.TheoryItems.{TheoryItem, sentence, rule}
use Rattle.stage_definitions.specs.Demands.{argument_types, later_types}

-- an integer, and the type of its position
abbrev pub Placed : Type 0
Placed = ℤ × ℕ

-- an integer as an argument of a function or of a head: where it stands, and the type of its position
pub record Argument : Type 0 where
  pub place : ℕ
  pub number : ℤ
  pub ty : ℕ

-- with a minus or without
abbrev pub signed : Bool → ℤ → ℤ
signed minus z = if minus then neg_ℤ z else z

-- the integer that a term is, with or without a minus
abbrev pub integer_in : TermTree → Option ℤ
integer_in (integer z) = Some z
integer_in (summation (more_summands minus (integer z) no_summands)) = Some (signed minus z)
integer_in _ = None

-- an integer at a position of this type
abbrev pub placed_at : ℕ → Option ℤ → Option Placed
placed_at t None = None
placed_at t (Some z) = Some (z, t)

-- the integer that a term is, where it stands at a position of a function
abbrev pub placed : Option ℕ → TermTree → Option Placed
placed None t = None
placed (Some ty) t = placed_at ty (integer_in t)

-- the type of the next position
abbrev pub first_position : List ℕ → Option ℕ
first_position [] = None
first_position (t ∷ ts) = Some t

abbrev mutual
  pub formula_integers : List Symbol → FormulaTree → List (Option Placed)
  formula_integers symbols verum = []
  formula_integers symbols falsum = []
  formula_integers symbols (atom s ts) = argument_integers symbols [] ts
  formula_integers symbols (comparison c a b) = term_integers symbols None a ++ term_integers symbols None b
  formula_integers symbols (negation f) = formula_integers symbols f
  formula_integers symbols (conjunction fs) = all_integers symbols fs
  formula_integers symbols (disjunction fs) = all_integers symbols fs
  formula_integers symbols (implication f g) = formula_integers symbols f ++ formula_integers symbols g
  formula_integers symbols (equivalence f g) = formula_integers symbols f ++ formula_integers symbols g
  formula_integers symbols (universal bs f) = formula_integers symbols f
  formula_integers symbols (existential bs f) = formula_integers symbols f
  formula_integers symbols (numbered c k bs f) = formula_integers symbols f

  pub all_integers : List Symbol → FormulaTrees → List (Option Placed)
  all_integers symbols no_formulas = []
  all_integers symbols (more_formulas f fs) = formula_integers symbols f ++ all_integers symbols fs

  -- a term, at a position of this type where it is an argument of a function, and then its parts
  pub term_integers : List Symbol → Option ℕ → TermTree → List (Option Placed)
  term_integers symbols position (variable n) = placed position (variable n) ∷ []
  term_integers symbols position (integer z) = placed position (integer z) ∷ []
  term_integers symbols position (constructed ty n) = placed position (constructed ty n) ∷ []
  term_integers symbols position (application s ts) =
      placed position (application s ts) ∷ argument_integers symbols (argument_types (slice_get symbols s)) ts
  term_integers symbols position (summation ss) = placed position (summation ss) ∷ summand_integers symbols ss
  term_integers symbols position (product ts) = placed position (product ts) ∷ argument_integers symbols [] ts
  term_integers symbols position (aggregate k bs f t) =
      placed position (aggregate k bs f t) ∷ (formula_integers symbols f ++ term_integers symbols None t)

  -- terms at positions of these types; past them, and in predicates and products, at no position
  pub argument_integers : List Symbol → List ℕ → TermTrees → List (Option Placed)
  argument_integers symbols types no_terms = []
  argument_integers symbols types (more_terms t ts) =
      term_integers symbols (first_position types) t ++ argument_integers symbols (later_types types) ts

  pub summand_integers : List Symbol → SummandTrees → List (Option Placed)
  summand_integers symbols no_summands = []
  summand_integers symbols (more_summands minus t ss) = term_integers symbols None t ++ summand_integers symbols ss

-- the integers in an item of a theory
abbrev pub item_integers : List Symbol → TheoryItem → List (Option Placed)
item_integers symbols (sentence f) = formula_integers symbols f
item_integers symbols (rule r) =
    argument_integers symbols (argument_types (slice_get symbols r.symbol)) (terms_of r.args)
    ++ (flat_map (term_integers symbols None) (option_to_list r.value) ++ formula_integers symbols r.body)

-- an integer with its place
abbrev pub with_place : ℕ × Option Placed → Option Argument
with_place (p, None) = None
with_place (p, Some x) = Some (record { place = p; number = x.0; ty = x.1 })

-- the arguments among some terms that begin at these places
abbrev pub arguments_at : List ℕ → List (Option Placed) → List Argument
arguments_at places xs = filter_map with_place (zip places xs)
