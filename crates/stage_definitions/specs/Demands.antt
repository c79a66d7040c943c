-- What formulas, terms and rules demand of the types of their terms, each list of variables round what is demanded in
-- its scope.
use Rattle.std.specs.Prelude.{ℕ, Bool, true, false, List, [], ◌∷◌, ◌++◌, map, Option, None, Some, slice_get}
use Rattle.kb_logic.specs.declared.syntax.Cmp.{Cmp}
use Rattle.kb_logic.specs.declared.syntax.Cmp.TheVariants as cmp
use Rattle.kb_logic.specs.declared.vocabularies.Symbol.{Symbol}
use Rattle.stage_definitions.specs.NamedTrees.{NamedVar, NamedTerm, at, NamedNode, variable, integer, constructed}
use Rattle.stage_definitions.specs.NamedTrees.{application, summation, product, aggregate, NamedTerms, no_terms}
use Rattle.stage_definitions.specs.NamedTrees.{more_terms, NamedSummands, no_summands, more_summands, NamedFormula}
use Rattle.stage_definitions.specs.NamedTrees.{truth}
use Rattle.stage_definitions.specs.NamedTrees.{atom, comparison, negation, conjunction, disjunction, implication}
use Rattle.stage_definitions.specs.NamedTrees.{equivalence, universal, existential, numbered, NamedFormulas}
use Rattle.stage_definitions.specs.NamedTrees.{no_formulas}
use Rattle.stage_definitions.specs.NamedTrees.{more_formulas, place_of, terms_of, NamedRule}

-- a term's type: `int`, a type of the vocabulary, or none, as of a variable that has none
pub data TermType : Type 0 where
  whole : TermType
  declared : ℕ → TermType
  untyped : TermType

-- where a term's type comes from: the term is the variable with this number, or has a type by itself
pub data Kind : Type 0 where
  of_variable : ℕ → Kind
  by_itself : TermType → Kind

pub data Demand : Type 0 where
  -- a term that begins here has to be a number
  a_number : ℕ → Kind → Demand
  -- the sides of a comparison, of which the left one begins here
  sides : ℕ → Kind → Kind → Demand
  -- an argument that begins here, and its position's type; of a function, and whether it is an integer
  predicate_argument : ℕ → Kind → ℕ → Demand
  function_argument : ℕ → Bool → Kind → ℕ → Demand
  -- the value of a head that begins here, and its function's value type, in which it need not be
  head_value : ℕ → Kind → ℕ → Demand

-- what is found of a variable's type: nothing yet, a type, or types of which none is the least
pub data Finding : Type 0 where
  nothing : Finding
  found : ℕ → Finding
  torn : Finding

-- a variable where it is bound: its place, and what is found of its type
pub record Binding : Type 0 where
  pub place : ℕ
  pub finding : Finding

mutual
  -- a demand, or a list of variables with what is demanded in its scope
  pub data Part : Type 0 where
    demand : Demand → Part
    scope : List Binding → Parts → Part

  pub data Parts : Type 0 where
    no_parts : Parts
    more_parts : Part → Parts → Parts

abbrev pub parts_of : List Part → Parts
parts_of [] = no_parts
parts_of (p ∷ ps) = more_parts p (parts_of ps)

-- ---- variables where they are bound: a type that is written is found

abbrev pub written : Option ℕ → Finding
written None = nothing
written (Some t) = found t

abbrev pub binding_of : NamedVar → Binding
binding_of x = record { place = x.place; finding = written x.ty }

-- ---- terms

abbrev pub known : Option ℕ → TermType
known None = untyped
known (Some t) = declared t

-- the types of a symbol's arguments, and of its value
abbrev pub argument_types : Option Symbol → List ℕ
argument_types None = []
argument_types (Some s) = s.args

abbrev pub value_type : Option Symbol → Option ℕ
value_type None = None
value_type (Some s) = s.value

abbrev pub kind_of_node : List Symbol → NamedNode → Kind
kind_of_node symbols (variable n) = of_variable n
kind_of_node symbols (integer i) = by_itself whole
kind_of_node symbols (constructed t i) = by_itself (declared t)
kind_of_node symbols (application s ts) = by_itself (known (value_type (slice_get symbols s)))
kind_of_node symbols (summation ss) = by_itself whole
kind_of_node symbols (product ts) = by_itself whole
kind_of_node symbols (aggregate how xs f w) = by_itself whole

abbrev pub kind_of : List Symbol → NamedTerm → Kind
kind_of symbols (at p x) = kind_of_node symbols x

abbrev pub is_plain_node : NamedNode → Bool
is_plain_node (variable n) = false
is_plain_node (integer i) = true
is_plain_node (constructed t i) = false
is_plain_node (application s ts) = false
is_plain_node (summation ss) = false
is_plain_node (product ts) = false
is_plain_node (aggregate how xs f w) = false

abbrev pub is_plain_integer : NamedTerm → Bool
is_plain_integer (at p x) = is_plain_node x

abbrev pub is_lone_integer : NamedSummands → Bool
is_lone_integer no_summands = false
is_lone_integer (more_summands m t no_summands) = is_plain_integer t
is_lone_integer (more_summands m t (more_summands n u ss)) = false

-- an integer, with or without a minus
abbrev pub is_integer_node : NamedNode → Bool
is_integer_node (variable n) = false
is_integer_node (integer i) = true
is_integer_node (constructed t i) = false
is_integer_node (application s ts) = false
is_integer_node (summation ss) = is_lone_integer ss
is_integer_node (product ts) = false
is_integer_node (aggregate how xs f w) = false

abbrev pub is_integer_term : NamedTerm → Bool
is_integer_term (at p x) = is_integer_node x

-- ---- single demands

abbrev pub number_demand : List Symbol → NamedTerm → Part
number_demand symbols t = demand (a_number (place_of t) (kind_of symbols t))

abbrev pub is_order : Cmp → Bool
is_order cmp.Eq = false
is_order cmp.Ne = false
is_order cmp.Lt = true
is_order cmp.Gt = true
is_order cmp.Le = true
is_order cmp.Ge = true

abbrev pub order_demands : List Symbol → Bool → NamedTerm → NamedTerm → List Part
order_demands symbols true x y = number_demand symbols x ∷ number_demand symbols y ∷ []
order_demands symbols false x y = []

abbrev pub comparison_demands : List Symbol → Cmp → NamedTerm → NamedTerm → List Part
comparison_demands symbols c x y =
    demand (sides (place_of x) (kind_of symbols x) (kind_of symbols y)) ∷ order_demands symbols (is_order c) x y

-- an argument of a function, or else of a predicate, at a position of this type
abbrev pub argument_of : List Symbol → Bool → NamedTerm → ℕ → Demand
argument_of symbols true x t = function_argument (place_of x) (is_integer_term x) (kind_of symbols x) t
argument_of symbols false x t = predicate_argument (place_of x) (kind_of symbols x) t

abbrev pub argument_demands : List Symbol → Bool → NamedTerm → List ℕ → List Part
argument_demands symbols of_function x [] = []
argument_demands symbols of_function x (t ∷ types) = demand (argument_of symbols of_function x t) ∷ []

abbrev pub later_types : List ℕ → List ℕ
later_types [] = []
later_types (t ∷ types) = types

-- ---- formulas and terms

abbrev mutual
  pub formula_parts : List Symbol → NamedFormula → List Part
  formula_parts symbols (truth b) = []
  formula_parts symbols (atom s ts) = arguments_parts symbols false (argument_types (slice_get symbols s)) ts
  formula_parts symbols (comparison c x y) = comparison_demands symbols c x y ++
      (term_parts symbols x ++ term_parts symbols y)
  formula_parts symbols (negation f) = formula_parts symbols f
  formula_parts symbols (conjunction fs) = formulas_parts symbols fs
  formula_parts symbols (disjunction fs) = formulas_parts symbols fs
  formula_parts symbols (implication f g) = formula_parts symbols f ++ formula_parts symbols g
  formula_parts symbols (equivalence f g) = formula_parts symbols f ++ formula_parts symbols g
  formula_parts symbols (universal xs f) = scope (map binding_of xs) (parts_of (formula_parts symbols f)) ∷ []
  formula_parts symbols (existential xs f) = scope (map binding_of xs) (parts_of (formula_parts symbols f)) ∷ []
  formula_parts symbols (numbered c n xs f) = scope (map binding_of xs) (parts_of (formula_parts symbols f)) ∷ []

  pub formulas_parts : List Symbol → NamedFormulas → List Part
  formulas_parts symbols no_formulas = []
  formulas_parts symbols (more_formulas f fs) = formula_parts symbols f ++ formulas_parts symbols fs

  -- the parts of a term; what its own place demands is not among them
  pub term_parts : List Symbol → NamedTerm → List Part
  term_parts symbols (at p x) = node_parts symbols x

  pub node_parts : List Symbol → NamedNode → List Part
  node_parts symbols (variable n) = []
  node_parts symbols (integer i) = []
  node_parts symbols (constructed t i) = []
  node_parts symbols (application s ts) = arguments_parts symbols true (argument_types (slice_get symbols s)) ts
  node_parts symbols (summation ss) = summands_parts symbols ss
  node_parts symbols (product ts) = factors_parts symbols ts
  node_parts symbols (aggregate how xs f w) =
      scope (map binding_of xs) (parts_of (formula_parts symbols f ++ number_demand symbols w ∷ term_parts symbols w)) ∷
      []

  -- arguments at positions of these types
  pub arguments_parts : List Symbol → Bool → List ℕ → NamedTerms → List Part
  arguments_parts symbols of_function types no_terms = []
  arguments_parts symbols of_function types (more_terms t ts) =
      argument_demands symbols of_function t types
      ++ (term_parts symbols t ++ arguments_parts symbols of_function (later_types types) ts)

  pub factors_parts : List Symbol → NamedTerms → List Part
  factors_parts symbols no_terms = []
  factors_parts symbols (more_terms t ts) = number_demand symbols t ∷ (term_parts symbols t ++ factors_parts symbols ts)

  pub summands_parts : List Symbol → NamedSummands → List Part
  summands_parts symbols no_summands = []
  summands_parts symbols (more_summands m t ss) = number_demand symbols t ∷
      (term_parts symbols t ++ summands_parts symbols ss)

-- ---- rules

abbrev pub value_demands : List Symbol → Option ℕ → NamedTerm → List Part
value_demands symbols None x = []
value_demands symbols (Some t) x = demand (head_value (place_of x) (kind_of symbols x) t) ∷ []

-- the value of a head, where its function has this value type
abbrev pub value_parts : List Symbol → Option ℕ → Option NamedTerm → List Part
value_parts symbols type None = []
value_parts symbols type (Some x) = value_demands symbols type x ++ term_parts symbols x

-- a head: its arguments are as those of a function
abbrev pub head_parts : List Symbol → NamedRule → List Part
head_parts symbols r =
    arguments_parts symbols true (argument_types (slice_get symbols r.symbol)) (terms_of r.args)
    ++ value_parts symbols (value_type (slice_get symbols r.symbol)) r.value

-- what is demanded in the scope of a rule's variables
abbrev pub parts_in_rule : List Symbol → NamedRule → List Part
parts_in_rule symbols r = head_parts symbols r ++ formula_parts symbols r.body

abbrev pub rule_parts : List Symbol → NamedRule → List Part
rule_parts symbols r = scope (map binding_of r.vars) (parts_of (parts_in_rule symbols r)) ∷ []
