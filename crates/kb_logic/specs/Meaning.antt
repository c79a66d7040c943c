-- The value of a term and the truth of a formula in a structure, under the elements e that are assigned to the
-- variables in scope, the outermost first. What is not well typed has the value `undefined` or is false.
use Rattle.std.specs.Prelude.{ℕ, ℤ, pos, ◌+ℤ◌, ◌*ℤ◌, neg_ℤ, List, [], ◌∷◌, ◌++◌, Bool, true, false, ◌&&◌, ◌||◌, ◌==◌}
use Rattle.std.specs.Prelude.{not, if◌then◌else◌, Option, Some, None, slice_get, map, filter, count_by}
use Rattle.std.specs.List.{list_all, list_any}
use Rattle.kb_logic.specs.declared.elements.Elem.{Elem}
use Rattle.kb_logic.specs.declared.vocabularies.Bound.{Bound}
use Rattle.kb_logic.specs.declared.structures.Table.{Table}
use Rattle.kb_logic.specs.declared.structures.Structure.{Structure}
use Rattle.kb_logic.specs.Trees.{TermTree, variable, integer, constructed, application, summation, product, aggregate}
use Rattle.kb_logic.specs.Trees.{TermTrees, no_terms, more_terms, SummandTrees, no_summands, more_summands, FormulaTree}
use Rattle.kb_logic.specs.Trees.{verum, falsum, atom, comparison, negation, conjunction, disjunction, implication}
use Rattle.kb_logic.specs.Trees.{equivalence, universal, existential, numbered, FormulaTrees, no_formulas}
use Rattle.kb_logic.specs.Trees.{more_formulas}
use Rattle.kb_logic.specs.Structures.{domain_at, choices}
use Rattle.kb_logic.specs.Denotations.{Denotation, number, undefined, denotation_of, same_value, compared, as_number}
use Rattle.kb_logic.specs.Denotations.{aggregate_value}

-- all assignments of elements to these variables, in domain order
abbrev pub assignments : Structure → List Bound → List (List Elem)
assignments m bs = choices m.domains bs

-- the rows of the table with this symbol
abbrev pub rows_of : ℕ → List Table → List (List Elem)
rows_of s [] = []
rows_of s (t ∷ ts) = if t.symbol == s then t.rows else rows_of s ts

-- what follows these values in a row, if it begins with them
abbrev pub behind : List Elem → List Denotation → Option (List Elem)
behind row [] = Some row
behind [] (v ∷ vs) = None
behind (x ∷ row) (v ∷ vs) = if same_value (denotation_of x) v then behind row vs else None

abbrev pub is_end : Option (List Elem) → Bool
is_end None = false
is_end (Some []) = true
is_end (Some (x ∷ rest)) = false

-- one of the rows has exactly these values
abbrev pub has_row : List (List Elem) → List Denotation → Bool
has_row [] vs = false
has_row (r ∷ rs) vs = if is_end (behind r vs) then true else has_row rs vs

-- the value of the one element that is left of a row
abbrev pub last_value : Option (List Elem) → Denotation
last_value None = undefined
last_value (Some []) = undefined
last_value (Some (x ∷ [])) = denotation_of x
last_value (Some (x ∷ y ∷ rest)) = undefined

-- the value that a function's rows give to these arguments
abbrev pub applied : List (List Elem) → List Denotation → Denotation
applied [] vs = undefined
applied (r ∷ rs) vs = elim (behind r vs) [ None ↦ applied rs vs | Some rest ↦ last_value (Some rest) ]

abbrev pub element_value : Option Elem → Denotation
element_value None = undefined
element_value (Some x) = denotation_of x

abbrev pub signed_of : Bool → ℤ → ℤ
signed_of minus z = if minus then neg_ℤ z else z

-- the first operand of a sum, added to the sum of the others
abbrev pub summand_plus : Bool → Denotation → Option ℤ → Option ℤ
summand_plus minus (number z) (Some s) = Some (signed_of minus z +ℤ s)
summand_plus minus v s = None

abbrev pub number_value : Option ℤ → Denotation
number_value None = undefined
number_value (Some z) = number z

-- the product of z and of these values
abbrev pub product_from : ℤ → List Denotation → Option ℤ
product_from z [] = Some z
product_from z (number y ∷ vs) = product_from (z *ℤ y) vs
product_from z (v ∷ vs) = None

abbrev pub same_truth : Bool → Bool → Bool
same_truth true b = b
same_truth false b = not b

-- the value of V under each of these assignments under which P is true
abbrev pub values_where : (List Elem → Bool) → (List Elem → Denotation) → List (List Elem) → List Denotation
values_where P V as' = map V (filter P as')

abbrev mutual
  -- the value of a term
  pub value_of : Structure → TermTree → List Elem → Denotation
  value_of m (variable n) e = element_value (slice_get e n)
  value_of m (integer z) e = number z
  value_of m (constructed ty n) e = element_value (slice_get (domain_at m.domains ty) n)
  value_of m (application s ts) e = applied (rows_of s m.functions) (values_of m ts e)
  value_of m (summation ss) e = number_value (sum_of m ss e)
  value_of m (product ts) e = number_value (product_from (pos 1) (values_of m ts e))
  value_of m (aggregate k bs f t) e = aggregate_value k (values_where (λ a. truth_of m f (e ++ a))
      (λ a. as_number (value_of m t (e ++ a))) (assignments m bs))

  pub values_of : Structure → TermTrees → List Elem → List Denotation
  values_of m no_terms e = []
  values_of m (more_terms t ts) e = value_of m t e ∷ values_of m ts e

  -- the sum of the operands, each with its sign
  pub sum_of : Structure → SummandTrees → List Elem → Option ℤ
  sum_of m no_summands e = Some (pos 0)
  sum_of m (more_summands minus t ss) e = summand_plus minus (value_of m t e) (sum_of m ss e)

  -- the truth of a formula
  pub truth_of : Structure → FormulaTree → List Elem → Bool
  truth_of m verum e = true
  truth_of m falsum e = false
  truth_of m (atom s ts) e = has_row (rows_of s m.relations) (values_of m ts e)
  truth_of m (comparison c a b) e = compared c (value_of m a e) (value_of m b e)
  truth_of m (negation f) e = not (truth_of m f e)
  truth_of m (conjunction fs) e = all_true m fs e
  truth_of m (disjunction fs) e = any_true m fs e
  truth_of m (implication f g) e = not (truth_of m f e) || truth_of m g e
  truth_of m (equivalence f g) e = same_truth (truth_of m f e) (truth_of m g e)
  truth_of m (universal bs f) e = list_all (λ a. truth_of m f (e ++ a)) (assignments m bs)
  truth_of m (existential bs f) e = list_any (λ a. truth_of m f (e ++ a)) (assignments m bs)
  truth_of m (numbered c n bs f) e = compared c (number (pos (count_by (λ a. truth_of m f (e ++ a))
      (assignments m bs)))) (number n)

  pub all_true : Structure → FormulaTrees → List Elem → Bool
  all_true m no_formulas e = true
  all_true m (more_formulas f fs) e = truth_of m f e && all_true m fs e

  pub any_true : Structure → FormulaTrees → List Elem → Bool
  any_true m no_formulas e = false
  any_true m (more_formulas f fs) e = truth_of m f e || any_true m fs e
