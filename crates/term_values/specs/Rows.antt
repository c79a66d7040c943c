-- The values of a term, each with the literals under which the term has it: its rows.
use Rattle.std.specs.Prelude.{ℕ, ◌+◌, ◌*◌, ℤ, pos, List, [], ◌∷◌, ◌++◌, length, map, flat_map, Bool, true, false}
use Rattle.std.specs.Prelude.{if◌then◌else◌}
use Rattle.std.specs.Prelude.{Option, Some, None, slice_get}
use Rattle.std.specs.List.{list_all}
use Rattle.kb_logic.specs.declared.elements.Elem.{Elem}
use Rattle.kb_logic.specs.Trees.{TermTree, variable, integer, constructed, application, summation, product, aggregate}
use Rattle.kb_logic.specs.Trees.{TermTrees}
use Rattle.kb_logic.specs.Trees.{no_terms, more_terms, SummandTrees, no_summands, more_summands}
use Rattle.kb_logic.specs.Structures.{domain_at}
use Rattle.kb_logic.specs.Denotations.{Denotation, number, undefined, denotation_of}
use Rattle.kb_logic.specs.Meaning.{element_value, summand_plus, number_value, product_from}
use Rattle.lit_core.specs.declared.literals.Lit.{Lit}
use Rattle.lit_core.specs.Literals.{literal_value}
use Rattle.term_values.specs.GroundBases.{GroundBase, known_of, tuples_at, values_at, first_var, row_index}

-- the literal that makes a variable true
abbrev pub positive_lit : ℕ → Lit
positive_lit n = record { var = record { 0 = n }; positive = true }

-- a row more, unless the variable's atom is known to be false; its literal is a guard where the atom is unknown
abbrev pub with_row : Option Bool → ℕ → List Lit → Denotation → List (List Lit × Denotation)
    → List (List Lit × Denotation)
with_row None n g x rows = (g ++ positive_lit n ∷ [], x) ∷ rows
with_row (Some true) n g x rows = (g, x) ∷ rows
with_row (Some false) n g x rows = rows

-- a row for each of these values, the first of which has the variable n, under some guards
abbrev pub value_rows : GroundBase → List Lit → ℕ → List Elem → List (List Lit × Denotation)
value_rows b g n [] = []
value_rows b g n (x ∷ xs) = with_row (known_of b n) n g (denotation_of x) (value_rows b g (n + 1) xs)

-- a function's rows at the arguments with this index; where they are outside their types the value is `undefined`
abbrev pub rows_at : GroundBase → ℕ → List Lit → Option ℕ → List (List Lit × Denotation)
rows_at b s g None = (g, undefined) ∷ []
rows_at b s g (Some i) = value_rows b g (first_var b s + i * length (values_at b s)) (values_at b s)

-- each row of the one with each of the other
abbrev pub pair_rows : {X Y Z : Type 0} → (X → Y → Z) → List (List Lit × X) → List (List Lit × Y) → List (List Lit × Z)
pair_rows op xs ys = flat_map (λ x. map (λ y. (x.0 ++ y.0, op x.1 y.1)) ys) xs

-- the rows with other values
abbrev pub map_rows : {X Y : Type 0} → (X → Y) → List (List Lit × X) → List (List Lit × Y)
map_rows f xs = map (λ x. (x.0, f x.1)) xs

abbrev mutual
  -- the rows of a term, in which an aggregate is left out: it counts as 0
  pub rows_of_term : GroundBase → TermTree → List Elem → List (List Lit × Denotation)
  rows_of_term b (variable n) e = ([], element_value (slice_get e n)) ∷ []
  rows_of_term b (integer z) e = ([], number z) ∷ []
  rows_of_term b (constructed ty n) e = ([], element_value (slice_get (domain_at b.domains ty) n)) ∷ []
  rows_of_term b (application s ts) e =
      flat_map (λ t. rows_at b s t.0 (row_index (tuples_at b s) t.1)) (rows_of_terms b ts e)
  rows_of_term b (summation ss) e = map_rows number_value (rows_of_sum b ss e)
  rows_of_term b (product ts) e = map_rows (λ vs. number_value (product_from (pos 1) vs)) (rows_of_terms b ts e)
  rows_of_term b (aggregate k bs f t) e = ([], number (pos 0)) ∷ []

  -- the rows of a list of terms: each has a value for each of the terms
  pub rows_of_terms : GroundBase → TermTrees → List Elem → List (List Lit × List Denotation)
  rows_of_terms b no_terms e = ([], []) ∷ []
  rows_of_terms b (more_terms t ts) e = pair_rows (λ x xs. x ∷ xs) (rows_of_term b t e) (rows_of_terms b ts e)

  -- the rows of a sum, with what the operands come to
  pub rows_of_sum : GroundBase → SummandTrees → List Elem → List (List Lit × Option ℤ)
  rows_of_sum b no_summands e = ([], Some (pos 0)) ∷ []
  rows_of_sum b (more_summands minus t ss) e = pair_rows (summand_plus minus) (rows_of_term b t e) (rows_of_sum b ss e)

-- the values of the rows whose guards are true
abbrev pub selected_values : {X : Type 0} → (ℕ → Bool) → List (List Lit × X) → List X
selected_values v [] = []
selected_values v (r ∷ rs) = if list_all (literal_value v) r.0 then r.1 ∷ selected_values v rs else selected_values v rs
