-- What a ground problem is made over, and the structure that a valuation of the ground atoms is.
use Rattle.std.specs.Prelude.{◌≡◌, ℕ, zero, suc, ◌+◌, ◌*◌, ◌<◌, List, [], ◌∷◌, ◌++◌, map, length, filter, flat_map}
use Rattle.std.specs.Prelude.{take}
use Rattle.std.specs.Prelude.{Bool, false, if◌then◌else◌, Option, Some, None, option_map, slice_get, unwrap_or, sum_by}
use Rattle.std.specs.Prelude.{IsSome}
use Rattle.kb_logic.specs.declared.elements.Elem.{Elem}
use Rattle.kb_logic.specs.declared.vocabularies.Symbol.{Symbol}
use Rattle.kb_logic.specs.declared.vocabularies.Vocabulary.{Vocabulary}
use Rattle.kb_logic.specs.declared.structures.Structure.{Structure}
use Rattle.kb_logic.specs.Structures.{tuples_of, predicates_of, functions_of}
use Rattle.kb_logic.specs.Denotations.{Denotation, denotation_of}
use Rattle.kb_logic.specs.Meaning.{behind, is_end}
use Rattle.kb_logic.specs.Bounds.{domain_if, value_type_of}
use Rattle.kb_logic.specs.Weights.{value_count}

-- the vocabulary, the domains, and what is known of each ground atom, in their order
pub record GroundBase : Type 0 where
  pub vocabulary : Vocabulary
  pub domains : List (List Elem)
  pub known : List (Option Bool)

-- what is known of the ground atom that has this variable; variables are numbered from 1 on
abbrev pub known_of : GroundBase → ℕ → Option Bool
known_of b zero = None
known_of b (suc k) = unwrap_or (slice_get b.known k) None

-- the tuples of a symbol's arguments, in domain order
abbrev pub tuples_at : GroundBase → ℕ → List (List Elem)
tuples_at b s = elim (slice_get b.vocabulary.symbols s) [ None ↦ [] | Some d ↦ tuples_of b.domains d.args ]

-- the values that a function may have, in domain order
abbrev pub values_at : GroundBase → ℕ → List Elem
values_at b s = domain_if b.domains (value_type_of b.vocabulary s)

-- how many ground atoms a symbol has
abbrev pub atoms_in : List (List Elem) → Symbol → ℕ
atoms_in domains d = length (tuples_of domains d.args) * value_count domains d.value

-- the variable of a symbol's first atom
abbrev pub first_var : GroundBase → ℕ → ℕ
first_var b s = 1 + sum_by (atoms_in b.domains) (take s b.vocabulary.symbols)

-- the index of the first row that has exactly these values
abbrev pub row_index : List (List Elem) → List Denotation → Option ℕ
row_index [] vs = None
row_index (r ∷ rs) vs = if is_end (behind r vs) then Some 0 else option_map (λ i. 1 + i) (row_index rs vs)

-- whether the variable this many after the first one is true
abbrev pub bit_at : (ℕ → Bool) → ℕ → Option ℕ → Bool
bit_at v first None = false
bit_at v first (Some i) = v (first + i)

-- the elements whose variables are true, of those whose first one has the variable n
abbrev pub true_values : (ℕ → Bool) → ℕ → List Elem → List Elem
true_values v n [] = []
true_values v n (x ∷ xs) = if v n then x ∷ true_values v (n + 1) xs else true_values v (n + 1) xs

-- the rows of a predicate's table whose variables are true
abbrev pub predicate_rows : (ℕ → Bool) → ℕ → List (List Elem) → List (List Elem)
predicate_rows v first rs = filter (λ r. bit_at v first (row_index rs (map denotation_of r))) rs

-- the rows that a function's arguments with this index have: one for each true value
abbrev pub rows_for : (ℕ → Bool) → ℕ → List Elem → List Elem → Option ℕ → List (List Elem)
rows_for v first values r None = []
rows_for v first values r (Some i) = map (λ x. r ++ x ∷ []) (true_values v (first + i * length values) values)

-- a function's rows at these arguments, which are some of all
abbrev pub function_rows : (ℕ → Bool) → ℕ → List Elem → List (List Elem) → List (List Elem) → List (List Elem)
function_rows v first values all rs = flat_map (λ r. rows_for v first values r (row_index all (map denotation_of r))) rs

-- the table of a predicate, and that of a function
abbrev pub predicate_table : GroundBase → (ℕ → Bool) → ℕ → List (List Elem)
predicate_table b v s = predicate_rows v (first_var b s) (tuples_at b s)

abbrev pub function_table : GroundBase → (ℕ → Bool) → ℕ → List (List Elem)
function_table b v s = function_rows v (first_var b s) (values_at b s) (tuples_at b s) (tuples_at b s)

-- the structure in which the ground atoms with true variables hold
abbrev pub structure_of : GroundBase → (ℕ → Bool) → Structure
structure_of b v = record {
  domains = b.domains;
  relations =
      map (λ (s : ℕ × Symbol). record { symbol = s.0; rows = predicate_table b v s.0 }) (predicates_of b.vocabulary);
  functions =
      map (λ (s : ℕ × Symbol). record { symbol = s.0; rows = function_table b v s.0 }) (functions_of b.vocabulary);
}

-- each function has exactly one value at each tuple of arguments
abbrev pub OneValueEach : GroundBase → (ℕ → Bool) → Type 0
OneValueEach b v =
    (s i : ℕ) → i < length (tuples_at b s) → IsSome (value_type_of b.vocabulary s)
    → (x : Elem) × (true_values v (first_var b s + i * length (values_at b s)) (values_at b s) ≡ x ∷ [])

-- the valuation gives the known atoms their values
abbrev pub HasKnown : GroundBase → (ℕ → Bool) → Type 0
HasKnown b v = (n : ℕ) (x : Bool) → known_of b n ≡ Some x → v n ≡ x

-- the valuation is one of the ground atoms of a structure with what is known
pub record IsOver (b : GroundBase) (v : ℕ → Bool) : Type 0 where
  pub one : OneValueEach b v
  pub known : HasKnown b v
