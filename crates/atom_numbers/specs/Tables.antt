-- Tables by the places of their rows.
use Rattle.std.specs.Prelude.{ℕ, ◌+◌, Bool, if◌then◌else◌, List, [], ◌∷◌, ◌++◌, map, length, filter, take}
use Rattle.std.specs.Prelude.{is_none, is_some}
use Rattle.std.specs.List.{enumerate_from}
use Rattle.kb_logic.specs.declared.elements.Elem.{Elem}
use Rattle.kb_logic.specs.declared.structures.Table.{Table}
use Rattle.kb_logic.specs.declared.vocabularies.Symbol.{Symbol}
use Rattle.kb_logic.specs.Structures.{tuples_of}
use Rattle.kb_logic.specs.Bounds.{domain_if}
use Rattle.term_values.specs.GroundBases.{true_values}
use Rattle.atom_numbers.specs.Numbers.{first_of}

-- the rows whose variables are true, where the first row has the variable n
abbrev pub true_rows : (ℕ → Bool) → ℕ → List (List Elem) → List (List Elem)
true_rows v n [] = []
true_rows v n (r ∷ rs) = if v n then r ∷ true_rows v (n + 1) rs else true_rows v (n + 1) rs

-- each row with each of the values whose variable is true, where the first row and value have the variable n
abbrev pub valued_rows : (ℕ → Bool) → ℕ → List Elem → List (List Elem) → List (List Elem)
valued_rows v n values [] = []
valued_rows v n values (r ∷ rs) = map (λ x. r ++ x ∷ []) (true_values v n values) ++ valued_rows v
    (n + length values) values rs

-- the table of a predicate, and that of a function
abbrev pub relation_table : List (List Elem) → List Symbol → (ℕ → Bool) → ℕ × Symbol → Table
relation_table domains symbols v s = record {
  symbol = s.0;
  rows = true_rows v (first_of domains symbols s.0)
      (tuples_of domains s.1.args);
}

abbrev pub function_table : List (List Elem) → List Symbol → (ℕ → Bool) → ℕ × Symbol → Table
function_table domains symbols v s = record {
  symbol = s.0;
  rows = valued_rows v (first_of domains symbols s.0)
      (domain_if domains s.1.value) (tuples_of domains s.1.args);
}

-- the tables of the predicates among the first n symbols, and those of the functions
abbrev pub relation_tables : List (List Elem) → List Symbol → (ℕ → Bool) → ℕ → List Table
relation_tables domains symbols v n = map (relation_table domains symbols v)
    (filter (λ s. is_none s.1.value) (take n (enumerate_from 0 symbols)))

abbrev pub function_tables : List (List Elem) → List Symbol → (ℕ → Bool) → ℕ → List Table
function_tables domains symbols v n = map (function_table domains symbols v)
    (filter (λ s. is_some s.1.value) (take n (enumerate_from 0 symbols)))
