-- The tuple that the plain arguments of an atom are under an assignment: variables, integers and made elements.
use Rattle.std.specs.Prelude.{◌≡◌, ℕ, List, [], ◌∷◌, Some, slice_get, Contains}
use Rattle.kb_logic.specs.declared.elements.Elem.{Elem}
use Rattle.kb_logic.specs.Trees.{TermTree, variable, integer, constructed, application, summation, product, aggregate}
use Rattle.kb_logic.specs.Trees.{TermTrees, no_terms, more_terms}
use Rattle.kb_logic.specs.Structures.{domain_at, tuples_of}
use Rattle.kb_logic.specs.Denotations.{Denotation, number, undefined}
use Rattle.kb_logic.specs.Meaning.{element_value}
use Rattle.term_values.specs.GroundBases.{row_index}

-- the value of a plain argument; no other term has one here
abbrev pub argument_value : List (List Elem) → TermTree → List Elem → Denotation
argument_value domains (variable n) e = element_value (slice_get e n)
argument_value domains (integer z) e = number z
argument_value domains (constructed ty n) e = element_value (slice_get (domain_at domains ty) n)
argument_value domains (application s ts) e = undefined
argument_value domains (summation ss) e = undefined
argument_value domains (product ts) e = undefined
argument_value domains (aggregate k bs f t) e = undefined

abbrev pub argument_values : List (List Elem) → TermTrees → List Elem → List Denotation
argument_values domains no_terms e = []
argument_values domains (more_terms t ts) e = argument_value domains t e ∷ argument_values domains ts e

-- under the assignment e the arguments are none of the rows of a table, of which each is given by its index among all
-- tuples of these types
abbrev pub IsNoRow : List (List Elem) → List ℕ → List ℕ → TermTrees → List Elem → Type 0
IsNoRow domains types rows ts e =
    (i : ℕ) → row_index (tuples_of domains types) (argument_values domains ts e) ≡ Some i → Contains rows i → ⊥
