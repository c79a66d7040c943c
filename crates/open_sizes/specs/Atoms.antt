-- The unknown atoms symbol by symbol, and argument by argument.
use Rattle.std.specs.Prelude.{ℕ, List, [], ◌++◌, map, sum_by, Option, None, Some}
use Rattle.kb_logic.specs.declared.elements.Elem.{Elem}
use Rattle.kb_logic.specs.declared.vocabularies.Symbol.{Symbol}
use Rattle.kb_logic.specs.Denotations.{Denotation, denotation_of}
use Rattle.kb_logic.specs.KnownAtoms.{KnownAtoms}
use Rattle.kb_logic.specs.Structures.{domain_at, tuples_of}
use Rattle.partial_structures.specs.Applications.{atom_certain, value_certain}
use Rattle.open_sizes.specs.OpenWeights.{where_open}

-- the unknown atoms at these arguments: a predicate's one, or those of the values of a function
abbrev pub open_in_values : KnownAtoms → ℕ → Option ℕ → List Denotation → ℕ
open_in_values k s None vs = where_open (atom_certain k s (Some vs)) 1
open_in_values k s (Some ty) vs = sum_by (λ x. where_open (value_certain k s (Some vs) (Some (denotation_of x))) 1)
    (domain_at k.domains ty)

-- ... and at each tuple that begins with them, and goes on with elements of these types
abbrev pub open_in_tuples : KnownAtoms → ℕ → Option ℕ → List ℕ → List Denotation → ℕ
open_in_tuples k s value types vs = sum_by (λ (t : List Elem). open_in_values k s value (vs ++ map denotation_of t))
    (tuples_of k.domains types)

-- the unknown atoms of the symbol with this number
abbrev pub open_in_symbol : KnownAtoms → ℕ → Symbol → ℕ
open_in_symbol k s declared = open_in_tuples k s declared.value declared.args []
