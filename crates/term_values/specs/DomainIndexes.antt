-- The places of elements in the domains of their types.
use Rattle.std.specs.Prelude.{◌≡◌, ℕ, ◌+◌, List, [], ◌∷◌, Option, None, Some, option_map, if◌then◌else◌}
use Rattle.std.specs.Str.{bytes_eq}
use Rattle.std.specs.Ordering.{int_eq}
use Rattle.indexmap.specs.IndexMap.{get_by}
use Rattle.kb_logic.specs.declared.elements.Elem.{Elem}
use Rattle.kb_logic.specs.Structures.{EachWith}
use Rattle.kb_logic.specs.Denotations.{Denotation, named, number, minus_infinity, plus_infinity, undefined}
use Rattle.kb_logic.specs.Denotations.{denotation_of, same_value}
use Rattle.term_values.specs.declared.domain_index.DomainIndex.{DomainIndex}

-- the place of the first element that is this value
abbrev pub elem_index : List Elem → Denotation → Option ℕ
elem_index [] v = None
elem_index (x ∷ xs) v =
    if same_value (denotation_of x) v then Some 0 else option_map (λ i. 1 + i) (elem_index xs v)

-- what the tables say of a value
abbrev pub index_in : DomainIndex → Denotation → Option ℕ
index_in d (named q) = get_by (λ k. bytes_eq q k.now) d.names
index_in d (number z) = get_by (int_eq z) d.numbers
index_in d minus_infinity = None
index_in d plus_infinity = None
index_in d undefined = None

-- the tables have the place of each element of the domain
abbrev pub IsIndexOf : DomainIndex → List Elem → Type 0
IsIndexOf d xs = (v : Denotation) → index_in d v ≡ elem_index xs v

-- there is such an index for each domain
abbrev pub AreIndexesOf : List DomainIndex → List (List Elem) → Type 0
AreIndexesOf ds domains = EachWith IsIndexOf ds domains
