-- What is known of a symbol's application to arguments whose values are known.
use Rattle.std.specs.Prelude.{ℕ, List, [], ◌∷◌, Bool, true, false, ◌&&◌, ◌==◌, if◌then◌else◌, Option, None, Some}
use Rattle.std.specs.Prelude.{option_map, is_some, slice_get}
use Rattle.std.specs.List.{list_any}
use Rattle.kb_logic.specs.declared.elements.Elem.{Elem}
use Rattle.kb_logic.specs.declared.vocabularies.Symbol.{Symbol}
use Rattle.kb_logic.specs.Structures.{domain_at}
use Rattle.kb_logic.specs.Denotations.{Denotation, denotation_of, same_value}
use Rattle.kb_logic.specs.Models.{GroundAtom}
use Rattle.partial_structures.specs.KnownAtoms.{KnownAtoms, same_row, value_of_row}
use Rattle.row_tries.specs.declared.truths.Truth.{Truth}
use Rattle.row_tries.specs.declared.truths.Truth.TheVariants as truth

-- the value that one of the atoms gives to the function s at these arguments
abbrev pub given_value : ℕ → List Denotation → List GroundAtom → Option Elem
given_value s vs [] = None
given_value s vs (a ∷ more) = if (a.symbol == s) && (same_row a.args vs && is_some a.value) then a.value else
    given_value s vs more

abbrev pub applied_known : KnownAtoms → ℕ → Option (List Denotation) → Option Denotation
applied_known k s None = None
applied_known k s (Some vs) = option_map denotation_of (given_value s vs k.true_atoms)

-- the value is one of the elements
abbrev pub stands_in : List Elem → Denotation → Bool
stands_in d v = list_any (λ x. same_value (denotation_of x) v) d

-- each value is an element of its type
abbrev pub are_typed : List (List Elem) → List ℕ → List Denotation → Bool
are_typed domains [] [] = true
are_typed domains [] (v ∷ vs) = false
are_typed domains (ty ∷ types) [] = false
are_typed domains (ty ∷ types) (v ∷ vs) = stands_in (domain_at domains ty) v && are_typed domains types vs

abbrev pub arguments_typed : KnownAtoms → Option Symbol → List Denotation → Bool
arguments_typed k None vs = false
arguments_typed k (Some s) vs = are_typed k.domains s.args vs

abbrev pub value_typed : KnownAtoms → Option ℕ → Denotation → Bool
value_typed k None v = false
value_typed k (Some ty) v = stands_in (domain_at k.domains ty) v

abbrev pub result_typed : KnownAtoms → Option Symbol → Denotation → Bool
result_typed k None v = false
result_typed k (Some s) v = value_typed k s.value v

-- an atom with known arguments: outside its types it is false
abbrev pub atom_certain : KnownAtoms → ℕ → Option (List Denotation) → Truth
atom_certain k s None = truth.Unknown
atom_certain k s (Some vs) = if arguments_typed k (slice_get k.symbols s) vs then value_of_row k s vs None else truth.No

-- a value outside a function's value type is none that it has
abbrev pub outside_value : Option Symbol → Truth
outside_value None = truth.Unknown
outside_value (Some s) = if is_some s.value then truth.No else truth.Unknown

-- f(vs) = v: false where v is no element of the function's value type
abbrev pub value_certain : KnownAtoms → ℕ → Option (List Denotation) → Option Denotation → Truth
value_certain k s None v = truth.Unknown
value_certain k s (Some vs) None = truth.Unknown
value_certain k s (Some vs) (Some v) =
    if arguments_typed k (slice_get k.symbols s) vs then (if result_typed k (slice_get k.symbols s) v then
    value_of_row k s vs (Some v) else outside_value (slice_get k.symbols s)) else truth.Unknown
