-- What is known of the atoms over symbols and domains, and what a change of it makes known.
use Rattle.std.specs.Prelude.{ℕ, List, [], ◌∷◌, map, filter, Bool, true, false, not, ◌&&◌, ◌||◌, ◌==◌, if◌then◌else◌}
use Rattle.std.specs.Prelude.{Option, None, Some, option_map, slice_get}
use Rattle.std.specs.List.{list_any}
use Rattle.std.specs.Option.{option_map_or}
use Rattle.kb_logic.specs.declared.elements.Elem.{Elem}
use Rattle.kb_logic.specs.declared.vocabularies.Symbol.{Symbol}
use Rattle.kb_logic.specs.Denotations.{Denotation, denotation_of, same_value}
use Rattle.kb_logic.specs.Structures.{tuples_of}
use Rattle.kb_logic.specs.Models.{GroundAtom}
pub use Rattle.kb_logic.specs.Models.{IsAtomOver, atom_of}
pub use Rattle.kb_logic.specs.KnownAtoms.{KnownAtoms, atoms_with, atoms_over}
use Rattle.row_tries.specs.declared.truths.Truth.{Truth}
use Rattle.row_tries.specs.declared.truths.Truth.TheVariants as truth

-- these elements are these values, one by one
abbrev pub same_row : List Elem → List Denotation → Bool
same_row [] [] = true
same_row [] (v ∷ vs) = false
same_row (x ∷ xs) [] = false
same_row (x ∷ xs) (v ∷ vs) = same_value (denotation_of x) v && same_row xs vs

abbrev pub same_option : Option Elem → Option Denotation → Bool
same_option None None = true
same_option None (Some v) = false
same_option (Some x) None = false
same_option (Some x) (Some v) = same_value (denotation_of x) v

-- a is the atom of symbol s with these arguments and this value
abbrev pub is_atom : ℕ → List Denotation → Option Denotation → GroundAtom → Bool
is_atom s vs v a = (a.symbol == s) && (same_row a.args vs && same_option a.value v)

-- the truth of the atom of symbol s with these arguments and this value
abbrev pub value_of_row : KnownAtoms → ℕ → List Denotation → Option Denotation → Truth
value_of_row k s vs v =
    if list_any (is_atom s vs v) k.true_atoms then truth.Yes else (if list_any (is_atom s vs v) k.false_atoms then
    truth.No else truth.Unknown)

-- what is known of the atom
abbrev pub value_at : KnownAtoms → GroundAtom → Truth
value_at k a = value_of_row k a.symbol (map denotation_of a.args) (option_map denotation_of a.value)

-- b is the atom a
abbrev pub same_atom : GroundAtom → GroundAtom → Bool
same_atom a b = is_atom a.symbol (map denotation_of a.args) (option_map denotation_of a.value) b

-- both say the value of the same function at the same arguments
abbrev pub both_values : Option Elem → Option Elem → Bool
both_values (Some x) (Some y) = true
both_values _ _ = false

-- b gives a function another value than a does, at the same arguments
abbrev pub is_rival : GroundAtom → GroundAtom → Bool
is_rival a b = (b.symbol == a.symbol) && (same_row b.args (map denotation_of a.args) &&
    (both_values a.value b.value && not (same_option b.value (option_map denotation_of a.value))))

-- the atoms of the symbol with this number, in the order of all atoms
abbrev pub atoms_of : KnownAtoms → ℕ → List GroundAtom
atoms_of k s = option_map_or (λ (d : Symbol). atoms_with k.domains s (tuples_of k.domains d.args) d.value)
    (slice_get k.symbols s) []

-- the atoms with this test, in their order
abbrev pub atoms_where : KnownAtoms → (GroundAtom → Bool) → List GroundAtom
atoms_where k test = filter test (atoms_over k.symbols k.domains)

-- a has become certainly true; so a function's other values at the same arguments have become certainly false
abbrev pub with_true : KnownAtoms → GroundAtom → KnownAtoms
with_true k a = record k {
  true_atoms = atoms_where k (λ b. same_atom a b || list_any (same_atom b) k.true_atoms);
  false_atoms = atoms_where k (λ b. is_rival a b || list_any (same_atom b) k.false_atoms);
}

-- a has become certainly false
abbrev pub with_false : KnownAtoms → GroundAtom → KnownAtoms
with_false k a = record k { false_atoms = atoms_where k (λ b. same_atom a b || list_any (same_atom b) k.false_atoms) }

-- the atoms of symbol s that were unknown have become certainly false
abbrev pub with_closed : KnownAtoms → ℕ → KnownAtoms
with_closed k s = record k {
  false_atoms = atoms_where k (λ b. ((b.symbol == s) && not (list_any (same_atom b) k.true_atoms)) || list_any
      (same_atom b) k.false_atoms);
}

-- nothing is known
abbrev pub nothing_known : List Symbol → List (List Elem) → KnownAtoms
nothing_known symbols domains = record { symbols = symbols; domains = domains; true_atoms = []; false_atoms = [] }
