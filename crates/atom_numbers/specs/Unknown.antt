-- The atoms that data leave unknown, and the literals of their variables.
use Rattle.std.specs.Prelude.{ℕ, ◌+◌, Bool, true, false, if◌then◌else◌, List, [], ◌∷◌, map, filter}
use Rattle.kb_logic.specs.Structures.{EachWith}
use Rattle.kb_logic.specs.Models.{GroundAtom}
use Rattle.kb_logic.specs.KnownAtoms.{KnownAtoms, atoms_over}
use Rattle.kb_logic.specs.InForce.{literal_with}
use Rattle.lit_core.specs.declared.literals.Lit.{Lit}
use Rattle.partial_structures.specs.KnownAtoms.{value_at}
use Rattle.partial_structures.specs.declared.truths.Truth.{Truth}
use Rattle.partial_structures.specs.declared.truths.Truth.TheVariants as truth
use Rattle.term_values.specs.GroundBases.{GroundBase}
use Rattle.term_values.specs.Rows.{positive_lit}
use Rattle.atom_numbers.specs.Numbers.{HasNumber}

abbrev pub is_unknown : Truth → Bool
is_unknown truth.Yes = false
is_unknown truth.No = false
is_unknown truth.Unknown = true

-- the atoms that the data leave unknown, in the order of all atoms
abbrev pub unknown_atoms : KnownAtoms → List GroundAtom
unknown_atoms k = filter (λ a. is_unknown (value_at k a)) (atoms_over k.symbols k.domains)

-- these are the literals of the variables of the unknown atoms, each affirmed, in their order
abbrev pub AreOpen : GroundBase → KnownAtoms → List Lit → Type 0
AreOpen b k lits = EachWith (HasNumber b) (map (literal_with true) (unknown_atoms k)) lits

-- the literals of the variables of the unknown among these truths, of which the first has the variable n
abbrev pub open_from : ℕ → List Truth → List Lit
open_from n [] = []
open_from n (t ∷ ts) = if is_unknown t then positive_lit n ∷ open_from (n + 1) ts else open_from (n + 1) ts
