-- What the rows of a partial structure say of an atom.
use Rattle.std.specs.Prelude.{◌≡◌, length, filter, Bool, true, false}
use Rattle.kb_logic.specs.Models.{GroundAtom}
use Rattle.partial_structures.specs.KnownAtoms.{KnownAtoms, atoms_over}
use Rattle.row_tries.specs.Words.{words_in, words_of}
use Rattle.std.specs.List.{AllByRecursion}
use Rattle.kb_logic.specs.Structures.{IsDistinct}
use Rattle.partial_structures.specs.AtomRows.{status_of}
use Rattle.partial_structures.specs.Flags.{is_closed}
use Rattle.partial_structures.specs.Elements.{labels_in, HasElements}
use Rattle.row_tries.specs.declared.truths.Truth.{Truth}
use Rattle.row_tries.specs.declared.truths.Truth.TheVariants as truth
use Rattle.partial_structures.specs.declared.partial.Partial.TheInside.{Inside}

abbrev pub is_yes : Truth → Bool
is_yes truth.Yes = true
is_yes truth.No = false
is_yes truth.Unknown = false

abbrev pub is_no : Truth → Bool
is_no truth.Yes = false
is_no truth.No = true
is_no truth.Unknown = false

abbrev pub status : Inside → GroundAtom → Truth
status p a = status_of (words_in p.rows.words) p.rows.nodes.entries (is_closed p.closed.items a.symbol) a.symbol
    a.args a.value

-- what a partial structure knows
abbrev pub known_atoms : Inside → KnownAtoms
known_atoms p = record {
  symbols = p.symbols;
  domains = p.domains;
  true_atoms = filter (λ a. is_yes (status p a)) (atoms_over p.symbols p.domains);
  false_atoms = filter (λ a. is_no (status p a)) (atoms_over p.symbols p.domains);
}

-- the domains have no element twice, each symbol has its flag, each name of an element has its number, the table has
-- the elements of each type, and the atoms that are certainly true are counted
pub record IsSound (p : Inside) : Type 0 where
  pub distinct : AllByRecursion IsDistinct p.domains
  pub flags : length p.closed.items ≡ length p.symbols
  pub words : words_in p.rows.words ≡ words_of p.domains
  pub elements : HasElements (words_in p.rows.words) p.domains (labels_in p.elements)
  pub counted : p.count ≡ length (filter (λ a. is_yes (status p a)) (atoms_over p.symbols p.domains))
