-- The atoms of a table.
use Rattle.std.specs.Prelude.{◌≡◌, ◌≤◌, ◌^◌, List, length}
use Rattle.kb_logic.specs.declared.structures.Literal.{Literal}
use Rattle.ground_core.specs.declared.atom_tables.AllAtoms.{AllAtoms}
use Rattle.ground_core.specs.declared.atom_tables.TableAtoms.{TableAtoms}
use Rattle.ground_core.specs.declared.atom_tables.TableAtoms.TheVariants.{All, Listed}
use Rattle.ground_core.specs.Atoms.{ground_atoms}

abbrev pub atoms_in : TableAtoms → List Literal
atoms_in (All a) = ground_atoms a.symbols a.domains.value
atoms_in (Listed atoms) = atoms

-- all of them are counted
pub record AreAll (a : AllAtoms) : Type 0 where
  pub count : a.count ≡ length (ground_atoms a.symbols a.domains.value)
  pub few : length a.symbols ≤ 2 ^ 32

abbrev pub IsCounted : TableAtoms → Type 0
IsCounted (All a) = AreAll a
IsCounted (Listed atoms) = Unit {0}
