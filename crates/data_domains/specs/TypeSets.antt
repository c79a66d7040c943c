-- The elements of all types in memory.
use Rattle.std.specs.Prelude.{◌≡◌, ℕ, List, length, map, slice_get, Some}
use Rattle.kb_logic.specs.declared.vocabularies.TypeDecl.{TypeDecl}
use Rattle.stage_definitions.specs.Elements.{listed}
use Rattle.stage_definitions.specs.DataEntries.{Said}
use Rattle.stage_definitions.specs.DataDomains.{cells_by}
use Rattle.structure_entries.specs.EntryViews.{cell_view}
use Rattle.data_domains.specs.Sets.{IsSetOf}
use Rattle.data_domains.specs.Traits.{AreTraitsOf}
use Rattle.data_domains.specs.declared.types.TypeData.{TypeData}

-- one item for each type, with its traits, and with its elements as cells, in which a word stands once, and as a set
pub record AreTypesOf (types : List TypeDecl) (es : List Said) (xs : List TypeData) : Type 0 where
  pub count : length xs ≡ length types
  pub traits : (t : ℕ) (d : TypeDecl) (x : TypeData) → slice_get types t ≡ Some d → slice_get xs t ≡ Some x
      → AreTraitsOf types es t d x.traits
  pub cells : (t : ℕ) (d : TypeDecl) (x : TypeData) → slice_get types t ≡ Some d → slice_get xs t ≡ Some x
      → listed (map cell_view x.cells.items) ≡ listed (cells_by types es t d)
  pub elements : (t : ℕ) (d : TypeDecl) (x : TypeData) → slice_get types t ≡ Some d → slice_get xs t ≡ Some x
      → IsSetOf (cells_by types es t d) x.elements
