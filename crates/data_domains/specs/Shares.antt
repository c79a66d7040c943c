-- What an entry adds to the elements of a type.
use Rattle.std.specs.Prelude.{◌≡◌, ℕ, Bool, not, ◌&&◌, List, [], ◌++◌, Some, map, filter, slice_get, if◌then◌else◌}
use Rattle.std.specs.List.{filter_map}
use Rattle.kb_logic.specs.declared.vocabularies.TypeDecl.{TypeDecl}
use Rattle.stage_definitions.specs.Elements.{Cell, listed}
use Rattle.stage_definitions.specs.DataEntries.{Said, Spot, spots_of}
use Rattle.stage_definitions.specs.DataDomains.{cells_given, is_list_of, made_cells, occurs_at}
use Rattle.structure_entries.specs.EntryViews.{cell_view}
use Rattle.data_domains.specs.Sets.{IsGathered, IsSetOf}
use Rattle.data_domains.specs.Traits.{AreTraitsOf}
use Rattle.data_domains.specs.declared.traits.Traits.{Traits}
use Rattle.data_domains.specs.declared.types.TypeData.{TypeData}

-- the type's cells in memory, in which a word stands once, have the same elements in the same order as these, and its
-- set has them too
pub record StandsFor (cs : List Cell) (x : TypeData) : Type 0 where
  pub cells : listed (map cell_view x.cells.items) ≡ listed cs
  pub gathered : IsGathered cs x.elements

-- the type was given these cells more, and its traits stay
pub record Takes (old new : TypeData) (more : List Cell) : Type 0 where
  pub traits : new.traits ≡ old.traits
  pub stands : (cs : List Cell) → StandsFor cs old → StandsFor (cs ++ more) new

-- the type with this number has these traits, and what it has so far stands for these cells
pub record IsGiven (xs : List TypeData) (t : ℕ) (x : Traits) (cs : List Cell) : Type 0 where
  pub known : TypeData
  pub there : slice_get xs t ≡ Some known
  pub traits : known.traits ≡ x
  pub stands : StandsFor cs known

-- the same, once its set is settled
pub record IsSettled (xs : List TypeData) (t : ℕ) (x : Traits) (cs : List Cell) : Type 0 where
  pub known : TypeData
  pub there : slice_get xs t ≡ Some known
  pub traits : known.traits ≡ x
  pub cells : listed (map cell_view known.cells.items) ≡ listed cs
  pub elements : IsSetOf cs known.elements

-- all that stands in the entry, where it is a list of the type and the type's elements are not declared with it
abbrev pub listed_share : ℕ → Traits → Said → List Cell
listed_share t x e = if not x.constructed && is_list_of t e then cells_given e else []

-- what is written here occurs at a position of the type, and the type has the elements that occur
abbrev pub is_taken : List TypeDecl → ℕ → Traits → Spot → Bool
is_taken types t x s = x.occurs && occurs_at types t s

-- what stands in the entry at positions of the type, where it has the elements that occur
abbrev pub occurring_share : List TypeDecl → ℕ → Traits → List Spot → List Cell
occurring_share types t x ss = filter_map (λ s. s.cell) (filter (is_taken types t x) ss)

-- both
abbrev pub share : List TypeDecl → ℕ → Traits → Said → List Cell
share types t x e = listed_share t x e ++ occurring_share types t x (spots_of e)

-- the traits of the type, and of its elements those that are declared with it
pub record IsDeclaredSo (types : List TypeDecl) (es : List Said) (t : ℕ) (d : TypeDecl) (x : TypeData) : Type 0 where
  pub traits : AreTraitsOf types es t d x.traits
  pub stands : StandsFor (if x.traits.constructed then made_cells d else []) x
