-- Domains that are listed, or that types have whose elements are counted.
use Rattle.std.specs.Prelude.{◌≡◌, ℕ, List, [], ◌∷◌, length, map, ⊤}
use Rattle.kb_logic.specs.declared.elements.Elem.{Elem}
use Rattle.kb_logic.specs.Bounds.{Interval}
use Rattle.stage_definitions.specs.Elements.{Cell, listed}
use Rattle.structure_entries.specs.EntryViews.{cell_view}
use Rattle.data_domains.specs.Sets.{IsSetOf}
use Rattle.data_domains.specs.declared.types.TypeData.{TypeData}
use Rattle.size_stage.specs.declared.sources.Source.{Source}
use Rattle.size_stage.specs.declared.sources.Source.TheVariants.{Listed, Counted}

-- the elements of a type one by one
abbrev pub elements_of : TypeData → List Elem
elements_of x = listed (map cell_view x.cells.items)

-- the type's set has its elements: it is that of some cells which list the same
pub record IsCountable (x : TypeData) : Type 0 where
  pub cells : List Cell
  pub same : elements_of x ≡ listed cells
  pub elements : IsSetOf cells x.elements

-- how many elements the type has
abbrev pub count_in : TypeData → ℕ
count_in x = length (elements_of x)

-- the domains, which need not be listed for it
abbrev pub domains_in : Source → List (List Elem)
domains_in (Listed ds) = ds.now
domains_in (Counted xs ns) = map elements_of xs.now

-- of types it is known how many elements each has
abbrev pub AreCounted : Source → Type 0
AreCounted (Listed ds) = ⊤
AreCounted (Counted xs ns) = ns.items ≡ map count_in xs.now

-- the last of some intervals
abbrev pub last_of : Interval → List Interval → Interval
last_of i [] = i
last_of i (j ∷ js) = last_of j js
