-- How many elements a type has.
use Rattle.std.proofs.Common.{◌≡◌, length, sym, ap, ◌∙◌}
use Rattle.stage_definitions.specs.Elements as set
use Rattle.reading_laws.proofs.Counting.{listed_are_counted}
use Rattle.data_domains.specs.declared.types.TypeData.{TypeData}
use Rattle.size_stage.specs.Counted.{count_in, IsCountable}

-- the number that the type's set has is that of its elements
pub counted_listed : (x : TypeData) (h : IsCountable x) → set.count_of h.cells ≡ count_in x
counted_listed x h = listed_are_counted h.cells ∙ ap length (sym h.same)
