-- Ranges as intervals, and what is noted of terms.
use Rattle.std.specs.Prelude.{ℕ, ℤ, Bool, not, List, map, drop}
use Rattle.std.specs.List.{list_any}
use Rattle.kb_logic.specs.declared.elements.Elem.{Elem}
use Rattle.kb_logic.specs.declared.vocabularies.Vocabulary.{Vocabulary}
use Rattle.kb_logic.specs.Trees.{TermTree}
use Rattle.kb_logic.specs.Bounds.{Interval, range_of}
use Rattle.stage_definitions.specs.Sizes.{is_small, term_bounds}
use Rattle.size_stage.specs.declared.ranges.Range.{Range}

abbrev pub interval : ℤ → ℤ → Interval
interval low high = record { low = low; high = high }

abbrev pub range_view : Range → Interval
range_view r = record { low = r.low; high = r.high }

-- one of the bounds is too wide
abbrev pub is_wide : List Interval → Bool
is_wide is = list_any (λ i. not (is_small i)) is

-- at each term, whether its bounds are too wide
abbrev pub wide_at : List (List Interval) → List Bool
wide_at bs = map is_wide bs

-- the bounds at the parts of a term
abbrev pub part_bounds : Vocabulary → List (List Elem) → TermTree → List ℕ → List (List Interval)
part_bounds v domains t scope = drop 1 (term_bounds v domains t scope)

-- the ranges of the integers in these domains
abbrev pub ranges_in : List (List Elem) → List Interval
ranges_in domains = map range_of domains
