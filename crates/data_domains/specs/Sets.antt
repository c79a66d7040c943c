-- Sets of elements in memory.
use Rattle.std.specs.Prelude.{◌≡◌, ℤ, List, map, length, true, false}
use Rattle.std.specs.List.{list_any}
use Rattle.std.specs.Str.{bytes_eq}
use Rattle.kb_logic.specs.declared.elements.Elem.TheVariants.{Named, Num}
use Rattle.kb_logic.specs.Bounds.{Interval as AnInterval}
use Rattle.stage_definitions.specs.Scopes.{Text}
use Rattle.stage_definitions.specs.Elements.{Cell, one, span, as_interval, is_among, words_of}
use Rattle.structure_entries.specs.WholeViews.{whole_view}
use Rattle.data_domains.specs.Runs.{is_hollow, is_inside, AreApart}
use Rattle.data_domains.specs.declared.intervals.Interval.{Interval}
use Rattle.data_domains.specs.declared.sets.ElementSet.{ElementSet}

abbrev pub interval_view : Interval → AnInterval
interval_view i = as_interval (whole_view i.low) (whole_view i.high)

-- the same words, and as many
pub record AreSameWords (xs ys : List Text) : Type 0 where
  pub count : length xs ≡ length ys
  pub among : (w : Text) → list_any (bytes_eq w) xs ≡ list_any (bytes_eq w) ys

-- the words in memory
abbrev pub words_in : ElementSet → List Text
words_in s = map (λ w. w.now) s.words.keys

-- the intervals in memory
abbrev pub runs_in : ElementSet → List AnInterval
runs_in s = map interval_view s.intervals.items

-- the set has the elements of these cells, and no others; its intervals are apart
pub record IsSetOf (cells : List Cell) (s : ElementSet) : Type 0 where
  pub words : AreSameWords (words_in s) (words_of cells)
  pub integers : (z : ℤ) → is_inside (runs_in s) z ≡ is_among cells (Num z)
  pub apart : AreApart (runs_in s)

-- the same, while cells are added one by one: none of its intervals is empty, but they lie in any order
pub record IsGathered (cells : List Cell) (s : ElementSet) : Type 0 where
  pub words : AreSameWords (words_in s) (words_of cells)
  pub integers : (z : ℤ) → is_inside (runs_in s) z ≡ is_among cells (Num z)
  pub full : list_any is_hollow (runs_in s) ≡ false

-- the cell is one of these words
abbrev pub IsKnownWord : List Text → Cell → Type 0
IsKnownWord ws (one (Named n)) = list_any (bytes_eq n) ws ≡ true
IsKnownWord ws (one (Num z)) = ⊥
IsKnownWord ws (span a b) = ⊥
