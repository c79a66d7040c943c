use Rattle.std.proofs.Common.{◌≡◌, ◌++◌, ℕ, List, drop, length, map}
use Rattle.stage_definitions.specs.Elements.{Cell}
use Rattle.stage_definitions.specs.DataEntries.{spots_of}
use Rattle.structure_entries.specs.EntryViews.{row_view, spots_in, subject_view}
use Rattle.structure_entries.specs.SaidViews.{said_view}
use Rattle.data_domains.specs.Shares.{occurring_share, IsGiven}
use Rattle.data_domains.specs.declared.traits.Traits.{Traits}
use Rattle.data_domains.proofs.filling.add_occurring.Given as goal

abbrev pub invariant-loop-row : goal.invariant-loop-row
invariant-loop-row l = record {
  count : length l.all.items ≡ length l.fn.all.items;
  given : (t : ℕ) (x : Traits) (cs : List Cell) → IsGiven l.fn.all.items t x cs
      → (ds : List Cell) × IsGiven l.all.items t x ds
      × (ds ++ occurring_share l.types t x
      (spots_in (subject_view l.entry.subject) (map row_view (drop l.row-index l.entry.rows.items)))
      ≡ cs ++ occurring_share l.types t x (spots_of (said_view l.entry)));
}
