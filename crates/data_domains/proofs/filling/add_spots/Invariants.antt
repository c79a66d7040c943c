use Rattle.std.proofs.Common.{◌≡◌, ◌++◌, ℕ, List, drop, length, map}
use Rattle.stage_definitions.specs.Elements.{Cell}
use Rattle.structure_entries.specs.EntryViews.{spot_view}
use Rattle.data_domains.specs.Shares.{occurring_share, IsGiven}
use Rattle.data_domains.specs.declared.traits.Traits.{Traits}
use Rattle.data_domains.proofs.filling.add_spots.Given as goal

abbrev pub invariant-loop-i : goal.invariant-loop-i
invariant-loop-i l = record {
  count : length l.all.items ≡ length l.fn.all.items;
  given : (t : ℕ) (x : Traits) (cs : List Cell) → IsGiven l.fn.all.items t x cs
      → (ds : List Cell) × IsGiven l.all.items t x ds
      × (ds ++ occurring_share l.types t x (map spot_view (drop l.i l.spots))
      ≡ cs ++ occurring_share l.types t x (map spot_view l.spots));
}
