use Rattle.std.proofs.Common.{◌≡◌, ◌++◌, ℕ, List, drop, length, map}
use Rattle.std.specs.List.{flat_map}
use Rattle.stage_definitions.specs.Elements.{Cell}
use Rattle.structure_entries.specs.SaidViews.{said_view}
use Rattle.data_domains.specs.Shares.{share, IsGiven}
use Rattle.data_domains.specs.declared.traits.Traits.{Traits}
use Rattle.data_domains.proofs.filling.add_entries.Given as goal

abbrev pub invariant-loop-entry : goal.invariant-loop-entry
invariant-loop-entry l = record {
  count : length l.all.items ≡ length l.fn.all.items;
  given : (t : ℕ) (x : Traits) (cs : List Cell) → IsGiven l.fn.all.items t x cs
      → (ds : List Cell) × IsGiven l.all.items t x ds
      × (ds ++ flat_map (share l.types t x) (map said_view (drop l.entry-index l.entries))
      ≡ cs ++ flat_map (share l.types t x) (map said_view l.entries));
}
