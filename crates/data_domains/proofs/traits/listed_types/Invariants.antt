use Rattle.std.proofs.Common.{◌≡◌, ◌<◌, ◌||◌, ℕ, false, drop, get_or, length, map}
use Rattle.stage_definitions.specs.DataDomains.{is_listed}
use Rattle.structure_entries.specs.SaidViews.{said_view}
use Rattle.data_domains.proofs.traits.listed_types.Given as goal

abbrev pub invariant-loop-entry : goal.invariant-loop-entry
invariant-loop-entry l = record {
  count : length l.listed.items ≡ l.count;
  listed : (t : ℕ) → t < l.count
      → (get_or l.listed.items t false || is_listed (map said_view (drop l.entry-index l.entries)) t)
      ≡ is_listed (map said_view l.entries) t;
}
