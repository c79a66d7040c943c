use Rattle.std.proofs.Common.{◌≡◌, ◌||◌, ℕ, true, false, drop, map}
use Rattle.std.specs.List.{list_any}
use Rattle.structure_entries.specs.SaidViews.{said_view}
use Rattle.data_clashes.specs.Signs.{may_say}
use Rattle.data_clashes.specs.Tables.{is_wide}
use Rattle.data_clashes.proofs.signs.Signs.of.Given as goal

abbrev pub invariant-loop-entry : goal.invariant-loop-entry
invariant-loop-entry l = record {
  affirmed : (s : ℕ)
      → (is_wide l.signs.affirmed.keys s || list_any (may_say true s) (map said_view (drop l.entry-index l.entries)))
      ≡ list_any (may_say true s) (map said_view l.entries);
  denied : (s : ℕ)
      → (is_wide l.signs.denied.keys s || list_any (may_say false s) (map said_view (drop l.entry-index l.entries)))
      ≡ list_any (may_say false s) (map said_view l.entries);
}
