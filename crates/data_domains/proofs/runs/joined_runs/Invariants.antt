use Rattle.std.proofs.Common.{◌≡◌, ◌≤ℤ◌, ◌++◌, ◌∷◌, ℤ, List, drop, map}
use Rattle.kb_logic.specs.Bounds.{Interval}
use Rattle.structure_entries.specs.WholeViews.{whole_view}
use Rattle.data_domains.specs.Runs.{is_inside, AreApartFrom, AreRisingFrom}
use Rattle.data_domains.specs.Sets.{interval_view}
use Rattle.data_domains.proofs.runs.joined_runs.Given as goal

abbrev pub invariant-loop-one : goal.invariant-loop-one
invariant-loop-one l = record {
  apart : (start : ℤ) × ((more : List Interval) → AreApartFrom (whole_view l.last.low) more
      → AreApartFrom start (map interval_view l.runs.items ++ more));
  full : whole_view l.last.low ≤ℤ whole_view l.last.high;
  rising : AreRisingFrom (whole_view l.last.low) (map interval_view (drop l.one-index l.rest));
  same : (z : ℤ) → is_inside (map interval_view l.runs.items ++ interval_view l.last ∷ map interval_view
      (drop l.one-index l.rest)) z
      ≡ is_inside (map interval_view l.rising) z;
}
