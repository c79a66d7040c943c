use Rattle.std.proofs.Common.{◌≡◌, drop, map}
use Rattle.stage_definitions.specs.DataFacts.{all_share}
use Rattle.structure_entries.specs.EntryViews.{cell_view}
use Rattle.data_clashes.proofs.clashes.all_share.Given as goal

abbrev pub invariant-loop-i : goal.invariant-loop-i
invariant-loop-i l = all_share (map cell_view (drop l.i l.a)) (map cell_view (drop l.i l.b)) ≡ all_share
    (map cell_view l.a) (map cell_view l.b)
