use Rattle.std.proofs.Common.{◌≡◌, ◌++◌, drop, map, ℕ}
use Rattle.std.specs.List.{flat_map}
use Rattle.grammar.specs.BlockTrees as raw
use Rattle.grammar.specs.BlockView as raw_view
use Rattle.stage_definitions.specs.DataEntries.{rows_between}
use Rattle.structure_entries.specs.EntryViews.{row_view}
use Rattle.structure_entries.proofs.rows.add_more.Given as goal

abbrev pub invariant-loop-tail : goal.invariant-loop-tail
invariant-loop-tail l = map row_view l.rows.items ++ flat_map (rows_between l.by_commas)
    (map (λ (x : ℕ × raw.Row). x.1) (map raw_view.row_tail_view (drop l.tail-index l.more)))
    ≡ map row_view l.fn.rows.items ++ flat_map (rows_between l.by_commas)
    (map (λ (x : ℕ × raw.Row). x.1) (map raw_view.row_tail_view l.more))
