use Rattle.std.proofs.Common.{◌≡◌, ◌++◌, drop, map, ℕ}
use Rattle.grammar.specs.BlockView.{item_tail_view, items_view}
use Rattle.grammar.specs.BlockTrees as raw
use Rattle.stage_definitions.specs.DataEntries.{items_in, row_of_item}
use Rattle.structure_entries.specs.EntryViews.{row_view}
use Rattle.structure_entries.proofs.rows.add_each.Given as goal

abbrev pub invariant-loop-tail : goal.invariant-loop-tail
invariant-loop-tail l = map row_view l.rows.items ++ map row_of_item
    (map (λ (x : ℕ × raw.RowItem). x.1) (map item_tail_view (drop l.tail-index l.raw.more)))
    ≡ map row_view l.fn.rows.items ++ map row_of_item (items_in (items_view l.raw))
