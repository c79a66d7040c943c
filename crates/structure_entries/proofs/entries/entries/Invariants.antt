use Rattle.std.proofs.Common.{◌≡◌, ◌++◌, drop, map}
use Rattle.grammar.specs.BlockView.{entry_view}
use Rattle.stage_definitions.specs.DataEntries as said
use Rattle.structure_entries.specs.SaidViews.{said_view}
use Rattle.structure_entries.proofs.entries.entries.Given as goal

abbrev pub invariant-loop-raw : goal.invariant-loop-raw
invariant-loop-raw l = map said_view l.entries.items ++ map (said.said l.vocab)
    (map entry_view (drop l.raw-index l.fn.raw.entries))
    ≡ map (said.said l.vocab) (map entry_view l.fn.raw.entries)
