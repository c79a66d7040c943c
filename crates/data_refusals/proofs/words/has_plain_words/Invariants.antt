use Rattle.std.proofs.Common.{◌≡◌, length}
use Rattle.std.specs.List.{list_all}
use Rattle.structure_entries.specs.EntryViews.{items_of, row_view}
use Rattle.data_refusals.specs.Words.{is_plain_word}
use Rattle.data_refusals.proofs.words.has_plain_words.Given as goal

abbrev pub invariant-loop-item : goal.invariant-loop-item
invariant-loop-item l = list_all is_plain_word (items_of l.rest) ≡ list_all is_plain_word (row_view l.row).items

abbrev pub decreases-loop-item : goal.decreases-loop-item
decreases-loop-item l = length (items_of l.rest)
