use Rattle.std.proofs.Common.{◌≡◌, ◌++◌, length, ◌-◌, List, map}
use Rattle.std.specs.Prelude.{flat_map}
use Rattle.derivation_log.specs.declared.entries.Entry.{Entry}
use Rattle.derivation_log.specs.Lines.{entry_text}
use Rattle.tightened_entries.specs.LastBounds.{others, under}
use Rattle.tightened_entries.specs.Readings.{ReadsTo}
use Rattle.tightened_entries.proofs.tightening.push_others.Given as goal

-- some entries were read, and the text has what these are under the last bound
abbrev pub invariant-loop-at : goal.invariant-loop-at
invariant-loop-at l = (es : List Entry) × ReadsTo l.fn.entries l.at es × (l.text.items
    ≡ l.initial.text.items ++ flat_map entry_text (map (under l.fn.before l.fn.selectors.list.items) (others es)))

abbrev pub decreases-loop-at : goal.decreases-loop-at
decreases-loop-at l = length l.entries - l.at
