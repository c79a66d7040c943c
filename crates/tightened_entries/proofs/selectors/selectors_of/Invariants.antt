use Rattle.std.proofs.Common.{◌≡◌, ◌++◌, length, ◌-◌, All, List}
use Rattle.std.specs.Prelude.{flat_map}
use Rattle.derivation_log.specs.declared.entries.Entry.{Entry}
use Rattle.derivation_log.specs.Lines.{entry_text}
use Rattle.search_log.specs.Entries.{IsOfSearch}
use Rattle.tightened_entries.specs.LastBounds.{bounds_of, selectors_of}
use Rattle.tightened_entries.specs.Readings.{ReadsTo}
use Rattle.tightened_entries.specs.SelectorSets.{AreHashed}
use Rattle.tightened_entries.proofs.selectors.selectors_of.Given as goal

-- some entries were read, and of these are the selectors and the text
abbrev pub invariant-loop-at : goal.invariant-loop-at
invariant-loop-at l = AreHashed l.found × ((es : List Entry) × All IsOfSearch es × ReadsTo l.fn.entries l.at es
    × (l.found.list.items ≡ selectors_of es)
    × (l.text.items ≡ l.initial.text.items ++ flat_map entry_text (bounds_of es)))

abbrev pub decreases-loop-at : goal.decreases-loop-at
decreases-loop-at l = length l.entries - l.at
