use Rattle.std.proofs.Common.{◌≡◌, ◌++◌, List, drop}
use Rattle.stage_definitions.specs.Scopes.{Text}
use Rattle.stage_definitions.specs.DataEntries.{named_in_elements}
use Rattle.structure_entries.specs.EntryViews.{found_in, subjects_in}
use Rattle.structure_entries.proofs.subjects.Subjects.add_names.Given as goal

abbrev pub invariant-loop-name : goal.invariant-loop-name
invariant-loop-name l = (w : Text) (more : List Text) → found_in w (subjects_in l.self)
    (named_in_elements w (drop l.name-index l.names ++ more))
    ≡ found_in w (subjects_in l.fn.self) (named_in_elements w (l.names ++ more))
