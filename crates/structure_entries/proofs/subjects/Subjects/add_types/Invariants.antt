use Rattle.std.proofs.Common.{◌≡◌, drop}
use Rattle.std.specs.List.{enumerate_from}
use Rattle.stage_definitions.specs.Scopes.{Text}
use Rattle.stage_definitions.specs.DataEntries.{Subject, named_in_types}
use Rattle.structure_entries.specs.EntryViews.{found_in, subjects_in}
use Rattle.structure_entries.proofs.subjects.Subjects.add_types.Given as goal

abbrev pub invariant-loop-t : goal.invariant-loop-t
invariant-loop-t l = (w : Text) (other : Subject) → found_in w (subjects_in l.self)
    (named_in_types w (enumerate_from l.t (drop l.t l.types)) other)
    ≡ found_in w (subjects_in l.fn.self) (named_in_types w (enumerate_from 0 l.types) other)
