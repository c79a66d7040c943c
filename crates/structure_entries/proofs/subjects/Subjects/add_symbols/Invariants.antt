use Rattle.std.proofs.Common.{◌≡◌, drop}
use Rattle.std.specs.List.{enumerate_from}
use Rattle.stage_definitions.specs.Scopes.{Text}
use Rattle.stage_definitions.specs.DataEntries.{Subject, named_in_symbols}
use Rattle.structure_entries.specs.EntryViews.{found_in, subjects_in}
use Rattle.structure_entries.proofs.subjects.Subjects.add_symbols.Given as goal

abbrev pub invariant-loop-s : goal.invariant-loop-s
invariant-loop-s l = (w : Text) (other : Subject) → found_in w (subjects_in l.self)
    (named_in_symbols w (enumerate_from l.s (drop l.s l.symbols)) other)
    ≡ found_in w (subjects_in l.fn.self) (named_in_symbols w (enumerate_from 0 l.symbols) other)
