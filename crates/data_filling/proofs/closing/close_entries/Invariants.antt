use Rattle.std.proofs.Common.{map, take}
use Rattle.structure_entries.specs.SaidViews.{said_view}
use Rattle.data_filling.specs.Filling.{Closes}
use Rattle.data_filling.proofs.closing.close_entries.Given as goal

abbrev pub invariant-loop-entry : goal.invariant-loop-entry
invariant-loop-entry l = Closes l.fn.partial l.partial (map said_view (take l.entry-index l.entries))
