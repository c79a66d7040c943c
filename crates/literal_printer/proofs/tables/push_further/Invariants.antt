use Rattle.std.proofs.Common.{◌≡◌, ◌++◌, drop}
use Rattle.literal_printer.specs.Tables.{further_text}
use Rattle.literal_printer.proofs.tables.push_further.Given as goal

abbrev pub invariant-loop-at : goal.invariant-loop-at
invariant-loop-at l = l.out.items ++ further_text (drop l.at l.elems) ≡ l.initial.out.items ++ further_text l.elems
