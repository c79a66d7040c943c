use Rattle.std.proofs.Common.{◌≡◌, take}
use Rattle.printed_texts.specs.Entries.{function_atoms, is_some_row, rows_where}
use Rattle.fo_printer.specs.Gathering.{HasMore}
use Rattle.fo_printer.proofs.gathering.add_values.Given as goal

abbrev pub invariant-loop-x : goal.invariant-loop-x
invariant-loop-x l = record {
  rows : HasMore l.initial.rows l.rows (rows_where l.holds l.s (function_atoms l.initial.atom.symbol l.initial.atom.args
      (take l.x-index l.values)));
  some : l.some ≡ is_some_row (rows_where l.holds l.s (function_atoms l.initial.atom.symbol l.initial.atom.args
      (take l.x-index l.values)));
  symbol : l.atom.symbol ≡ l.initial.atom.symbol;
  args : l.atom.args ≡ l.initial.atom.args;
}
