use Rattle.std.proofs.Common.{◌≡◌, drop, true}
use Rattle.printed_texts.specs.Entries.{function_atoms, lone_value, rows_where}
use Rattle.fo_printer.proofs.entries.push_constant.Given as goal

abbrev pub invariant-loop-x : goal.invariant-loop-x
invariant-loop-x l = record {
  out : l.out.items ≡ l.initial.out.items;
  left : lone_value (rows_where true l.s (function_atoms l.initial.atom.symbol l.initial.atom.args
      (drop l.x-index l.values)))
      ≡ lone_value (rows_where true l.s (function_atoms l.initial.atom.symbol l.initial.atom.args l.values));
  symbol : l.atom.symbol ≡ l.initial.atom.symbol;
  args : l.atom.args ≡ l.initial.atom.args;
}
