use Rattle.std.proofs.Common.{◌≡◌, ◌++◌, drop, flat_map}
use Rattle.std.specs.List.{enumerate_from}
use Rattle.literal_printer.specs.Tables.{symbol_line}
use Rattle.literal_printer.proofs.tables.push_symbols.Given as goal

abbrev pub invariant-loop-number : goal.invariant-loop-number
invariant-loop-number l = l.out.items ++ flat_map (symbol_line l.m) (enumerate_from l.number (drop l.number l.symbols))
    ≡ l.initial.out.items ++ flat_map (symbol_line l.m) (enumerate_from 0 l.symbols)
