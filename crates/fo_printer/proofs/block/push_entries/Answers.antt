use Rattle.std.proofs.Common.{rules}
use Rattle.std.specs.List.{enumerate_from}
use Rattle.printed_texts.specs.Entries.{type_entries, symbol_entries}
use Rattle.fo_printer.proofs.Written.{all_written}
use Rattle.fo_printer.proofs.block.push_entries.Goals as goal

pub returns : goal.returns
returns c =
    all_written c.push_symbols.result c.args.out.now.items c.push_types.new.out.items c.push_symbols.new.out.items
    (type_entries c.args.s.now.domains) (symbol_entries c.args.s.now) (enumerate_from 0 c.args.v.now.types)
    (enumerate_from 0 c.args.s.now.symbols)
    (search rules) c.push_symbols.ensures
