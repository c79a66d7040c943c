use Rattle.std.proofs.Common.{◌≡◌, ◌++◌, take, codes, flat_map}
use Rattle.literal_printer.specs.Tables.{mapping_text}
use Rattle.literal_printer.proofs.tables.push_mappings.Given as goal

abbrev pub invariant-loop-row : goal.invariant-loop-row
invariant-loop-row l = l.out.items ≡ l.initial.out.items ++ flat_map (λ r. codes "; " ++ mapping_text r)
    (take l.row-index l.others)
