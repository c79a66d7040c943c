use Rattle.std.proofs.Common.{◌≡◌, ◌++◌, take, codes, flat_map}
use Rattle.literal_printer.specs.Texts.{row_text}
use Rattle.literal_printer.proofs.tables.push_rows.Given as goal

abbrev pub invariant-loop-row : goal.invariant-loop-row
invariant-loop-row l = l.out.items ≡ l.initial.out.items ++ flat_map (λ r. codes "; " ++ row_text r)
    (take l.row-index l.others)
