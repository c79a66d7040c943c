use Rattle.std.proofs.Common.{◌≡◌, ◌++◌, drop, flat_map}
use Rattle.std.specs.List.{enumerate_from}
use Rattle.printed_texts.specs.Entries.{type_entries}
use Rattle.printed_texts.specs.Texts.{entries_text}
use Rattle.fo_printer.proofs.block.push_types.Given as goal

abbrev pub invariant-loop-number : goal.invariant-loop-number
invariant-loop-number l =
    l.out.items ++ flat_map (λ t. entries_text (type_entries l.domains t))
    (enumerate_from l.number (drop l.number l.types))
    ≡ l.initial.out.items ++ flat_map (λ t. entries_text (type_entries l.domains t)) (enumerate_from 0 l.types)
