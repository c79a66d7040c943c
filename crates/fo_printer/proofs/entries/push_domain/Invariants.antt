use Rattle.std.proofs.Common.{◌≡◌, ◌++◌, take, map, flat_map}
use Rattle.printed_texts.specs.Entries.{alone}
use Rattle.printed_texts.specs.Texts.{next_row_text}
use Rattle.fo_printer.proofs.entries.push_domain.Given as goal

abbrev pub invariant-loop-elem : goal.invariant-loop-elem
invariant-loop-elem l = l.out.items ≡ l.initial.out.items ++ flat_map next_row_text
    (map alone (take l.elem-index l.others))
