use Rattle.std.proofs.Common.{◌≡◌, ◌++◌, take, codes, flat_map}
use Rattle.literal_printer.specs.Texts.{elem_text}
use Rattle.literal_printer.proofs.pieces.push_row.Given as goal

abbrev pub invariant-loop-elem : goal.invariant-loop-elem
invariant-loop-elem l = l.out.items ≡ l.initial.out.items ++ flat_map (λ x. codes "," ++ elem_text x)
    (take l.elem-index l.others)
