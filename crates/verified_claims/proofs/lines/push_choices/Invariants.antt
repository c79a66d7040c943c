use Rattle.std.proofs.Common.{◌≡◌, ◌++◌, take, codes, flat_map}
use Rattle.literal_printer.specs.Texts.{literal_text}
use Rattle.verified_claims.proofs.lines.push_choices.Given as goal

abbrev pub invariant-loop-other : goal.invariant-loop-other
invariant-loop-other l =
    l.out.items ≡ l.initial.out.items ++ flat_map (λ k. codes ", " ++ literal_text l.vocab k)
    (take l.other-index l.others)
