use Rattle.std.proofs.Common.{◌≡◌, ◌++◌, take, codes, flat_map}
use Rattle.printed_texts.specs.FormulaPrints.{bound_text}
use Rattle.fo_printer.proofs.formulas.push_bounds.Given as goal

abbrev pub invariant-loop-bound : goal.invariant-loop-bound
invariant-loop-bound l = l.out.items ≡ l.initial.out.items ++ flat_map (λ b. codes " " ++ bound_text l.vocab b)
    (take l.bound-index l.others)
