use Rattle.std.proofs.Common.{◌≡◌, ◌++◌, take, flat_map}
use Rattle.consult_text.specs.Texts.{labelled_line}
use Rattle.consult_text.proofs.texts.push_labelled.Given as goal

abbrev pub invariant-loop-literal : goal.invariant-loop-literal
invariant-loop-literal l = l.out.items ≡ l.initial.out.items ++ flat_map (labelled_line l.label l.vocab)
    (take l.literal-index l.literals)
