use Rattle.std.proofs.Common.{ap, ◌∙◌}
use Rattle.std.proofs.lemmas.Result.{IfOk-weaker}
use Rattle.atom_numbers.specs.Unknown.{open_from}
use Rattle.atom_numbers.proofs.UnknownFacts.{open-are}
use Rattle.atom_numbers.proofs.unknown.open_literals.Goals as goal

pub returns : goal.returns
returns c = IfOk-weaker c.open_among.result _ _ (λ lits e. open-are c.args.partial.now lits.items
    (e ∙ ap (open_from 1) (c.as_slice.ensures.value ∙ c.in_ok-truths.ensures))) c.open_among.ensures
