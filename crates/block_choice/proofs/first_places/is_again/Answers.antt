use Rattle.grammar.specs.View.{name_view}
use Rattle.std.proofs.Common.{◌∙◌, ap}
use Rattle.block_choice.specs.Choices.{is_before}
use Rattle.block_choice.proofs.first_places.is_again.Goals as goal

pub returns-in-Some : goal.returns-in-Some
returns-in-Some c names are =
    ap (λ o. is_before o c.args.name.now.place) (rw c.as_slice.ensures at c.in-Some.ensures.value)
    ∙ are (name_view c.args.name.now)

pub returns-in-None : goal.returns-in-None
returns-in-None c names are =
    ap (λ o. is_before o c.args.name.now.place) (rw c.as_slice.ensures at c.in-None.ensures.value)
    ∙ are (name_view c.args.name.now)
