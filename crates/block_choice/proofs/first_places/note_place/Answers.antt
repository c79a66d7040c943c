use Rattle.std.proofs.Common.{◌∙◌, ap, nat_lt, ◌||◌}
use Rattle.grammar.specs.View.{name_view}
use Rattle.block_choice.specs.Choices.{is_before}
use Rattle.block_choice.proofs.Placing.{place_noted}
use Rattle.block_choice.proofs.first_places.note_place.Goals as goal

pub returns : goal.returns
returns c names are =
    place_noted c.args.first.now.places.entries _ c.as_slice-text.result c.lesser-least.result names
    (name_view c.args.name.now)
    c.in_ok-insert.ensures.entries c.as_slice-text.ensures
    (λ later. c.lesser-least.ensures later
    ∙ ap (λ o. is_before o later || nat_lt c.args.name.now.place later) (c.copied.ensures ∙ c.get.ensures.value)) are
