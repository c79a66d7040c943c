use Rattle.std.proofs.Common.{◌∙◌, ap}
use Rattle.stage_definitions.specs.Earliest.{noted_if}
use Rattle.kb_text.specs.declared.fault.K.TheVariants as k
use Rattle.data_refusals.proofs.arguments.note_one.Goals as goal

pub returns-in-Some : goal.returns-in-Some
returns-in-Some c = λ all es h. rw c.in-Some.is (c.note_if.ensures
    ∙ ap (λ b. noted_if b k.NotAnElement c.args.place c.args.earliest.now.first)
    (c.is_foreign.ensures all es h c.args.place))
