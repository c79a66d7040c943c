use Rattle.std.proofs.Common.{◌∙◌, ap}
use Rattle.kb_text.specs.declared.fault.K.TheVariants as k
use Rattle.stage_definitions.specs.Earliest.{noted_if}
use Rattle.data_clashes.proofs.notes.note_single.Goals as goal

pub returns-clause-noted : goal.returns-clause-noted
returns-clause-noted c = λ all es before s.
    c.note_if.ensures ∙ ap (λ b. noted_if b k.DataClash c.args.fact.now.place c.args.earliest.now.first)
    (c.in_ok-clash.ensures.clash before s)
