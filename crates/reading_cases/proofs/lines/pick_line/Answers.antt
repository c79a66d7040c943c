use Rattle.std.proofs.Common.{inl, inr, refl}
use Rattle.block_choice.specs.Choices.{word_given}
use Rattle.stage_definitions.specs.FileView.{file_in}
use Rattle.reading_cases.specs.Lines.{IsPickLine, fault_text, picked_text}
use Rattle.reading_cases.proofs.Files.{file_read, line_is}
use Rattle.reading_cases.proofs.lines.pick_line.Goals as goal

pub returns-in-Ok-pick : goal.returns-in-Ok-pick
returns-in-Ok-pick c =
    line_is c.picked_line.result (picked_text c.in-Ok-pick.picked.theory c.in-Ok-pick.picked.structure)
    (IsPickLine (word_given c.args.theory) c.args.text.now) c.picked_line.ensures
    (inl (
      file_in c.in-Ok.raw,
      c.in-Ok-pick.picked.theory,
      c.in-Ok-pick.picked.structure,
      file_read c.args.text.now c.in-Ok.raw c.in-Ok.ensures,
      c.in-Ok-pick.ensures.ok,
      refl,
    ))

pub returns-in-Err-Refused-pick : goal.returns-in-Err-Refused-pick
returns-in-Err-Refused-pick c =
    line_is c.fault_line-in-Err-Refused-pick.result (fault_text c.in-Err-Refused-pick.fault)
    (IsPickLine (word_given c.args.theory) c.args.text.now)
    c.fault_line-in-Err-Refused-pick.ensures
    (inr (
      c.in-Err-Refused-pick.fault,
      inr (
        file_in c.in-Ok.raw,
        file_read c.args.text.now c.in-Ok.raw c.in-Ok.ensures,
        (rw c.in-Err-Refused-pick.field-0-is at c.in-Err-Refused-pick.ensures.err),
      ),
      refl,
    ))
