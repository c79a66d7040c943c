use Rattle.std.proofs.Common.{inr, refl, sym}
use Rattle.grammar.specs.BlockView.{structure_view}
use Rattle.stage_definitions.specs.FileView.{file_in}
use Rattle.reading_cases.specs.Lines.{IsDataLine, fault_text}
use Rattle.reading_cases.proofs.Data.{chosen_is, read_as}
use Rattle.reading_cases.proofs.Files.{file_read, line_is}
use Rattle.reading_cases.proofs.lines.data_line.Goals as goal

pub returns-in-Err-Refused-pick : goal.returns-in-Err-Refused-pick
returns-in-Err-Refused-pick c =
    line_is c.fault_line-in-Err-Refused-pick.result (fault_text c.in-Err-Refused-pick.fault)
    (IsDataLine c.args.text.now) c.fault_line-in-Err-Refused-pick.ensures
    (inr (
      c.in-Err-Refused-pick.fault,
      inr (
        file_in c.in-Ok.raw,
        file_read c.args.text.now c.in-Ok.raw c.in-Ok.ensures,
        (rw c.in-Err-Refused-pick.field-0-is at c.in-Err-Refused-pick.ensures.err),
      ),
      refl,
    ))

pub returns : goal.returns
returns c =
    chosen_is c.chosen_line.result c.args.text.now (file_in c.in-Ok.raw) c.in-Ok-pick.picked.theory
    (structure_view c.in-Some.structure.now)
    (read_as c.args.text.now c.in-Ok.raw c.in-Ok-pick.picked.theory c.in-Ok-pick.picked.structure
    c.in-Some.structure.now c.in-Ok.ensures c.in-Ok-pick.ensures.ok (sym c.in-Some.ensures.value))
    c.chosen_line.ensures
