use Rattle.std.proofs.Common.{inr, refl}
use Rattle.grammar.specs.BlockView.{structure_view}
use Rattle.stage_definitions.specs.FileView.{file_in}
use Rattle.stage_definitions.specs.FileViews.{kb_view}
use Rattle.type_derivation.specs.TypedViews.{typed_view}
use Rattle.reading_cases.specs.Lines.{IsChosenLine, fault_text}
use Rattle.reading_cases.proofs.Data.{measured_is}
use Rattle.reading_cases.proofs.Files.{line_is}
use Rattle.reading_cases.proofs.lines.chosen_line.Goals as goal

pub returns-in-Err-Refused-derive : goal.returns-in-Err-Refused-derive
returns-in-Err-Refused-derive c =
    line_is c.fault_line-in-Err-Refused-derive.result (fault_text c.in-Err-Refused-derive.fault)
    (IsChosenLine (file_in c.args.raw.now) c.args.theory (structure_view c.args.structure.now))
    c.fault_line-in-Err-Refused-derive.ensures
    (inr (
      c.in-Err-Refused-derive.fault,
      inr (
        kb_view c.in-Ok.named,
        c.in-Ok.ensures.ok,
        (rw c.in-Err-Refused-derive.field-0-is at c.in-Err-Refused-derive.ensures.err),
      ),
      refl,
    ))

pub returns-in-Ok-derive : goal.returns-in-Ok-derive
returns-in-Ok-derive c =
    measured_is c.measured_line.result (file_in c.args.raw.now) (kb_view c.in-Ok.named) (typed_view c.in-Ok-derive.kb)
    c.args.theory (structure_view c.args.structure.now) c.in-Ok.ensures.ok c.in-Ok-derive.ensures.ok
    c.measured_line.ensures
