use Rattle.std.proofs.Common.{inl, inr, refl}
use Rattle.std.specs.Prelude.{codes}
use Rattle.stage_definitions.specs.FileView.{file_in}
use Rattle.stage_definitions.specs.FileViews.{kb_view}
use Rattle.reading_cases.specs.Lines.{IsNamesLine, fault_text}
use Rattle.reading_cases.proofs.Files.{file_read, line_is}
use Rattle.reading_cases.proofs.lines.names_line.Goals as goal

pub returns-in-Ok-resolve : goal.returns-in-Ok-resolve
returns-in-Ok-resolve c =
    line_is c.from_str.result (codes "named\n") (IsNamesLine c.args.text.now) c.from_str.ensures.ok
    (inl (
      file_in c.in-Ok.raw,
      kb_view c.in-Ok-resolve._named,
      file_read c.args.text.now c.in-Ok.raw c.in-Ok.ensures,
      c.in-Ok-resolve.ensures.ok,
      refl,
    ))

pub returns-in-Err-Refused-resolve : goal.returns-in-Err-Refused-resolve
returns-in-Err-Refused-resolve c =
    line_is c.fault_line-in-Err-Refused-resolve.result (fault_text c.in-Err-Refused-resolve.fault)
    (IsNamesLine c.args.text.now) c.fault_line-in-Err-Refused-resolve.ensures
    (inr (
      c.in-Err-Refused-resolve.fault,
      inr (
        file_in c.in-Ok.raw,
        file_read c.args.text.now c.in-Ok.raw c.in-Ok.ensures,
        (rw c.in-Err-Refused-resolve.field-0-is at
            c.in-Err-Refused-resolve.ensures.err),
      ),
      refl,
    ))
