use Rattle.std.proofs.Common.{inl, inr, refl}
use Rattle.std.specs.Prelude.{codes}
use Rattle.stage_definitions.specs.FileView.{file_in}
use Rattle.stage_definitions.specs.FileViews.{kb_view}
use Rattle.type_derivation.specs.TypedViews.{typed_view}
use Rattle.reading_cases.specs.Lines.{IsTypesLine, fault_text}
use Rattle.reading_cases.proofs.Files.{file_read, line_is}
use Rattle.reading_cases.proofs.lines.types_line.Goals as goal

pub returns-in-Err-Refused-resolve : goal.returns-in-Err-Refused-resolve
returns-in-Err-Refused-resolve c =
    line_is c.fault_line-in-Err-Refused-resolve.result (fault_text c.in-Err-Refused-resolve.fault)
    (IsTypesLine c.args.text.now) c.fault_line-in-Err-Refused-resolve.ensures
    (inr (
      c.in-Err-Refused-resolve.fault,
      inr (
        file_in c.in-Ok.raw,
        file_read c.args.text.now c.in-Ok.raw c.in-Ok.ensures,
        inl
            (rw c.in-Err-Refused-resolve.field-0-is at c.in-Err-Refused-resolve.ensures.err),
      ),
      refl,
    ))

pub returns-in-Ok-derive : goal.returns-in-Ok-derive
returns-in-Ok-derive c =
    line_is c.from_str.result (codes "typed\n") (IsTypesLine c.args.text.now) c.from_str.ensures.ok
    (inl (
      file_in c.in-Ok.raw,
      kb_view c.in-Ok-resolve.named,
      typed_view c.in-Ok-derive._typed,
      file_read c.args.text.now c.in-Ok.raw c.in-Ok.ensures,
      c.in-Ok-resolve.ensures.ok,
      c.in-Ok-derive.ensures.ok,
      refl,
    ))

pub returns-in-Err-Refused-derive : goal.returns-in-Err-Refused-derive
returns-in-Err-Refused-derive c =
    line_is c.fault_line-in-Err-Refused-derive.result (fault_text c.in-Err-Refused-derive.fault)
    (IsTypesLine c.args.text.now) c.fault_line-in-Err-Refused-derive.ensures
    (inr (
      c.in-Err-Refused-derive.fault,
      inr (
        file_in c.in-Ok.raw,
        file_read c.args.text.now c.in-Ok.raw c.in-Ok.ensures,
        inr (
          kb_view c.in-Ok-resolve.named,
          c.in-Ok-resolve.ensures.ok,
          (rw c.in-Err-Refused-derive.field-0-is at c.in-Err-Refused-derive.ensures.err),
        ),
      ),
      refl,
    ))
