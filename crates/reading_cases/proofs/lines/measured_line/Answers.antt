use Rattle.std.proofs.Common.{inl, inr, refl}
use Rattle.grammar.specs.BlockView.{structure_view}
use Rattle.type_derivation.specs.TypedViews.{typed_view}
use Rattle.size_stage.specs.Measures.{measure_view}
use Rattle.reading_cases.specs.Lines.{IsMeasuredLine, fault_text, sizes_text}
use Rattle.reading_cases.proofs.Files.{line_is}
use Rattle.reading_cases.proofs.lines.measured_line.Goals as goal

pub returns-in-Err-Refused : goal.returns-in-Err-Refused
returns-in-Err-Refused c =
    line_is c.fault_line.result (fault_text c.in-Err-Refused.fault)
    (IsMeasuredLine (typed_view c.args.kb.now) c.args.theory (structure_view c.args.structure.now))
    c.fault_line.ensures
    (inr (
      c.in-Err-Refused.fault,
      (rw c.in-Err-Refused.field-0-is at c.in-Err-Refused.ensures.err),
      refl,
    ))

pub returns-in-Ok : goal.returns-in-Ok
returns-in-Ok c =
    line_is c.sizes_line.result (sizes_text c.in-Ok.sizes.atoms c.in-Ok.sizes.weight)
    (IsMeasuredLine (typed_view c.args.kb.now) c.args.theory (structure_view c.args.structure.now))
    c.sizes_line.ensures
    (inl (c.in-Ok._partial, measure_view c.in-Ok.sizes, c.in-Ok.ensures.ok.given, c.in-Ok.ensures.ok.sized, refl))
