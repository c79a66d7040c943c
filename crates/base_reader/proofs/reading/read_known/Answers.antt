use Rattle.std.proofs.Common.{arith}
use Rattle.grammar.specs.BlockView.{structure_view}
use Rattle.size_stage.specs.Measures.{measure_view}
use Rattle.type_derivation.specs.TypedViews.{typed_view}
use Rattle.base_reader.proofs.Stages.{data_ground, data_bounded, open_fails, stage_fails}
use Rattle.base_reader.proofs.reading.read_known.Goals as goal

pub read_narrowing-requires-clause-few : goal.read_narrowing-requires-clause-few
read_narrowing-requires-clause-few c =
    let is = c.requires.typed in
    let formed = (c.derived_is_well_formed.ensures is.0 is.1.0 (typed_view c.args.kb.now) is.1.1 is.1.2).few_symbols in
    omega (arith, formed)

pub read_narrowing-requires-clause-typed : goal.read_narrowing-requires-clause-typed
read_narrowing-requires-clause-typed c =
    data_ground c.requires.typed.0 (typed_view c.args.kb.now) c.requires.typed.1 c.args.theory
    (structure_view c.args.structure.now) c.in-Ok.measured.0 (measure_view c.in-Ok.measured.1) c.in-Ok.ensures.ok
    c.accepted_can_be_grounded.ensures

pub read_narrowing-requires-clause-bounded : goal.read_narrowing-requires-clause-bounded
read_narrowing-requires-clause-bounded c =
    data_bounded c.requires.typed.0 (typed_view c.args.kb.now) c.requires.typed.1 c.args.theory
    (structure_view c.args.structure.now) c.in-Ok.measured.0 (measure_view c.in-Ok.measured.1) c.in-Ok.ensures.ok
    c.accepted_is_bounded.ensures

pub returns-in-Err-clause-err : goal.returns-in-Err-clause-err
returns-in-Err-clause-err c =
    stage_fails (typed_view c.args.kb.now) c.args.theory (structure_view c.args.structure.now) c.in-Err.e
    c.in-Err.ensures.err

pub returns-in-Ok-read_narrowing-clause-ok : goal.returns-in-Ok-read_narrowing-clause-ok
returns-in-Ok-read_narrowing-clause-ok c = record {
  given = c.in-Ok.ensures.ok.given;
  sized = c.in-Ok.ensures.ok.sized.accepted;
  ground = data_ground c.requires.typed.0 (typed_view c.args.kb.now) c.requires.typed.1 c.args.theory
      (structure_view c.args.structure.now) c.in-Ok.measured.0 (measure_view c.in-Ok.measured.1) c.in-Ok.ensures.ok
      c.accepted_can_be_grounded.ensures;
  bounded = data_bounded c.requires.typed.0 (typed_view c.args.kb.now) c.requires.typed.1 c.args.theory
      (structure_view c.args.structure.now) c.in-Ok.measured.0 (measure_view c.in-Ok.measured.1) c.in-Ok.ensures.ok
      c.accepted_is_bounded.ensures;
  narrowing = c.in-Ok-read_narrowing.ensures.narrowing;
  light = c.in-Ok-read_narrowing.ensures.light;
}

pub returns-in-Err-read_narrowing-clause-err : goal.returns-in-Err-read_narrowing-clause-err
returns-in-Err-read_narrowing-clause-err c =
    open_fails c.requires.typed.0 (typed_view c.args.kb.now) c.requires.typed.1 c.args.theory
    (structure_view c.args.structure.now) c.in-Ok.measured.0 (measure_view c.in-Ok.measured.1) c.in-Ok.ensures.ok
    c.in-Err-read_narrowing.e c.in-Err-read_narrowing.ensures.err
