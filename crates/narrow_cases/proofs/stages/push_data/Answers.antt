use Rattle.std.proofs.Common.{arith}
use Rattle.grammar.specs.BlockView.{structure_view}
use Rattle.size_stage.specs.Measures.{measure_view}
use Rattle.type_derivation.specs.TypedViews.{typed_view}
use Rattle.narrow_cases.proofs.stages.push_data.Goals as goal

pub push_narrowed-requires-clause-few : goal.push_narrowed-requires-clause-few
push_narrowed-requires-clause-few c =
    let is = c.requires.typed in
    let formed = (c.derived_is_well_formed.ensures is.0 is.1.0 (typed_view c.args.kb.now) is.1.1 is.1.2).few_symbols in
    omega (arith, formed)

pub push_narrowed-requires-clause-typed : goal.push_narrowed-requires-clause-typed
push_narrowed-requires-clause-typed c =
    let is = c.requires.typed in
    c.accepted_can_be_grounded.ensures is.0 is.1.0 (typed_view c.args.kb.now) is.1.1 is.1.2 c.args.theory
    (structure_view c.args.structure.now) c.in-Ok.measured.0 c.in-Ok.ensures.ok.given

pub push_narrowed-requires-clause-bounded : goal.push_narrowed-requires-clause-bounded
push_narrowed-requires-clause-bounded c =
    let is = c.requires.typed in
    (c.accepted_is_bounded.ensures is.1.0 (typed_view c.args.kb.now) is.1.2 c.args.theory c.in-Ok.measured.0
    (measure_view c.in-Ok.measured.1) c.in-Ok.ensures.ok.sized).theory

pub push_narrowed-requires-clause-asked : goal.push_narrowed-requires-clause-asked
push_narrowed-requires-clause-asked c =
    let is = c.requires.typed in
    (c.accepted_is_bounded.ensures is.1.0 (typed_view c.args.kb.now) is.1.2 c.args.theory c.in-Ok.measured.0
    (measure_view c.in-Ok.measured.1) c.in-Ok.ensures.ok.sized).terms
