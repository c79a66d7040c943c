use Rattle.stage_definitions.specs.Numbering.{type_places}
use Rattle.formula_names.proofs.PerDeclaration.{type_places-next, next_added}
use Rattle.kb_names.proofs.places.type_places.Goals as goal

pub loop-raw-preserved : goal.loop-raw-preserved
loop-raw-preserved c = next_added type_places c.loop-raw.raw-index c.args.declarations.now c.raw-item.result _ _ _
    c.loop-raw-test.true c.raw-item.is
    type_places-next c.in_ok-add_type_place.ensures c.loop-raw.invariant
