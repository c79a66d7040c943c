use Rattle.stage_definitions.specs.Numbering.{symbol_places}
use Rattle.formula_names.proofs.PerDeclaration.{symbol_places-next, next_added}
use Rattle.kb_names.proofs.places.symbol_places.Goals as goal

pub loop-raw-preserved : goal.loop-raw-preserved
loop-raw-preserved c = next_added symbol_places c.loop-raw.raw-index c.args.declarations.now c.raw-item.result _ _ _
    c.loop-raw-test.true c.raw-item.is
    symbol_places-next c.in_ok-add_symbol_place.ensures c.loop-raw.invariant
