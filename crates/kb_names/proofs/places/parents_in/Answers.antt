use Rattle.stage_definitions.specs.Uses.{parents_in}
use Rattle.formula_names.specs.Meanings.{names_in}
use Rattle.formula_names.proofs.PerDeclaration.{parents_in-next, next_added}
use Rattle.kb_names.proofs.places.parents_in.Goals as goal

pub loop-raw-preserved : goal.loop-raw-preserved
loop-raw-preserved c = next_added (parents_in (names_in c.args.table.now)) c.loop-raw.raw-index c.args.declarations.now
    c.raw-item.result _ _ _ c.loop-raw-test.true c.raw-item.is
    (parents_in-next (names_in c.args.table.now)) c.in_ok-add_parent.ensures c.loop-raw.invariant
