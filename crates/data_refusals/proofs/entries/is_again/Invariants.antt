use Rattle.std.proofs.Common.{◌≡◌, drop, map}
use Rattle.stage_definitions.specs.DataStage as stage
use Rattle.structure_entries.specs.SaidViews.{said_view}
use Rattle.data_refusals.proofs.entries.is_again.Given as goal

abbrev pub invariant-loop-other : goal.invariant-loop-other
invariant-loop-other l = stage.is_again (stage.entry (map said_view (drop l.other-index l.before)) (said_view l.entry))
    ≡ stage.is_again (stage.entry (map said_view l.before) (said_view l.entry))
