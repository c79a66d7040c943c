use Rattle.std.proofs.Common.{◌≡◌, drop, map}
use Rattle.stage_definitions.specs.DataFacts.{clashes_with}
use Rattle.structure_entries.specs.EntryViews.{fact_view}
use Rattle.data_clashes.proofs.clashes.clashes_with.Given as goal

abbrev pub invariant-loop-other : goal.invariant-loop-other
invariant-loop-other l = clashes_with (map fact_view (drop l.other-index l.before)) (fact_view l.fact) ≡ clashes_with
    (map fact_view l.before) (fact_view l.fact)
