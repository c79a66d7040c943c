use Rattle.std.proofs.Common.{◌≡◌, List, drop, fold, map}
use Rattle.kb_logic.specs.declared.vocabularies.TypeDecl.{TypeDecl}
use Rattle.stage_definitions.specs.DataEntries.{Said}
use Rattle.stage_definitions.specs.DataStage as stage
use Rattle.structure_entries.specs.EntryViews.{spot_view}
use Rattle.data_domains.specs.TypeSets.{AreTypesOf}
use Rattle.data_refusals.proofs.spots.note_spots.Given as goal

abbrev pub invariant-loop-i : goal.invariant-loop-i
invariant-loop-i l = (all : List TypeDecl) (es : List Said) → AreTypesOf all es l.types
    → fold (stage.data_noted all es) l.earliest.first (map stage.spot (map spot_view (drop l.i l.spots)))
    ≡ fold (stage.data_noted all es) l.fn.earliest.first (map stage.spot (map spot_view l.spots))
