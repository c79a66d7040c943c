use Rattle.std.proofs.Common.{◌≡◌, [], List, drop, fold, map, take}
use Rattle.kb_logic.specs.declared.vocabularies.TypeDecl.{TypeDecl}
use Rattle.stage_definitions.specs.DataEntries.{Said}
use Rattle.stage_definitions.specs.DataStage as stage
use Rattle.structure_entries.specs.SaidViews.{said_view}
use Rattle.data_domains.specs.TypeSets.{AreTypesOf}
use Rattle.data_refusals.proofs.entries.note_entries.Given as goal

abbrev pub invariant-loop-i : goal.invariant-loop-i
invariant-loop-i l = (all : List TypeDecl) (es : List Said) → AreTypesOf all es l.types
    → fold (stage.data_noted all es) l.earliest.first (stage.uses_of_entries (map said_view (take l.i l.entries))
    (map said_view (drop l.i l.entries)))
    ≡ fold (stage.data_noted all es) l.fn.earliest.first (stage.uses_of_entries [] (map said_view l.entries))
