use Rattle.std.proofs.Common.{◌≡◌, [], List, Contains, drop, fold, map, take}
use Rattle.kb_logic.specs.declared.vocabularies.TypeDecl.{TypeDecl}
use Rattle.stage_definitions.specs.DataEntries.{Said}
use Rattle.stage_definitions.specs.DataFacts.{Fact}
use Rattle.stage_definitions.specs.DataStage as stage
use Rattle.structure_entries.specs.EntryViews.{fact_view}
use Rattle.data_clashes.specs.SinglesViews.{AreSinglesOf}
use Rattle.data_clashes.specs.Tables.{IsKept}
use Rattle.data_clashes.proofs.notes.note_clashes.Given as goal

abbrev pub invariant-loop-i : goal.invariant-loop-i
invariant-loop-i l = record {
  noted : (all : List TypeDecl) (es : List Said)
      → fold (stage.data_noted all es) l.earliest.first (stage.uses_of_facts (map fact_view (take l.i l.facts))
      (map fact_view (drop l.i l.facts)))
      ≡ fold (stage.data_noted all es) l.fn.earliest.first (stage.uses_of_facts [] (map fact_view l.facts));
  kept : (f : Fact) → Contains (map fact_view (take l.i l.facts)) f → IsKept l.table f;
  singles : AreSinglesOf (map fact_view (take l.i l.facts)) l.singles;
}
