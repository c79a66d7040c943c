use Rattle.std.proofs.Common.{◌≡◌, List, drop, map}
use Rattle.kb_logic.specs.declared.vocabularies.TypeDecl.{TypeDecl}
use Rattle.stage_definitions.specs.DataEntries.{Said}
use Rattle.stage_definitions.specs.DataFacts.{is_over}
use Rattle.structure_entries.specs.EntryViews.{elem_view}
use Rattle.data_domains.specs.TypeSets.{AreTypesOf}
use Rattle.data_refusals.proofs.tuples.is_over.Given as goal

abbrev pub invariant-loop-i : goal.invariant-loop-i
invariant-loop-i l = (all : List TypeDecl) (es : List Said) → AreTypesOf all es l.types
    → is_over all es (drop l.i l.args) (map elem_view (drop l.i l.elements)) ≡ is_over all es l.args
    (map elem_view l.elements)
