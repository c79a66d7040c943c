use Rattle.std.proofs.Common.{◌≡◌, List, drop, filter, fold, map, Vec}
use Rattle.std.specs.declared.alloc.Global.{Global}
use Rattle.std.specs.List.{filter_map}
use Rattle.kb_logic.specs.declared.elements.Elem.{Elem}
use Rattle.kb_logic.specs.declared.vocabularies.TypeDecl.{TypeDecl}
use Rattle.stage_definitions.specs.DataEntries.{Said, WrittenRow, fits_in}
use Rattle.stage_definitions.specs.DataFacts.{is_over, single_elements, tuples_given, with_tuple}
use Rattle.structure_entries.specs.EntryViews.{row_view, subject_view}
use Rattle.structure_entries.specs.SaidViews.{said_view}
use Rattle.data_domains.specs.TypeSets.{AreTypesOf}
use Rattle.data_refusals.specs.Labels.{tuple_view, AreSameTuples}
use Rattle.data_refusals.specs.declared.labels.Label.{Label}
use Rattle.data_refusals.proofs.tuples.misses_a_tuple.Given as goal

abbrev pub invariant-loop-row : goal.invariant-loop-row
invariant-loop-row l = (all : List TypeDecl) (es : List Said) → AreTypesOf all es l.types
    → (ts : List (List Elem)) × AreSameTuples (map (λ (k : Vec Label Global). tuple_view k.items) l.tuples.table.keys)
    ts
    × (fold with_tuple ts (filter (is_over all es l.args) (filter_map (λ (r : WrittenRow). single_elements r.items)
    (filter (fits_in (subject_view l.entry.subject)) (map row_view (drop l.row-index l.entry.rows.items)))))
    ≡ tuples_given all es l.args (said_view l.entry))
