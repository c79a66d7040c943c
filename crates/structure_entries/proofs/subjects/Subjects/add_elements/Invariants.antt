use Rattle.std.proofs.Common.{◌≡◌, drop}
use Rattle.std.specs.List.{flat_map}
use Rattle.kb_logic.specs.declared.vocabularies.TypeDecl.{TypeDecl}
use Rattle.stage_definitions.specs.Scopes.{Text}
use Rattle.stage_definitions.specs.DataEntries.{named_in_elements}
use Rattle.structure_entries.specs.EntryViews.{found_in, subjects_in}
use Rattle.structure_entries.proofs.subjects.Subjects.add_elements.Given as goal

abbrev pub invariant-loop-decl : goal.invariant-loop-decl
invariant-loop-decl l = (w : Text) → found_in w (subjects_in l.self)
    (named_in_elements w (flat_map (λ (d : TypeDecl). d.made) (drop l.decl-index l.types)))
    ≡ found_in w (subjects_in l.fn.self) (named_in_elements w (flat_map (λ (d : TypeDecl). d.made) l.types))
