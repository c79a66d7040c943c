-- A table of names that says what the words of a vocabulary name.
use Rattle.std.specs.Prelude.{◌≡◌}
use Rattle.kb_logic.specs.declared.vocabularies.Vocabulary.{Vocabulary}
use Rattle.stage_definitions.specs.Scopes.{Text}
use Rattle.stage_definitions.specs.DataEntries.{nothing_named, subject_of}
use Rattle.structure_entries.specs.EntryViews.{found_in, subjects_in}
use Rattle.structure_entries.specs.declared.subjects.Subjects.{Subjects}

abbrev pub AreSubjectsOf : Vocabulary → Subjects → Type 0
AreSubjectsOf v t = (w : Text) → found_in w (subjects_in t) nothing_named ≡ subject_of v w
