-- What is told of a refused file.
use Rattle.std.specs.Prelude.{◌≡◌, ℕ, List, ◌++◌, take, drop, codes}
use Rattle.std.specs.Fmt.{decimal}
use Rattle.kb_text.specs.Refusals.{text_of}
use Rattle.kb_text.specs.declared.fault.KbFault.{KbFault}
use Rattle.refusal_notes.specs.Spots.{line_behind, column_behind}
use Rattle.refusal_notes.specs.Excerpts.{excerpt}
use Rattle.refusal_notes.specs.declared.note.Wording.{Wording}

-- `FILE:LINE:COLUMN: K2 UnknownName: `, with the line and the column of the fault's place
abbrev pub head : List ℕ → List ℕ → KbFault → List ℕ
head name front fault =
    name ++ (codes ":" ++ (decimal (line_behind front) ++ (codes ":" ++ (decimal (column_behind front)
    ++ (codes ": " ++ (text_of fault.cause ++ codes ": "))))))

-- the head, words and a newline, the line around the place with the caret under it, and further words
abbrev pub note_text : List ℕ → List ℕ → KbFault → Wording → List ℕ
note_text name text fault w =
    head name (take fault.place text) fault ++ (w.words.items ++ (codes "\n"
    ++ (excerpt w.front_is_text w.is_text (take fault.place text) (drop fault.place text) ++ w.advice.items)))

-- such a text, whatever the words are
pub record IsNote (name text : List ℕ) (fault : KbFault) (note : List ℕ) : Type 0 where
  pub wording : Wording
  pub whole : note ≡ note_text name text fault wording
