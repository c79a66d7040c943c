-- The text of a structure block.
use Rattle.std.specs.Prelude.{ℕ, List, [], ◌∷◌, ◌++◌, Bool, true, false, Option, Some, None, flat_map, codes}
use Rattle.kb_logic.specs.declared.elements.Elem.{Elem}
use Rattle.kb_logic.specs.declared.vocabularies.Vocabulary.{Vocabulary}
use Rattle.kb_logic.specs.KnownAtoms.{KnownAtoms}
use Rattle.literal_printer.specs.Texts.{elem_text, row_text}
use Rattle.printed_texts.specs.Entries.{PlainRow, PlainValue, truth, element, table, PlainEntry, entries_of}

-- nothing, or `->r`
abbrev pub to_text : Option Elem → List ℕ
to_text None = []
to_text (Some x) = codes "->" ++ elem_text x

-- `a,b`, `a,b->r` or `->r`
abbrev pub row_text_of : PlainRow → List ℕ
row_text_of r = row_text r.args ++ to_text r.value

-- `; c,d`
abbrev pub next_row_text : PlainRow → List ℕ
next_row_text r = codes "; " ++ row_text_of r

-- `a,b; c,d`
abbrev pub rows_text : List PlainRow → List ℕ
rows_text [] = []
rows_text (r ∷ rs) = row_text_of r ++ flat_map next_row_text rs

abbrev pub truth_text : Bool → List ℕ
truth_text true = codes "true"
truth_text false = codes "false"

-- `true`, `false`, `a` or `{a,b; c,d}`
abbrev pub value_text : PlainValue → List ℕ
value_text (truth b) = truth_text b
value_text (element x) = elem_text x
value_text (table rows) = codes "{" ++ (rows_text rows ++ codes "}")

-- nothing, or `<ct>`
abbrev pub mark_text : Option (List ℕ) → List ℕ
mark_text None = []
mark_text (Some mark) = codes "<" ++ (mark ++ codes ">")

-- `  P<ct> = {a,b; c,d}`, a line
abbrev pub entry_text : PlainEntry → List ℕ
entry_text e = codes "  " ++ (e.word ++ (mark_text e.mark ++ (codes " = " ++ (value_text e.value ++ codes "\n"))))

abbrev pub entries_text : List PlainEntry → List ℕ
entries_text = flat_map entry_text

-- a block with these entries: the line `structure NAME : VOCABULARY {`, a line for each entry, and the line `}`
abbrev pub text_of_block : List ℕ → List ℕ → List PlainEntry → List ℕ
text_of_block name of entries =
    codes "structure " ++ (name ++ (codes " : " ++ (of ++ (codes " {\n" ++ (entries_text entries ++ codes "}\n")))))

-- the block of a partial structure over a vocabulary
abbrev pub block_text : Vocabulary → List ℕ → KnownAtoms → List ℕ
block_text v name k = text_of_block name v.name (entries_of v k)
