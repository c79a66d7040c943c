-- The text of what is written by parts.
use Rattle.std.proofs.Common.{◌≡◌, ℕ, List, [], ◌∷◌, ◌++◌, Some, None, flat_map, refl, sym, ap, ◌∙◌, append_assoc}
use Rattle.std.specs.Prelude.{pos, negsuc, codes}
use Rattle.kb_logic.specs.declared.elements.Elem.TheVariants.{Named, Num}
use Rattle.printed_texts.specs.Written.{Part, gap, text_with, text_of}
use Rattle.literal_printer.specs.Texts.{elem_text, row_text}
use Rattle.printed_texts.specs.Entries.{truth, element, table}
use Rattle.printed_texts.specs.Texts.{to_text, row_text_of, next_row_text, rows_text, value_text, mark_text, entry_text}
use Rattle.printed_texts.specs.Texts.{text_of_block}
use Rattle.printed_texts.specs.Parts.{sign, space, PlainBlock, write_each, write_elem, write_next, write_items}
use Rattle.printed_texts.specs.Parts.{write_to}
use Rattle.printed_texts.specs.Parts.{write_row, write_next_row, write_rows, write_value, write_mark, write_entry}
use Rattle.printed_texts.specs.Parts.{write_block}

abbrev IsText : {X : Type 0} → (X → List Part → List Part) → (X → List ℕ) → Type 0
IsText {X = X} write text = (x : X) (rest : List Part) (z : List ℕ) → text_with (write x rest) z
    ≡ text x ++ text_with rest z

each_text : {X : Type 0} (write : X → List Part → List Part) (text : X → List ℕ) → IsText write text
    → IsText (write_each write) (flat_map text)
each_text write text is [] rest z = refl
each_text write text is (x ∷ xs) rest z =
    is x (write_each write xs rest) z ∙ ap (λ (t : List ℕ). text x ++ t) (each_text write text is xs rest z)
    ∙ sym (append_assoc (text x) (flat_map text xs) (text_with rest z))

elem_bytes : IsText write_elem elem_text
elem_bytes (Named n) rest z = refl
elem_bytes (Num (pos n)) rest z = refl
elem_bytes (Num (negsuc n)) rest z = refl

next_bytes : IsText write_next (λ x. codes "," ++ elem_text x)
next_bytes x rest z = ap (λ (t : List ℕ). codes "," ++ t) (elem_bytes x rest z)

items_bytes : IsText write_items row_text
items_bytes [] rest z = refl
items_bytes (x ∷ xs) rest z =
    elem_bytes x (write_each write_next xs rest) z
    ∙ ap (λ (t : List ℕ). elem_text x ++ t) (each_text write_next (λ y. codes "," ++ elem_text y) next_bytes xs rest z)
    ∙ sym (append_assoc (elem_text x) (flat_map (λ y. codes "," ++ elem_text y) xs) (text_with rest z))

to_bytes : IsText write_to to_text
to_bytes None rest z = refl
to_bytes (Some x) rest z = ap (λ (t : List ℕ). codes "->" ++ t) (elem_bytes x rest z)

row_bytes : IsText write_row row_text_of
row_bytes r rest z =
    items_bytes r.args (write_to r.value rest) z ∙ ap (λ (t : List ℕ). row_text r.args ++ t) (to_bytes r.value rest z)
    ∙ sym (append_assoc (row_text r.args) (to_text r.value) (text_with rest z))

next_row_bytes : IsText write_next_row next_row_text
next_row_bytes r rest z = ap (λ (t : List ℕ). codes "; " ++ t) (row_bytes r rest z)

rows_bytes : IsText write_rows rows_text
rows_bytes [] rest z = refl
rows_bytes (r ∷ rs) rest z =
    row_bytes r (write_each write_next_row rs rest) z
    ∙ ap (λ (t : List ℕ). row_text_of r ++ t) (each_text write_next_row next_row_text next_row_bytes rs rest z)
    ∙ sym (append_assoc (row_text_of r) (flat_map next_row_text rs) (text_with rest z))

value_bytes : IsText write_value value_text
value_bytes (truth b) rest z = refl
value_bytes (element x) rest z = elem_bytes x rest z
value_bytes (table rs) rest z =
    ap (λ (t : List ℕ). codes "{" ++ t) (rows_bytes rs (sign (codes "}") ∷ rest) z
    ∙ sym (append_assoc (rows_text rs) (codes "}") (text_with rest z)))

mark_bytes : IsText write_mark mark_text
mark_bytes None rest z = refl
mark_bytes (Some m) rest z = ap (λ (t : List ℕ). codes "<" ++ t) (sym (append_assoc m (codes ">") (text_with rest z)))

entry_bytes : IsText write_entry entry_text
entry_bytes e rest z =
    let value = value_bytes e.value (gap 10 ∷ rest) z in
    let behind : List Part = space ∷ sign (codes "=") ∷ space ∷ write_value e.value (gap 10 ∷ rest) in
    let mark = mark_bytes e.mark behind z in
    rw (mark, value) (simp append_assoc)

pub block_bytes : (b : PlainBlock) → text_of_block b.name b.of b.entries ≡ text_of (write_block b [])
block_bytes b = rw (each_text write_entry entry_text entry_bytes b.entries (sign (codes "}") ∷ gap 10 ∷ []) []) refl
