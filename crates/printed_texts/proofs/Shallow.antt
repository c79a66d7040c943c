-- No token of a structure lies deep.
use Rattle.std.proofs.Common.{ℕ, ◌+◌, ◌≤◌, List, [], ◌∷◌, Some, None, arith}
use Rattle.std.specs.Prelude.{pos, negsuc, codes}
use Rattle.kb_text.specs.Depth.{Layer, Around, outermost}
use Rattle.kb_text.specs.Tokens.{AreShallow}
use Rattle.kb_logic.specs.declared.elements.Elem.TheVariants.{Named, Num}
use Rattle.printed_texts.specs.Written.{Part, gap, lexemes_at}
use Rattle.printed_texts.specs.Entries.{PlainValue, truth, element, table, PlainEntry}
use Rattle.printed_texts.specs.Parts.{sign, space, PlainBlock, write_each, write_elem, write_next, write_items}
use Rattle.printed_texts.specs.Parts.{write_to}
use Rattle.printed_texts.specs.Parts.{write_row, write_next_row, write_rows, write_value, write_mark, write_entry}
use Rattle.printed_texts.specs.Parts.{write_block}

abbrev at : Layer → List Layer → Around
at l os = record { layer = l; outer = os; run = 0 }

-- from any place on
abbrev pub Low : Layer → List Layer → List Part → Type 0
Low l os xs = (p : ℕ) → AreShallow (at l os) (lexemes_at p xs)

-- what is written leaves the depth as it was
abbrev pub Level : {X : Type 0} → (X → List Part → List Part) → Type 0
Level {X = X} write = (x : X) (l : Layer) (os : List Layer) → l.base + l.count ≤ 150 → (rest : List Part)
    → Low l os rest → Low l os (write x rest)

elem_level : Level write_elem
elem_level (Named n) l os le rest low = λ p. (omega arith, low _)
elem_level (Num (pos n)) l os le rest low = λ p. (omega arith, low _)
elem_level (Num (negsuc n)) l os le rest low = λ p. (omega arith, (omega arith, low _))

each_level : {X : Type 0} (write : X → List Part → List Part) → Level write → Level (write_each write)
each_level write level [] l os le rest low = low
each_level write level (x ∷ xs) l os le rest low = level x l os le (write_each write xs rest)
    (each_level write level xs l os le rest low)

next_level : Level write_next
next_level x l os le rest low = λ p. (omega arith, elem_level x l os le rest low _)

to_level : Level write_to
to_level None l os le rest low = low
to_level (Some x) l os le rest low = λ p. (omega arith, elem_level x l os le rest low _)

items_level : Level write_items
items_level [] l os le rest low = low
items_level (x ∷ xs) l os le rest low = elem_level x l os le (write_each write_next xs rest)
    (each_level write_next next_level xs l os le rest low)

row_level : Level write_row
row_level r l os le rest low = items_level r.args l os le (write_to r.value rest) (to_level r.value l os le rest low)

next_row_level : Level write_next_row
next_row_level r l os le rest low = λ p. (omega arith, row_level r l os le rest low _)

rows_level : Level write_rows
rows_level [] l os le rest low = low
rows_level (r ∷ rs) l os le rest low = row_level r l os le (write_each write_next_row rs rest)
    (each_level write_next_row next_row_level rs l os le rest low)

mark_level : Level write_mark
mark_level None l os le rest low = low
mark_level (Some m) l os le rest low = λ p. (omega arith, (omega arith, (omega arith, low _)))

-- braces in a level that is not deep
value_low : (v : PlainValue) (l : Layer) (os : List Layer) → l.base + l.count ≤ 100 → (rest : List Part) → Low l os rest
    → Low l os (write_value v rest)
value_low (truth b) l os le rest low = λ p. (omega arith, low _)
value_low (element x) l os le rest low = elem_level x l os (omega arith) rest low
value_low (table rs) l os le rest low = λ p. (
  omega arith,
  rows_level rs _ _ (omega arith) (sign (codes "}") ∷ rest)
      (λ q. (omega arith, low _)) _,
)

entry_low : (e : PlainEntry) (l : Layer) (os : List Layer) → l.base + l.count ≤ 100 → (rest : List Part) → Low l os rest
    → Low l os (write_entry e rest)
entry_low e l os le rest low = λ p. (
  omega arith,
  mark_level e.mark l os (omega arith)
      (space ∷ sign (codes "=") ∷ space ∷ write_value e.value (gap 10 ∷ rest))
      (λ q. (omega arith, value_low e.value l os le (gap 10 ∷ rest) (λ r. low _) _)) _,
)

entries_low : (es : List PlainEntry) (l : Layer) (os : List Layer) → l.base + l.count ≤ 100 → (rest : List Part)
    → Low l os rest → Low l os (write_each write_entry es rest)
entries_low [] l os le rest low = low
entries_low (e ∷ es) l os le rest low = entry_low e l os le (write_each write_entry es rest)
    (entries_low es l os le rest low)

pub block_shallow : (b : PlainBlock) → AreShallow outermost (lexemes_at 0 (write_block b []))
block_shallow b = (
  omega arith,
  (
    omega arith,
    (
      omega arith,
      (
        omega arith,
        (
          omega arith,
          entries_low b.entries _ _ (omega arith)
              (sign (codes "}") ∷ gap 10 ∷ []) (λ q. (omega arith, tt)) _,
        ),
      ),
    ),
  ),
)
