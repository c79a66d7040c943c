-- A structure block as parts: its spaces and its tokens.
use Rattle.std.specs.Prelude.{ℕ, pos, negsuc, suc, List, [], ◌∷◌, Option, Some, None, codes}
use Rattle.std.specs.Fmt.{decimal}
use Rattle.kb_text.specs.declared.token.Kind.TheVariants.{Word, Int, Sign}
use Rattle.kb_logic.specs.declared.elements.Elem.{Elem}
use Rattle.kb_logic.specs.declared.elements.Elem.TheVariants.{Named, Num}
use Rattle.printed_texts.specs.Written.{Part, gap, piece}
use Rattle.printed_texts.specs.Entries.{PlainRow, PlainValue, truth, element, table, PlainEntry}
use Rattle.printed_texts.specs.Texts.{truth_text}

-- the words of the block's first line, and its entries
pub record PlainBlock : Type 0 where
  pub name : List ℕ
  pub of : List ℕ
  pub entries : List PlainEntry

-- a sign with no space round it
abbrev pub sign : List ℕ → Part
sign text = piece Sign text

abbrev pub space : Part
space = gap 32

-- ---- each kind of thing, and then these parts

abbrev pub write_each : {X : Type 0} → (X → List Part → List Part) → List X → List Part → List Part
write_each write [] rest = rest
write_each write (x ∷ xs) rest = write x (write_each write xs rest)

abbrev pub write_elem : Elem → List Part → List Part
write_elem (Named n) rest = piece Word n ∷ rest
write_elem (Num (pos n)) rest = piece Int (decimal n) ∷ rest
write_elem (Num (negsuc n)) rest = sign (codes "-") ∷ piece Int (decimal (suc n)) ∷ rest

abbrev pub write_next : Elem → List Part → List Part
write_next x rest = sign (codes ",") ∷ write_elem x rest

abbrev pub write_items : List Elem → List Part → List Part
write_items [] rest = rest
write_items (x ∷ xs) rest = write_elem x (write_each write_next xs rest)

abbrev pub write_to : Option Elem → List Part → List Part
write_to None rest = rest
write_to (Some x) rest = sign (codes "->") ∷ write_elem x rest

abbrev pub write_row : PlainRow → List Part → List Part
write_row r rest = write_items r.args (write_to r.value rest)

abbrev pub write_next_row : PlainRow → List Part → List Part
write_next_row r rest = sign (codes ";") ∷ space ∷ write_row r rest

abbrev pub write_rows : List PlainRow → List Part → List Part
write_rows [] rest = rest
write_rows (r ∷ rs) rest = write_row r (write_each write_next_row rs rest)

abbrev pub write_value : PlainValue → List Part → List Part
write_value (truth b) rest = piece Word (truth_text b) ∷ rest
write_value (element x) rest = write_elem x rest
write_value (table rs) rest = sign (codes "{") ∷ write_rows rs (sign (codes "}") ∷ rest)

abbrev pub write_mark : Option (List ℕ) → List Part → List Part
write_mark None rest = rest
write_mark (Some m) rest = sign (codes "<") ∷ piece Word m ∷ sign (codes ">") ∷ rest

-- `  P<ct> = {a,b; c,d}`
abbrev pub write_entry : PlainEntry → List Part → List Part
write_entry e rest =
    space ∷ space ∷ piece Word e.word ∷ write_mark e.mark (space ∷ sign (codes "=") ∷ space ∷ write_value e.value
    (gap 10 ∷ rest))

abbrev pub write_block : PlainBlock → List Part → List Part
write_block b rest =
    piece Word (codes "structure") ∷ space ∷ piece Word b.name ∷ space ∷ sign (codes ":") ∷ space
    ∷ piece Word b.of ∷ space
    ∷ sign (codes "{") ∷ gap 10 ∷ write_each write_entry b.entries (sign (codes "}") ∷ gap 10 ∷ rest)
