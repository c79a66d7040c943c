-- What is gathered of a symbol, tuple by tuple.
use Rattle.std.specs.Prelude.{◌≡◌, ℕ, List, ◌++◌, Bool, true, false, ◌&&◌, ◌||◌, Option, Some, flat_map, Contains}
use Rattle.std.specs.List.{list_all}
use Rattle.kb_logic.specs.declared.elements.Elem.{Elem}
use Rattle.kb_logic.specs.declared.vocabularies.Symbol.{Symbol}
use Rattle.kb_logic.specs.KnownAtoms.{KnownAtoms}
use Rattle.kb_logic.specs.Models.{GroundAtom, IsAtomOver}
use Rattle.printed_texts.specs.Entries.{PlainRow, is_some_row, where_none, is_settled, rows_where, rows_at, is_whole}
use Rattle.printed_texts.specs.Entries.{true_rows, false_rows}
use Rattle.printed_texts.specs.Texts.{next_row_text, rows_text}
use Rattle.fo_printer.specs.declared.rows.RowText.{RowText}
use Rattle.fo_printer.specs.declared.gathering.SymbolText.{SymbolText}

-- rows after others, or after none
abbrev pub rows_text_after : Bool → List PlainRow → List ℕ
rows_text_after true rows = flat_map next_row_text rows
rows_text_after false rows = rows_text rows

-- the rows are written after those that were there
pub record HasMore (old new : RowText) (rows : List PlainRow) : Type 0 where
  pub some : new.some ≡ (old.some || is_some_row rows)
  pub text : new.text.items ≡ old.text.items ++ rows_text_after old.some rows

-- these rows are written, and no others
pub record IsRowText (t : RowText) (rows : List PlainRow) : Type 0 where
  pub some : t.some ≡ is_some_row rows
  pub text : t.text.items ≡ rows_text rows

-- some rows more are true, some are false, and for their arguments all is known or not
pub record HasNoted (old new : SymbolText) (trues falses : List PlainRow) (settled : Bool) : Type 0 where
  pub true_rows : HasMore old.trues new.trues trues
  pub false_rows : HasMore old.falses new.falses falses
  pub whole : new.whole ≡ (old.whole && settled)

-- what is known of these atoms, which are all that a symbol with this type of values has for some arguments, is noted
abbrev pub HasNotedAtoms : KnownAtoms → Option ℕ → List GroundAtom → SymbolText → SymbolText → Type 0
HasNotedAtoms k value atoms old new =
    HasNoted old new (rows_where true k atoms) (where_none (rows_where true k atoms) (rows_where false k atoms))
    (is_settled value (rows_where true k atoms) (rows_where false k atoms))

-- an atom of a function with these arguments and one of these values is one over what is known
abbrev pub AreAtomsOver : KnownAtoms → ℕ → List Elem → List Elem → Type 0
AreAtomsOver k number args values =
    (x : Elem) → Contains values x → IsAtomOver k.symbols k.domains
    (record { symbol = number; args = args; value = Some x })

-- the rows for these tuples of arguments are noted
abbrev pub HasGathered : KnownAtoms → ℕ × Symbol → List (List Elem) → SymbolText → SymbolText → Type 0
HasGathered k s ts old new =
    HasNoted old new (flat_map (rows_at true k s) ts)
    (flat_map (λ t. where_none (rows_at true k s t) (rows_at false k s t)) ts)
    (list_all (λ t. is_settled s.1.value (rows_at true k s t) (rows_at false k s t)) ts)

-- all that is known of a symbol
pub record IsGathered (k : KnownAtoms) (s : ℕ × Symbol) (t : SymbolText) : Type 0 where
  pub trues : IsRowText t.trues (true_rows k s)
  pub falses : IsRowText t.falses (false_rows k s)
  pub whole : t.whole ≡ is_whole k s
