-- What can be written: words that are names, and integers that are read.
use Rattle.std.specs.Prelude.{◌≡◌, ◌<◌, ◌^◌, ℕ, nat_abs, List, [], ◌∷◌, false, true, Option, Some, None, ⊤}
use Rattle.std.specs.List.{AllByRecursion}
use Rattle.kb_text.specs.Tokens.{is_word_of, unsupported_words}
use Rattle.kb_logic.specs.declared.elements.Elem.{Elem}
use Rattle.kb_logic.specs.declared.elements.Elem.TheVariants.{Named, Num}
use Rattle.grammar.specs.declared.terminal.Terminal.TheVariants as t
use Rattle.grammar.specs.Items.{word_terminal}
use Rattle.printed_texts.specs.Written.{is_word}
use Rattle.printed_texts.specs.Entries.{PlainRow, PlainValue, truth, element, table, PlainEntry}
use Rattle.printed_texts.specs.Parts.{PlainBlock}

-- a word that is read and is not reserved
pub record IsName (n : List ℕ) : Type 0 where
  pub word : is_word n ≡ true
  pub read : is_word_of unsupported_words n ≡ false
  pub free : word_terminal n ≡ t.Word

-- a name, or an integer of at most 63 bits and a sign
abbrev pub IsElem : Elem → Type 0
IsElem (Named n) = IsName n
IsElem (Num z) = nat_abs z < 2 ^ 63

abbrev pub IsOption : {A : Type 0} → (A → Type 0) → Option A → Type 0
IsOption Is None = ⊤
IsOption Is (Some a) = Is a

-- a row is not empty
abbrev pub HasItem : List Elem → Option Elem → Type 0
HasItem [] None = ⊥
HasItem [] (Some x) = ⊤
HasItem (x ∷ xs) value = ⊤

pub record IsRow (r : PlainRow) : Type 0 where
  pub filled : HasItem r.args r.value
  pub args : AllByRecursion IsElem r.args
  pub value : IsOption IsElem r.value

abbrev pub IsValue : PlainValue → Type 0
IsValue (truth b) = ⊤
IsValue (element x) = IsElem x
IsValue (table rs) = AllByRecursion IsRow rs

pub record IsEntry (e : PlainEntry) : Type 0 where
  pub word : IsName e.word
  pub mark : IsOption IsName e.mark
  pub value : IsValue e.value

pub record IsBlock (b : PlainBlock) : Type 0 where
  pub name : IsName b.name
  pub of : IsName b.of
  pub entries : AllByRecursion IsEntry b.entries
