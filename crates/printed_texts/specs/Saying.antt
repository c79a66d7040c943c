-- What the stage of data reads in a block's trees, against what was written.
use Rattle.std.specs.Prelude.{◌≡◌, ℕ, List, [], ◌∷◌, Bool, true, false, Option, Some, None, map, option_map, length}
use Rattle.std.specs.List.{AllByRecursion}
use Rattle.kb_logic.specs.Structures.{EachWith}
use Rattle.grammar.specs.Trees.{Name}
use Rattle.grammar.specs.BlockTrees as raw
use Rattle.stage_definitions.specs.Names.{text_of}
use Rattle.stage_definitions.specs.DataEntries.{WrittenRow, element_of, mark_name, written_rows, is_truth, is_table}
use Rattle.stage_definitions.specs.DataEntries.{entries_in}
use Rattle.stage_definitions.specs.DataFacts.{single_element}
use Rattle.printed_texts.specs.Entries.{PlainRow, PlainValue, truth, element, table, PlainEntry}
use Rattle.printed_texts.specs.Parts.{PlainBlock}

-- the row that is read has these elements, without ranges, and this value
pub record SaysRow (p : PlainRow) (r : WrittenRow) : Type 0 where
  pub items : map single_element r.items ≡ map Some p.args
  pub value : option_map element_of r.value ≡ p.value

-- where a comma separates rows, each row has one element
abbrev pub IsAlone : Bool → PlainRow → Type 0
IsAlone by_commas p = by_commas ≡ true → length p.args ≡ 1

-- the rows as which a value is read
abbrev pub rows_said : PlainValue → List PlainRow
rows_said (truth true) = record { args = []; value = None } ∷ []
rows_said (truth false) = []
rows_said (element x) = record { args = []; value = Some x } ∷ []
rows_said (table rows) = rows

abbrev pub says_truth : PlainValue → Bool
says_truth (truth b) = true
says_truth (element x) = false
says_truth (table rows) = false

abbrev pub says_table : PlainValue → Bool
says_table (truth b) = false
says_table (element x) = false
says_table (table rows) = true

-- the value has the form that was written, and is read as its rows
pub record SaysValue (p : PlainValue) (x : raw.Value) : Type 0 where
  pub lone : is_truth x ≡ says_truth p
  pub braces : is_table x ≡ says_table p
  pub rows : (by_commas : Bool) → AllByRecursion (IsAlone by_commas) (rows_said p) → EachWith SaysRow (rows_said p)
      (written_rows by_commas x)

abbrev pub word_in : raw.Entry → Name
word_in (raw.entry word mark p value) = word

abbrev pub mark_in : raw.Entry → Option Name
mark_in (raw.entry word mark p value) = option_map mark_name mark

abbrev pub value_in : raw.Entry → raw.Value
value_in (raw.entry word mark p value) = value

pub record SaysEntry (e : PlainEntry) (x : raw.Entry) : Type 0 where
  pub word : text_of (word_in x) ≡ e.word
  pub mark : option_map text_of (mark_in x) ≡ e.mark
  pub value : SaysValue e.value (value_in x)

abbrev pub name_in : raw.Structure → List ℕ
name_in (raw.structure (raw.header p n c v b) es e) = text_of n

abbrev pub of_in : raw.Structure → List ℕ
of_in (raw.structure (raw.header p n c v b) es e) = text_of v

pub record SaysBlock (b : PlainBlock) (x : raw.Structure) : Type 0 where
  pub name : name_in x ≡ b.name
  pub of : of_in x ≡ b.of
  pub entries : EachWith SaysEntry b.entries (entries_in x)
