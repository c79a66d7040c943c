-- The raw trees of blocks as trees of the grammar.
use Rattle.std.specs.Prelude.{◌≡◌, ℕ, List, map, Option, Some, None}
use Rattle.std.specs.Option.{option_map}
use Rattle.std.specs.List.{filter_map}
use Rattle.grammar.specs.declared.raw_blocks.Separator.{Separator}
use Rattle.grammar.specs.declared.raw_blocks.RawKb.{RawKb}
use Rattle.grammar.specs.declared.raw_blocks.RawVocabulary.{RawVocabulary}
use Rattle.grammar.specs.declared.raw_blocks.RawDeclaration.{RawDeclaration}
use Rattle.grammar.specs.declared.raw_blocks.RawDeclaration.TheVariants as declared
use Rattle.grammar.specs.declared.raw_blocks.RawIsa.{RawIsa}
use Rattle.grammar.specs.declared.raw_blocks.RawElementTail.{RawElementTail}
use Rattle.grammar.specs.declared.raw_blocks.RawPositions.{RawPositions}
use Rattle.grammar.specs.declared.raw_blocks.RawNames.{RawNames}
use Rattle.grammar.specs.declared.raw_blocks.RawNameTail.{RawNameTail}
use Rattle.grammar.specs.declared.raw_blocks.RawResult.{RawResult}
use Rattle.grammar.specs.declared.raw_blocks.RawHeader.{RawHeader}
use Rattle.grammar.specs.declared.raw_blocks.RawTheory.{RawTheory}
use Rattle.grammar.specs.declared.raw_blocks.RawTheoryItem.{RawTheoryItem}
use Rattle.grammar.specs.declared.raw_blocks.RawTheoryItem.TheVariants as stated
use Rattle.grammar.specs.declared.raw_blocks.RawRule.{RawRule}
use Rattle.grammar.specs.declared.raw_blocks.RawBinder.{RawBinder}
use Rattle.grammar.specs.declared.raw_blocks.RawHead.{RawHead}
use Rattle.grammar.specs.declared.raw_blocks.RawHead.TheVariants as head
use Rattle.grammar.specs.declared.raw_blocks.RawBody.{RawBody}
use Rattle.grammar.specs.declared.raw_blocks.RawTerm.{RawTerm}
use Rattle.grammar.specs.declared.raw_blocks.RawStructure.{RawStructure}
use Rattle.grammar.specs.declared.raw_blocks.RawEntry.{RawEntry}
use Rattle.grammar.specs.declared.raw_blocks.RawMark.{RawMark}
use Rattle.grammar.specs.declared.raw_blocks.RawValue.{RawValue}
use Rattle.grammar.specs.declared.raw_blocks.RawValue.TheVariants as given
use Rattle.grammar.specs.declared.raw_blocks.RawRows.{RawRows}
use Rattle.grammar.specs.declared.raw_blocks.RawRowTail.{RawRowTail}
use Rattle.grammar.specs.declared.raw_blocks.RawRow.{RawRow}
use Rattle.grammar.specs.declared.raw_blocks.RawRow.TheVariants as row
use Rattle.grammar.specs.declared.raw_blocks.RawTo.{RawTo}
use Rattle.grammar.specs.declared.raw_blocks.RawItems.{RawItems}
use Rattle.grammar.specs.declared.raw_blocks.RawItemTail.{RawItemTail}
use Rattle.grammar.specs.declared.raw_blocks.RawItem.{RawItem}
use Rattle.grammar.specs.declared.raw_blocks.RawRange.{RawRange}
use Rattle.grammar.specs.declared.raw_blocks.RawElement.{RawElement}
use Rattle.grammar.specs.declared.raw_blocks.RawElement.TheVariants as element
use Rattle.grammar.specs.Trees.{Name, Formula}
use Rattle.grammar.specs.View.{name_view, vars_view, formula_view, app_view, term_view}
use Rattle.grammar.specs.BlockTrees.{Names, names, Positions, positions, Declaration, type_of, constructed, symbol}
use Rattle.grammar.specs.BlockTrees.{Vocabulary, vocabulary, Header, header, Binding, binding, Head, atom_head}
use Rattle.grammar.specs.BlockTrees.{value_head, Rule, rule, TheoryItem, sentence, definition, Theory, theory}
use Rattle.grammar.specs.BlockTrees.{TermBlock, term_block, Element, named, number, below_zero, RowItem, item}
use Rattle.grammar.specs.BlockTrees.{RowItems, items, Row, plain, bracketed, only, Rows, rows, Value, truth_value}
use Rattle.grammar.specs.BlockTrees.{element_value, table, Mark, closed_mark, open_mark, Entry, entry, Structure}
use Rattle.grammar.specs.BlockTrees.{structure, Block, vocabulary_block, theory_block, structure_block, value_block}

-- ---- vocabularies

abbrev pub name_tail_view : RawNameTail → ℕ × Name
name_tail_view x = (x.place, name_view x.name)

abbrev pub names_view : RawNames → Names
names_view x = names (name_view x.first) (map name_tail_view x.more)

abbrev pub positions_view : RawPositions → Positions
positions_view x = positions x.open (option_map names_view x.names) x.close

abbrev pub isa_view : RawIsa → ℕ × Name
isa_view x = (x.place, name_view x.name)

abbrev pub result_view : RawResult → ℕ × Name
result_view x = (x.place, name_view x.name)

abbrev pub element_tail_view : RawElementTail → Separator × ℕ × Name
element_tail_view x = (x.sign, x.place, name_view x.name)

abbrev pub declaration_view : RawDeclaration → Declaration
declaration_view (declared.Type x) = type_of x.place (name_view x.name) (option_map isa_view x.isa)
declaration_view (declared.Constructed x) = constructed x.place (name_view x.name) x.constructed x.from x.open
    (name_view x.first) (map element_tail_view x.more) x.close
declaration_view (declared.Symbol x) = symbol (name_view x.name) (option_map positions_view x.arguments)
    (option_map result_view x.result)

abbrev pub vocabulary_view : RawVocabulary → Vocabulary
vocabulary_view x = vocabulary x.place (name_view x.name) x.open (map declaration_view x.declarations) x.close

-- ---- theories and terms

abbrev pub header_view : RawHeader → Header
header_view x = header x.place (name_view x.name) x.colon (name_view x.of) x.open

abbrev pub binding_view : RawBinder → Binding
binding_view x = binding x.place (vars_view x.vars) x.colon

abbrev pub head_view : RawHead → Head
head_view (head.Atom a) = atom_head (app_view a)
head_view (head.Value a p x) = value_head (app_view a) p (term_view x)

abbrev pub body_view : RawBody → ℕ × Option Formula
body_view x = (x.place, option_map formula_view x.formula)

abbrev pub rule_view : RawRule → Rule
rule_view x = rule (map binding_view x.binders) (head_view x.head) (option_map body_view x.body) x.dot

abbrev pub theory_item_view : RawTheoryItem → TheoryItem
theory_item_view (stated.Sentence x) = sentence (formula_view x.formula) x.dot
theory_item_view (stated.Definition x) = definition x.open (map rule_view x.rules) x.close

abbrev pub theory_view : RawTheory → Theory
theory_view x = theory (header_view x.header) (map theory_item_view x.items) x.close

abbrev pub term_block_view : RawTerm → TermBlock
term_block_view x = term_block (header_view x.header) (term_view x.term) x.dot x.close

-- ---- structures

abbrev pub element_view : RawElement → Element
element_view (element.Name n) = named (name_view n)
element_view (element.Integer n) = number n.value n.place
element_view (element.Negative p n) = below_zero p n.value n.place

abbrev pub range_view : RawRange → ℕ × Element
range_view x = (x.place, element_view x.last)

abbrev pub item_view : RawItem → RowItem
item_view x = item (element_view x.first) (option_map range_view x.to)

abbrev pub item_tail_view : RawItemTail → ℕ × RowItem
item_tail_view x = (x.place, item_view x.item)

abbrev pub items_view : RawItems → RowItems
items_view x = items (item_view x.first) (map item_tail_view x.more)

abbrev pub to_view : RawTo → ℕ × Element
to_view x = (x.place, element_view x.element)

abbrev pub row_view : RawRow → Row
row_view (row.Plain is r) = plain (items_view is) (option_map to_view r)
row_view (row.Bracketed p is q r) = bracketed p (items_view is) q (option_map to_view r)
row_view (row.Only r) = only (to_view r)

abbrev pub row_tail_view : RawRowTail → ℕ × Row
row_tail_view x = (x.place, row_view x.row)

abbrev pub rows_view : RawRows → Rows
rows_view x = rows (row_view x.first) (map row_tail_view x.more) x.last

abbrev pub value_view : RawValue → Value
value_view (given.Truth b p) = truth_value b p
value_view (given.Element e) = element_value (element_view e)
value_view (given.Table x) = table x.open (option_map rows_view x.rows) x.close

abbrev pub mark_of : ℕ → Name → Option ℕ → Mark
mark_of p n None = open_mark p n
mark_of p n (Some q) = closed_mark p n q

abbrev pub mark_view : RawMark → Mark
mark_view x = mark_of x.open (name_view x.name) x.close

abbrev pub entry_view : RawEntry → Entry
entry_view x = entry (name_view x.name) (option_map mark_view x.mark) x.equal (value_view x.value)

abbrev pub structure_view : RawStructure → Structure
structure_view x = structure (header_view x.header) (map entry_view x.entries) x.close

-- ---- the blocks of a file by kind

abbrev pub as_vocabulary : Block → Option Vocabulary
as_vocabulary (vocabulary_block x) = Some x
as_vocabulary _ = None

abbrev pub as_theory : Block → Option Theory
as_theory (theory_block x) = Some x
as_theory _ = None

abbrev pub as_structure : Block → Option Structure
as_structure (structure_block x) = Some x
as_structure _ = None

abbrev pub as_term_block : Block → Option TermBlock
as_term_block (value_block x) = Some x
as_term_block _ = None

-- the file of these blocks, each kind in order, and the length of the text
pub record IsKb (blocks : List Block) (len : ℕ) (kb : RawKb) : Type 0 where
  pub vocabularies : map vocabulary_view kb.vocabularies ≡ filter_map as_vocabulary blocks
  pub theories : map theory_view kb.theories ≡ filter_map as_theory blocks
  pub structures : map structure_view kb.structures ≡ filter_map as_structure blocks
  pub terms : map term_block_view kb.terms ≡ filter_map as_term_block blocks
  pub end : kb.end ≡ len
