-- What the readers of the parts of vocabularies and structures return.
use Rattle.std.specs.Prelude.{◌≡◌, ℕ, List, ◌∷◌, map, Option, Some, Result}
use Rattle.std.specs.Option.{option_map}
use Rattle.std.specs.Borrow.{Bor}
use Rattle.grammar.specs.declared.stops.ReadError.{ReadError}
use Rattle.grammar.specs.declared.terminal.Terminal.{Terminal}
use Rattle.grammar.specs.declared.terminal.Terminal.TheVariants as t
use Rattle.grammar.specs.declared.terminal.Outer.{Outer}
use Rattle.grammar.specs.declared.terminal.Outer.TheVariants as o
use Rattle.grammar.specs.declared.terminal.Item.{Item}
use Rattle.grammar.specs.declared.raw.RawName.{RawName}
use Rattle.grammar.specs.declared.raw_blocks.RawNameTail.{RawNameTail}
use Rattle.grammar.specs.declared.raw_blocks.RawPositions.{RawPositions}
use Rattle.grammar.specs.declared.raw_blocks.RawElementTail.{RawElementTail}
use Rattle.grammar.specs.declared.raw_blocks.RawDeclaration.{RawDeclaration}
use Rattle.grammar.specs.declared.raw_blocks.RawVocabulary.{RawVocabulary}
use Rattle.grammar.specs.declared.raw_blocks.RawHeader.{RawHeader}
use Rattle.grammar.specs.declared.raw_blocks.RawElement.{RawElement}
use Rattle.grammar.specs.declared.raw_blocks.RawItem.{RawItem}
use Rattle.grammar.specs.declared.raw_blocks.RawItemTail.{RawItemTail}
use Rattle.grammar.specs.declared.raw_blocks.RawItems.{RawItems}
use Rattle.grammar.specs.declared.raw_blocks.RawTo.{RawTo}
use Rattle.grammar.specs.declared.raw_blocks.RawRow.{RawRow}
use Rattle.grammar.specs.declared.raw_blocks.RawRows.{RawRows}
use Rattle.grammar.specs.declared.raw_blocks.RawRowTail.{RawRowTail}
use Rattle.grammar.specs.declared.raw_blocks.RawTable.{RawTable}
use Rattle.grammar.specs.declared.raw_blocks.RawMark.{RawMark}
use Rattle.grammar.specs.declared.raw_blocks.RawValue.{RawValue}
use Rattle.grammar.specs.declared.raw_blocks.RawValue.TheVariants.{Table}
use Rattle.grammar.specs.declared.raw_blocks.RawEntry.{RawEntry}
use Rattle.grammar.specs.declared.raw_blocks.RawStructure.{RawStructure}
use Rattle.grammar.specs.Terminals.{Symbol, Tok, tok_at, word}
use Rattle.grammar.specs.Trees.{Name}
use Rattle.token_reader.specs.Binders.{Whole}
use Rattle.grammar.specs.Spelling.{put_name}
use Rattle.grammar.specs.View.{name_view}
use Rattle.grammar.specs.BlockTrees.{Row, Value, Mark}
use Rattle.grammar.specs.BlockSpelling.{put_option, put_each, put_behind, put_sign, put_positions, from}
use Rattle.grammar.specs.BlockSpelling.{put_separated, put_declaration, put_vocabulary, put_header, put_element}
use Rattle.grammar.specs.BlockSpelling.{put_item, put_items, put_to, put_row, put_rows, put_value, put_equal}
use Rattle.grammar.specs.BlockSpelling.{put_entry, put_structure}
use Rattle.grammar.specs.BlockView.{name_tail_view, positions_view, element_tail_view, declaration_view}
use Rattle.grammar.specs.BlockView.{vocabulary_view, header_view, element_view, item_view, item_tail_view, items_view}
use Rattle.grammar.specs.BlockView.{to_view, row_view, row_tail_view, rows_view, mark_view, value_view, entry_view}
use Rattle.grammar.specs.BlockView.{structure_view}
use Rattle.block_reader.specs.BlockParts.{PartRead, Anything, EndsDeclaration, EndsArguments}
use Rattle.token_reader.specs.Signs.{TokenRead, No, Is, itself}
use Rattle.block_reader.specs.BlockParts.{EndsItem, EndsItems, EndsRow}

-- ---- vocabularies

abbrev pub NameTailsRead : List Tok → ℕ → Result (List RawNameTail × Bor (List Item)) ReadError → Type 0
NameTailsRead = PartRead (map name_tail_view) (put_each (put_behind t.Comma put_name)) Whole (No t.Comma)

abbrev pub PositionsRead : List Tok → ℕ → Result (RawPositions × Bor (List Item)) ReadError → Type 0
PositionsRead = PartRead positions_view put_positions Whole Anything

abbrev pub ArgumentsOf : List Tok → ℕ → Result (Option RawPositions × Bor (List Item)) ReadError → Type 0
ArgumentsOf = PartRead (option_map positions_view) (put_option put_positions) Whole EndsArguments

abbrev pub placed_name : ℕ × RawName → ℕ × Name
placed_name x = (x.0, name_view x.1)

-- a sign and a name after it, if the sign comes
abbrev pub NamedRead : Terminal → List Tok → ℕ → Result (Option (ℕ × RawName) × Bor (List Item)) ReadError → Type 0
NamedRead t = PartRead (option_map placed_name) (put_option (put_behind t put_name)) Whole EndsDeclaration

abbrev pub put_from : ℕ → List Tok → List Tok
put_from p ts = tok_at (word from) p ∷ ts

abbrev pub IsFrom : Option Symbol → Type 0
IsFrom s = s ≡ Some (word from)

abbrev pub FromRead : List Tok → ℕ → Result (ℕ × Bor (List Item)) ReadError → Type 0
FromRead = TokenRead itself put_from IsFrom

abbrev pub ElementTailsRead : List Tok → ℕ → Result (List RawElementTail × Bor (List Item)) ReadError → Type 0
ElementTailsRead = PartRead (map element_tail_view) (put_each put_separated) Whole (Is t.CloseBrace)

abbrev pub DeclarationRead : List Tok → ℕ → Result (RawDeclaration × Bor (List Item)) ReadError → Type 0
DeclarationRead = PartRead declaration_view put_declaration Whole EndsDeclaration

abbrev pub DeclarationsRead : List Tok → ℕ → Result (List RawDeclaration × Bor (List Item)) ReadError → Type 0
DeclarationsRead = PartRead (map declaration_view) (put_each put_declaration) Whole (Is t.CloseBrace)

abbrev pub VocabularyRead : List Tok → ℕ → Result (RawVocabulary × Bor (List Item)) ReadError → Type 0
VocabularyRead = PartRead vocabulary_view put_vocabulary Whole Anything

-- ---- structures

abbrev pub HeaderRead : Outer → List Tok → ℕ → Result (RawHeader × Bor (List Item)) ReadError → Type 0
HeaderRead w = PartRead header_view (put_header w) Whole Anything

abbrev pub ElementRead : List Tok → ℕ → Result (RawElement × Bor (List Item)) ReadError → Type 0
ElementRead = PartRead element_view put_element Whole Anything

abbrev pub ItemRead : List Tok → ℕ → Result (RawItem × Bor (List Item)) ReadError → Type 0
ItemRead = PartRead item_view put_item Whole EndsItem

abbrev pub ItemTailsRead : List Tok → ℕ → Result (List RawItemTail × Bor (List Item)) ReadError → Type 0
ItemTailsRead = PartRead (map item_tail_view) (put_each (put_behind t.Comma put_item)) Whole EndsItems

abbrev pub ItemsRead : List Tok → ℕ → Result (RawItems × Bor (List Item)) ReadError → Type 0
ItemsRead = PartRead items_view put_items Whole EndsItems

abbrev pub ArrowRead : List Tok → ℕ → Result (Option RawTo × Bor (List Item)) ReadError → Type 0
ArrowRead = PartRead (option_map to_view) (put_option put_to) Whole EndsRow

abbrev pub RowRead : List Tok → ℕ → Result (RawRow × Bor (List Item)) ReadError → Type 0
RowRead = PartRead row_view put_row Whole EndsRow

-- rows after semicolons, and the place of one that stands alone after them
abbrev pub row_tails_view : List RawRowTail × Option ℕ → List (ℕ × Row) × Option ℕ
row_tails_view x = (map row_tail_view x.0, x.1)

abbrev pub put_row_tails : List (ℕ × Row) × Option ℕ → List Tok → List Tok
put_row_tails x ts = put_each (put_behind (t.Outer o.Semicolon) put_row) x.0
    (put_option (put_sign (t.Outer o.Semicolon)) x.1 ts)

abbrev pub RowTailsRead : List Tok → ℕ → Result ((List RawRowTail × Option ℕ) × Bor (List Item)) ReadError → Type 0
RowTailsRead = PartRead row_tails_view put_row_tails Whole (Is t.CloseBrace)

abbrev pub table_of : RawTable → Value
table_of x = value_view (Table x)

abbrev pub RowsRead : List Tok → ℕ → Result (RawRows × Bor (List Item)) ReadError → Type 0
RowsRead = PartRead rows_view put_rows Whole (Is t.CloseBrace)

abbrev pub ValueRead : List Tok → ℕ → Result (RawValue × Bor (List Item)) ReadError → Type 0
ValueRead = PartRead value_view put_value Whole Anything

abbrev pub marked : Option RawMark × ℕ → Option Mark × ℕ
marked x = (option_map mark_view x.0, x.1)

abbrev pub put_marked : Option Mark × ℕ → List Tok → List Tok
put_marked x ts = put_equal x.0 x.1 ts

abbrev pub EqualRead : List Tok → ℕ → Result ((Option RawMark × ℕ) × Bor (List Item)) ReadError → Type 0
EqualRead = PartRead marked put_marked Whole Anything

abbrev pub EntryRead : List Tok → ℕ → Result (RawEntry × Bor (List Item)) ReadError → Type 0
EntryRead = PartRead entry_view put_entry Whole Anything

abbrev pub EntriesRead : List Tok → ℕ → Result (List RawEntry × Bor (List Item)) ReadError → Type 0
EntriesRead = PartRead (map entry_view) (put_each put_entry) Whole (Is t.CloseBrace)

abbrev pub StructureRead : List Tok → ℕ → Result (RawStructure × Bor (List Item)) ReadError → Type 0
StructureRead = PartRead structure_view put_structure Whole Anything
