-- What elements, rows and entries in memory say.
use Rattle.std.specs.Borrow.{Bor}
use Rattle.std.specs.Prelude.{ℕ, Bool, List, [], ◌∷◌, Option, None, Some, filter, map, option_map, if◌then◌else◌}
use Rattle.std.specs.List.{flat_map}
use Rattle.std.specs.Str.{bytes_eq}
use Rattle.kb_logic.specs.declared.elements.Elem.{Elem}
use Rattle.kb_logic.specs.declared.elements.Elem.TheVariants as elem
use Rattle.grammar.specs.BlockTrees as raw
use Rattle.grammar.specs.BlockView.{element_view, item_tail_view, item_view}
use Rattle.grammar.specs.declared.raw_blocks.RawItem.{RawItem}
use Rattle.grammar.specs.declared.raw_blocks.RawItemTail.{RawItemTail}
use Rattle.stage_definitions.specs.Scopes.{Text}
use Rattle.stage_definitions.specs.Elements as cell
use Rattle.stage_definitions.specs.DataEntries as said
use Rattle.stage_definitions.specs.DataFacts as fact
use Rattle.structure_entries.specs.WholeViews.{whole_view}
use Rattle.structure_entries.specs.declared.elements.Element.{Element}
use Rattle.structure_entries.specs.declared.elements.Element.TheVariants.{Word, Number}
use Rattle.structure_entries.specs.declared.elements.Cell.{Cell}
use Rattle.structure_entries.specs.declared.elements.Cell.TheVariants.{One, Span}
use Rattle.structure_entries.specs.declared.subjects.Subject.{Subject}
use Rattle.structure_entries.specs.declared.subjects.Subject.TheVariants as subject
use Rattle.structure_entries.specs.declared.subjects.Subjects.{Subjects}
use Rattle.structure_entries.specs.declared.senses.Sense.{Sense}
use Rattle.structure_entries.specs.declared.senses.Sense.TheVariants as sense
use Rattle.structure_entries.specs.declared.items.RowItems.{RowItems}
use Rattle.structure_entries.specs.declared.rows.Row.{Row}
use Rattle.structure_entries.specs.declared.spots.Spot.{Spot}
use Rattle.structure_entries.specs.declared.spots.Written.{Written}
use Rattle.structure_entries.specs.declared.spots.Written.TheVariants.{Item, Value}
use Rattle.structure_entries.specs.declared.facts.Fact.{Fact}

abbrev pub elem_view : Element → Elem
elem_view (Word w) = elem.Named w.now
elem_view (Number n) = elem.Num (whole_view n)

abbrev pub cell_view : Cell → cell.Cell
cell_view (One x) = cell.one (elem_view x)
cell_view (Span a b) = cell.span (whole_view a) (whole_view b)

abbrev pub subject_view : Subject → said.Subject
subject_view subject.Nothing = said.nothing_named
subject_view subject.OfElement = said.an_element
subject_view (subject.OfType t d) = said.a_type t d.now
subject_view (subject.OfSymbol s d) = said.a_symbol s d.now

-- the names with what they name
abbrev pub subjects_in : Subjects → List (Text × said.Subject)
subjects_in t = map (λ e. (e.0.now, subject_view e.1)) t.table.entries

-- what the first of some names says of the word, or else what else the word names
abbrev pub found_in : Text → List (Text × said.Subject) → said.Subject → said.Subject
found_in word [] other = other
found_in word (e ∷ es) other = if bytes_eq word e.0 then e.1 else found_in word es other

abbrev pub sense_view : Sense → said.Sense
sense_view sense.Everything = said.everything
sense_view sense.CertainlyTrue = said.certainly_true
sense_view sense.CertainlyFalse = said.certainly_false
sense_view sense.Unread = said.unread

-- the items that the tree has after a first one
abbrev pub tail_items : List RawItemTail → List raw.RowItem
tail_items more = map (λ (x : ℕ × raw.RowItem). x.1) (map item_tail_view more)

abbrev items_from : Option (Bor RawItem) → List RawItemTail → List raw.RowItem
items_from None more = []
items_from (Some i) more = item_view i.now ∷ tail_items more

-- the items of a row, one after another
abbrev pub items_of : RowItems → List raw.RowItem
items_of r = items_from r.first r.more.now

abbrev pub row_view : Row → said.WrittenRow
row_view r = record {
  place = r.place;
  items = items_of r.items;
  value = option_map (λ e. element_view e.now) r.value;
}

-- where what is written begins
abbrev pub place_written : Written → ℕ
place_written (Item i) = said.place_of_item (item_view i.now)
place_written (Value e) = said.place_of_element (element_view e.now)

-- what it stands for, in a list where ranges may stand or not
abbrev pub cell_written : Bool → Written → Option cell.Cell
cell_written is_plain (Item i) = said.cell_of is_plain (item_view i.now)
cell_written is_plain (Value e) = Some (cell.one (said.element_of (element_view e.now)))

abbrev pub spot_view : Spot → said.Spot
spot_view s = record {
  ty = s.ty;
  in_list = s.in_list;
  place = place_written s.written;
  cell = cell_written s.is_plain s.written;
}

abbrev pub fact_view : Fact → fact.Fact
fact_view f = record {
  place = f.place;
  symbol = f.symbol;
  holds = f.holds;
  args = map cell_view f.args.items;
  value = option_map elem_view f.value;
}

-- what stands in the rows that fit, in the order of the text
abbrev pub spots_in : said.Subject → List said.WrittenRow → List said.Spot
spots_in x rows = flat_map (said.row_spots x) (filter (said.fits_in x) rows)
