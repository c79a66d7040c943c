-- What an entry in memory says.
use Rattle.std.specs.Prelude.{map, option_map}
use Rattle.grammar.specs.View.{name_view}
use Rattle.stage_definitions.specs.DataEntries as said
use Rattle.structure_entries.specs.EntryViews.{row_view, subject_view}
use Rattle.structure_entries.specs.declared.written.Entry.{Entry}

abbrev pub said_view : Entry → said.Said
said_view e = record {
  word = name_view e.word.now;
  subject = subject_view e.subject;
  mark = option_map (λ m. name_view m.now) e.mark;
  fits = e.fits;
  rows = map row_view e.rows.items;
}
