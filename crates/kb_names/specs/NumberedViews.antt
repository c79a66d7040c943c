-- What a file with numbers for words is, before it is known whether something in it is refused.
use Rattle.std.specs.Prelude.{map}
use Rattle.stage_definitions.specs.Numbering.{NamedFile}
use Rattle.stage_definitions.specs.FileViews.{block_view, theory_view}
use Rattle.kb_names.specs.declared.files.Numbered.{Numbered}

abbrev pub numbered_view : Numbered → NamedFile
numbered_view kb = record {
  vocabulary = kb.vocab;
  theories = map theory_view kb.theories;
  terms = map block_view kb.terms;
  type_places = kb.type_places;
  symbol_places = kb.symbol_places;
}
