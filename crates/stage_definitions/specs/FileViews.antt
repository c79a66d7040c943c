-- What a named knowledge base is.
use Rattle.std.specs.Prelude.{map}
use Rattle.stage_definitions.specs.Numbering.{NamedTheoryTree, NamedTermTree, NamedFile}
use Rattle.stage_definitions.specs.declared.named.NamedTheory.{NamedTheory}
use Rattle.stage_definitions.specs.declared.named.NamedTermBlock.{NamedTermBlock}
use Rattle.stage_definitions.specs.declared.named.NamedKb.{NamedKb}
use Rattle.stage_definitions.specs.NamedViews.{definition_view, formula_view, term_view}

abbrev pub theory_view : NamedTheory → NamedTheoryTree
theory_view t = record {
  name = t.name;
  place = t.place;
  sentences = map formula_view t.sentences;
  definitions = map definition_view t.definitions;
}

abbrev pub block_view : NamedTermBlock → NamedTermTree
block_view t = record { name = t.name; term = term_view t.term }

abbrev pub kb_view : NamedKb → NamedFile
kb_view kb = record {
  vocabulary = kb.vocab;
  theories = map theory_view kb.theories;
  terms = map block_view kb.terms;
  type_places = kb.type_places;
  symbol_places = kb.symbol_places;
}
