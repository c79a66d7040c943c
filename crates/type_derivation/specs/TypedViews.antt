-- What a typed knowledge base is.
use Rattle.std.specs.Prelude.{map}
use Rattle.kb_logic.specs.declared.syntax.Term.{Term}
use Rattle.kb_logic.specs.declared.syntax.Theory.{Theory}
use Rattle.kb_logic.specs.Views as view
use Rattle.stage_definitions.specs.TypedFiles.{PlacesTree, TypedTheoryTree, TypedTermTree, TypedFile}
use Rattle.type_derivation.specs.declared.typed.Named.{Named}
use Rattle.type_derivation.specs.declared.typed.Places.{Places}
use Rattle.type_derivation.specs.declared.typed.TypedKb.{TypedKb}

abbrev pub named_theory_view : Named Theory → TypedTheoryTree
named_theory_view t = record { name = t.name; theory = view.theory_view t.value }

abbrev pub named_term_view : Named Term → TypedTermTree
named_term_view t = record { name = t.name; term = view.term_view t.value }

abbrev pub places_view : Places → PlacesTree
places_view p = record {
  types = p.types;
  symbols = p.symbols;
  theories = p.theories;
  theory_terms = p.theory_terms;
  block_terms = p.block_terms;
}

abbrev pub typed_view : TypedKb → TypedFile
typed_view kb = record {
  vocabulary = kb.vocab;
  theories = map named_theory_view kb.theories;
  terms = map named_term_view kb.terms;
  places = places_view kb.places;
}
