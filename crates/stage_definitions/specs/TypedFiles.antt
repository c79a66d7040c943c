-- A file with the types of its variables, and the places that later refusals name.
use Rattle.std.specs.Prelude.{ℕ, List, ◌++◌, map}
use Rattle.std.specs.List.{flat_map}
use Rattle.kb_logic.specs.declared.vocabularies.Vocabulary.{Vocabulary}
use Rattle.kb_logic.specs.Trees.{TermTree, DefinitionTree, TheoryTree}
use Rattle.stage_definitions.specs.NamedTrees.{NamedRule}
use Rattle.stage_definitions.specs.Numbering.{NamedTheoryTree, NamedTermTree, NamedFile}
use Rattle.stage_definitions.specs.Scopes.{Text}
use Rattle.stage_definitions.specs.TermPlaces.{terms_begin, term_begins, rule_begins}
use Rattle.stage_definitions.specs.TypedTrees.{typed_sentence, typed_rule, typed_block_term}

-- the places of the types' and the symbols' names, of each theory's first word, and of the terms in each theory and in
-- each term block
pub record PlacesTree : Type 0 where
  pub types : List ℕ
  pub symbols : List ℕ
  pub theories : List ℕ
  pub theory_terms : List (List ℕ)
  pub block_terms : List (List ℕ)

-- a theory: its name and what it says
pub record TypedTheoryTree : Type 0 where
  pub name : Text
  pub theory : TheoryTree

-- a term block: its name and its term
pub record TypedTermTree : Type 0 where
  pub name : Text
  pub term : TermTree

-- a file: its vocabulary, theories and term blocks, and their places
pub record TypedFile : Type 0 where
  pub vocabulary : Vocabulary
  pub theories : List TypedTheoryTree
  pub terms : List TypedTermTree
  pub places : PlacesTree

-- a definition with the types of its variables
abbrev pub typed_definition : Vocabulary → List NamedRule → DefinitionTree
typed_definition v rs = record { rules = map (typed_rule v) rs }

-- a theory with the types of its variables
abbrev pub typed_theory : Vocabulary → NamedTheoryTree → TypedTheoryTree
typed_theory v t = record {
  name = t.name;
  theory = record {
    sentences = map (typed_sentence v) t.sentences;
    definitions = map (typed_definition v) t.definitions;
  };
}

-- a term block with the types of its variables
abbrev pub typed_block : Vocabulary → NamedTermTree → TypedTermTree
typed_block v t = record { name = t.name; term = typed_block_term v t.term }

-- the places of the terms in the items of a theory, in their order
abbrev pub theory_begins : NamedTheoryTree → List ℕ
theory_begins t = flat_map terms_begin t.sentences ++ flat_map (flat_map rule_begins) t.definitions

-- the places of a file's names, theories and terms
abbrev pub places_of_file : NamedFile → PlacesTree
places_of_file f = record {
  types = f.type_places;
  symbols = f.symbol_places;
  theories = map (λ t. t.place) f.theories;
  theory_terms = map theory_begins f.theories;
  block_terms = map (λ t. term_begins t.term) f.terms;
}

-- the file, each of its sentences and terms with the types of its variables
abbrev pub typed_file : NamedFile → TypedFile
typed_file f = record {
  vocabulary = f.vocabulary;
  theories = map (typed_theory f.vocabulary) f.theories;
  terms = map (typed_block f.vocabulary) f.terms;
  places = places_of_file f;
}
