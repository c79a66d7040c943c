-- What the stages of blocks and names look at in a raw file.
use Rattle.std.specs.Prelude.{List, [], ◌∷◌, map, Option, Some, None}
use Rattle.std.specs.Option.{option_map}
use Rattle.grammar.specs.declared.raw_blocks.RawKb.{RawKb}
use Rattle.grammar.specs.declared.raw_blocks.RawVocabulary.{RawVocabulary}
use Rattle.grammar.specs.declared.raw_blocks.RawDeclaration.{RawDeclaration}
use Rattle.grammar.specs.declared.raw_blocks.RawDeclaration.TheVariants as declared
use Rattle.grammar.specs.declared.raw_blocks.RawIsa.{RawIsa}
use Rattle.grammar.specs.declared.raw_blocks.RawElementTail.{RawElementTail}
use Rattle.grammar.specs.declared.raw_blocks.RawPositions.{RawPositions}
use Rattle.grammar.specs.declared.raw_blocks.RawNames.{RawNames}
use Rattle.grammar.specs.declared.raw_blocks.RawNameTail.{RawNameTail}
use Rattle.grammar.specs.declared.raw_blocks.RawResult.{RawResult}
use Rattle.grammar.specs.declared.raw_blocks.RawHeader.{RawHeader}
use Rattle.grammar.specs.declared.raw_blocks.RawTheory.{RawTheory}
use Rattle.grammar.specs.declared.raw_blocks.RawTheoryItem.{RawTheoryItem}
use Rattle.grammar.specs.declared.raw_blocks.RawTheoryItem.TheVariants as stated
use Rattle.grammar.specs.declared.raw_blocks.RawTerm.{RawTerm}
use Rattle.grammar.specs.declared.raw_blocks.RawStructure.{RawStructure}
use Rattle.grammar.specs.Trees.{Name}
use Rattle.grammar.specs.View.{name_view, formula_view, term_view}
use Rattle.grammar.specs.BlockView.{rule_view}
use Rattle.stage_definitions.specs.Files.{Declaration, type_under, constructed_type, symbol, Part, sentence, definition}
use Rattle.stage_definitions.specs.Files.{Header, VocabularyBlock, TheoryBlock, TermBlock, File}

abbrev pub isa_name : RawIsa → Name
isa_name x = name_view x.name

abbrev pub result_name : RawResult → Name
result_name x = name_view x.name

abbrev pub element_name : RawElementTail → Name
element_name x = name_view x.name

abbrev pub tail_name : RawNameTail → Name
tail_name x = name_view x.name

abbrev pub names_among : Option RawNames → List Name
names_among None = []
names_among (Some x) = name_view x.first ∷ map tail_name x.more

abbrev pub argument_names : Option RawPositions → List Name
argument_names None = []
argument_names (Some x) = names_among x.names

abbrev pub declaration_in : RawDeclaration → Declaration
declaration_in (declared.Type x) = type_under (name_view x.name) (option_map isa_name x.isa)
declaration_in (declared.Constructed x) = constructed_type (name_view x.name)
    (name_view x.first ∷ map element_name x.more)
declaration_in (declared.Symbol x) = symbol (name_view x.name) (argument_names x.arguments)
    (option_map result_name x.result)

abbrev pub vocabulary_in : RawVocabulary → VocabularyBlock
vocabulary_in x = record { place = x.place; name = name_view x.name; declarations = map declaration_in x.declarations }

abbrev pub header_in : RawHeader → Header
header_in x = record { place = x.place; name = name_view x.name; of = name_view x.of }

abbrev pub part_in : RawTheoryItem → Part
part_in (stated.Sentence x) = sentence (formula_view x.formula)
part_in (stated.Definition x) = definition (map rule_view x.rules)

abbrev pub theory_in : RawTheory → TheoryBlock
theory_in x = record { header = header_in x.header; parts = map part_in x.items }

abbrev pub structure_in : RawStructure → Header
structure_in x = header_in x.header

abbrev pub term_in : RawTerm → TermBlock
term_in x = record { header = header_in x.header; term = term_view x.term }

abbrev pub file_in : RawKb → File
file_in x = record {
  vocabularies = map vocabulary_in x.vocabularies;
  theories = map theory_in x.theories;
  structures = map structure_in x.structures;
  terms = map term_in x.terms;
  end = x.end;
}
