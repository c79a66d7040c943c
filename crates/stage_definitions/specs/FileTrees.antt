-- What the stages of blocks and names look at in the blocks that a text is read as.
use Rattle.std.specs.Prelude.{ℕ, List, [], ◌∷◌, map, Option, Some, None}
use Rattle.std.specs.Option.{option_map}
use Rattle.std.specs.List.{filter_map}
use Rattle.grammar.specs.declared.raw_blocks.Separator.{Separator}
use Rattle.grammar.specs.Trees.{Name}
use Rattle.grammar.specs.BlockTrees as tree
use Rattle.grammar.specs.BlockTrees.{Block}
use Rattle.grammar.specs.BlockView.{as_vocabulary, as_theory, as_structure, as_term_block}
use Rattle.stage_definitions.specs.Files.{Declaration, type_under, constructed_type, symbol, Part, sentence, definition}
use Rattle.stage_definitions.specs.Files.{Header, VocabularyBlock, TheoryBlock, TermBlock, File}

-- the name after a sign
abbrev pub named_after : ℕ × Name → Name
named_after x = x.1

abbrev pub element_after : Separator × ℕ × Name → Name
element_after x = x.2

abbrev pub names_listed : Option tree.Names → List Name
names_listed None = []
names_listed (Some (tree.names n ns)) = n ∷ map named_after ns

abbrev pub types_listed : Option tree.Positions → List Name
types_listed None = []
types_listed (Some (tree.positions p ns q)) = names_listed ns

abbrev pub declaration_of : tree.Declaration → Declaration
declaration_of (tree.type_of p n parent) = type_under n (option_map named_after parent)
declaration_of (tree.constructed p n c f o first more q) = constructed_type n (first ∷ map element_after more)
declaration_of (tree.symbol n args value) = symbol n (types_listed args) (option_map named_after value)

abbrev pub vocabulary_of : tree.Vocabulary → VocabularyBlock
vocabulary_of (tree.vocabulary p n o ds q) = record { place = p; name = n; declarations = map declaration_of ds }

abbrev pub header_of : tree.Header → Header
header_of (tree.header p n c of o) = record { place = p; name = n; of = of }

abbrev pub part_of : tree.TheoryItem → Part
part_of (tree.sentence f p) = sentence f
part_of (tree.definition p rs q) = definition rs

abbrev pub theory_of : tree.Theory → TheoryBlock
theory_of (tree.theory h is q) = record { header = header_of h; parts = map part_of is }

abbrev pub structure_of : tree.Structure → Header
structure_of (tree.structure h es q) = header_of h

abbrev pub term_of : tree.TermBlock → TermBlock
term_of (tree.term_block h t d q) = record { header = header_of h; term = t }

-- the file that these blocks of a text with so many bytes are
abbrev pub file_of : List Block → ℕ → File
file_of blocks len = record {
  vocabularies = map vocabulary_of (filter_map as_vocabulary blocks);
  theories = map theory_of (filter_map as_theory blocks);
  structures = map structure_of (filter_map as_structure blocks);
  terms = map term_of (filter_map as_term_block blocks);
  end = len;
}
