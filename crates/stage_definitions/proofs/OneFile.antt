-- The stages see in a raw file what they see in the blocks that it stands for.
use Rattle.std.proofs.Common.{◌≡◌, ◌∙◌, ℕ, List, [], ◌∷◌, map, Option, Some, None, refl, ap}
use Rattle.std.specs.Option.{option_map}
use Rattle.grammar.specs.declared.raw_blocks.RawKb.{RawKb}
use Rattle.grammar.specs.declared.raw_blocks.RawVocabulary.{RawVocabulary}
use Rattle.grammar.specs.declared.raw_blocks.RawDeclaration.{RawDeclaration}
use Rattle.grammar.specs.declared.raw_blocks.RawDeclaration.TheVariants as declared
use Rattle.grammar.specs.declared.raw_blocks.RawPositions.{RawPositions}
use Rattle.grammar.specs.declared.raw_blocks.RawNames.{RawNames}
use Rattle.grammar.specs.declared.raw_blocks.RawTheory.{RawTheory}
use Rattle.grammar.specs.declared.raw_blocks.RawTheoryItem.{RawTheoryItem}
use Rattle.grammar.specs.declared.raw_blocks.RawTheoryItem.TheVariants as stated
use Rattle.grammar.specs.Trees.{Name}
use Rattle.grammar.specs.BlockTrees.{Block}
use Rattle.grammar.specs.BlockView.{IsKb, declaration_view, element_tail_view, isa_view, name_tail_view, names_view}
use Rattle.grammar.specs.BlockView.{positions_view, result_view, structure_view, term_block_view, theory_item_view}
use Rattle.grammar.specs.BlockView.{theory_view, vocabulary_view}
use Rattle.grammar.specs.View.{name_view}
use Rattle.stage_definitions.specs.Files.{Declaration, type_under, constructed_type, symbol, Header, VocabularyBlock}
use Rattle.stage_definitions.specs.Files.{TheoryBlock, Part}
use Rattle.stage_definitions.specs.FileView.{argument_names, declaration_in, element_name, file_in, header_in, isa_name}
use Rattle.stage_definitions.specs.FileView.{names_among, part_in, result_name, structure_in, tail_name, term_in}
use Rattle.stage_definitions.specs.FileView.{theory_in, vocabulary_in}
use Rattle.stage_definitions.specs.FileTrees.{declaration_of, element_after, file_of, named_after, names_listed}
use Rattle.stage_definitions.specs.FileTrees.{part_of}
use Rattle.stage_definitions.specs.FileTrees.{structure_of, term_of, theory_of, types_listed, vocabulary_of}

-- what is seen of a list is what is seen of its view, if it is so of each item
mapped : {A B C : Type 0} (f : A → C) (v : A → B) (g : B → C) → ((x : A) → f x ≡ g (v x)) → (xs : List A)
    → map f xs ≡ map g (map v xs)
mapped f v g same [] = refl
mapped {A} {B} {C} f v g same (x ∷ xs) = ap (λ (y : C). y ∷ map f xs) (same x) ∙ ap (λ (ys : List C). g (v x) ∷ ys)
    (mapped f v g same xs)

mapped_option : {A B C : Type 0} (f : A → C) (v : A → B) (g : B → C) → ((x : A) → f x ≡ g (v x)) → (x : Option A)
    → option_map f x ≡ option_map g (option_map v x)
mapped_option f v g same None = refl
mapped_option {A} {B} {C} f v g same (Some x) = ap (λ (y : C). Some y) (same x)

same_names : (x : Option RawNames) → names_among x ≡ names_listed (option_map names_view x)
same_names None = refl
same_names (Some x) = ap (λ (ns : List Name). name_view x.first ∷ ns) (mapped tail_name name_tail_view named_after
    (λ n. refl) x.more)

same_types : (x : Option RawPositions) → argument_names x ≡ types_listed (option_map positions_view x)
same_types None = refl
same_types (Some x) = same_names x.names

same_declaration : (d : RawDeclaration) → declaration_in d ≡ declaration_of (declaration_view d)
same_declaration (declared.Type x) = ap (λ (o : Option Name). type_under (name_view x.name) o)
    (mapped_option isa_name isa_view named_after (λ y. refl) x.isa)
same_declaration (declared.Constructed x) = ap (λ (ns : List Name). constructed_type (name_view x.name)
    (name_view x.first ∷ ns)) (mapped element_name element_tail_view element_after (λ y. refl) x.more)
same_declaration (declared.Symbol x) =
    ap (λ (ns : List Name). symbol (name_view x.name) ns (option_map result_name x.result)) (same_types x.arguments)
    ∙ ap (λ (o : Option Name). symbol (name_view x.name) (types_listed (option_map positions_view x.arguments)) o)
    (mapped_option result_name result_view named_after (λ y. refl) x.result)

abbrev with_declarations : ℕ → Name → List Declaration → VocabularyBlock
with_declarations place called ds = record { place = place; name = called; declarations = ds }

same_vocabulary : (x : RawVocabulary) → vocabulary_in x ≡ vocabulary_of (vocabulary_view x)
same_vocabulary x = ap (with_declarations x.place (name_view x.name))
    (mapped declaration_in declaration_view declaration_of same_declaration x.declarations)

same_part : (x : RawTheoryItem) → part_in x ≡ part_of (theory_item_view x)
same_part (stated.Sentence x) = refl
same_part (stated.Definition x) = refl

abbrev with_parts : Header → List Part → TheoryBlock
with_parts h ps = record { header = h; parts = ps }

same_theory : (x : RawTheory) → theory_in x ≡ theory_of (theory_view x)
same_theory x = ap (with_parts (header_in x.header)) (mapped part_in theory_item_view part_of same_part x.items)

pub one_file : (blocks : List Block) (len : ℕ) (kb : RawKb) → IsKb blocks len kb → file_in kb ≡ file_of blocks len
one_file blocks len kb is =
    let vocabularies : map vocabulary_in kb.vocabularies ≡ (file_of blocks len).vocabularies =
    mapped vocabulary_in vocabulary_view vocabulary_of same_vocabulary kb.vocabularies
    ∙ ap (map vocabulary_of) is.vocabularies in
    let theories : map theory_in kb.theories ≡ (file_of blocks len).theories =
    mapped theory_in theory_view theory_of same_theory kb.theories ∙ ap (map theory_of) is.theories in
    let structures : map structure_in kb.structures ≡ (file_of blocks len).structures =
    mapped structure_in structure_view structure_of (λ x. refl) kb.structures ∙ ap (map structure_of) is.structures in
    let terms : map term_in kb.terms ≡ (file_of blocks len).terms =
    mapped term_in term_block_view term_of (λ x. refl) kb.terms ∙ ap (map term_of) is.terms in
    rw (vocabularies, theories, structures, terms, is.end) refl
