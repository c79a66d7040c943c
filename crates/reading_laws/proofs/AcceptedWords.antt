-- The names in a file that the stages accept are words.
use Rattle.std.proofs.Common.{◌≡◌, ◌≢◌, ℕ, List, [], ◌∷◌, map, refl, sym, ap, subst, ◌∙◌, Contains}
use Rattle.std.specs.List.{AllByRecursion, filter_map}
use Rattle.kb_logic.specs.declared.vocabularies.Vocabulary.{Vocabulary}
use Rattle.kb_logic.specs.KnownAtoms.{KnownAtoms}
use Rattle.kb_logic.proofs.Members.{all_in}
use Rattle.grammar.specs.declared.raw_blocks.Separator.{Separator}
use Rattle.grammar.specs.BlockTrees as tree
use Rattle.grammar.specs.BlockView.{as_vocabulary, as_structure}
use Rattle.grammar.specs.Trees.{Name, name}
use Rattle.stage_definitions.specs.FileTrees.{element_after, declaration_of, vocabulary_of, structure_of}
use Rattle.stage_definitions.specs.Files.{VocabularyBlock}
use Rattle.stage_definitions.specs.Names.{Names, names_of, text_of}
use Rattle.stage_definitions.specs.NamesStage.{declarations_of}
use Rattle.stage_definitions.specs.Numbering.{types_in, symbols_in, vocabulary_name, NamedFile}
use Rattle.stage_definitions.specs.Numbering as number
use Rattle.stage_definitions.specs.TypedFiles.{TypedFile}
use Rattle.reading_laws.specs.Words.{IsFreeWord, IsSpelled, IsSpelledType, IsSpelledVocabulary, IsAccepted}
use Rattle.reading_laws.specs.Words.{NamesAreWords}
use Rattle.reading_laws.specs.Words.{DataAreWords}
use Rattle.reading_laws.proofs.TokenWords.{AreRead, are_read}
use Rattle.reading_laws.proofs.BlockWords.{IsWord, IsDeclared, IsVocabularyRead, IsStructureRead, IsBlockRead}
use Rattle.reading_laws.proofs.BlockWords.{blocks_read}
use Rattle.reading_laws.proofs.BlockWords.{vocabularies_read, structures_read}
use Rattle.reading_laws.proofs.DomainWords.{domains_spelled}

-- ---- vocabularies

pub word_is : (n : Name) → IsWord n → IsFreeWord (text_of n)
word_is (name text p) h = h

made_are : (ms : List (Separator × ℕ × Name)) → AllByRecursion (λ x. IsWord x.2) ms
    → AllByRecursion IsFreeWord (map text_of (map element_after ms))
made_are [] h = tt
made_are (m ∷ ms) h = (word_is m.2 h.0, made_are ms h.1)

module _ (names : Names) where
  types_are : (ds : List tree.Declaration) → AllByRecursion IsDeclared ds
      → AllByRecursion IsSpelledType (types_in names (map declaration_of ds))
  types_are [] h = tt
  types_are (tree.type_of p n i ∷ ds) h = (record { name = word_is n h.0; made = tt }, types_are ds h.1)
  types_are (tree.constructed p n c f b m ms e ∷ ds) h =
      (record { name = word_is n h.0.0; made = (word_is m h.0.1, made_are ms h.0.2) }, types_are ds h.1)
  types_are (tree.symbol n ps r ∷ ds) h = types_are ds h.1

  symbols_are : (ds : List tree.Declaration) → AllByRecursion IsDeclared ds
      → AllByRecursion (λ s. IsFreeWord s.name) (symbols_in names (map declaration_of ds))
  symbols_are [] h = tt
  symbols_are (tree.type_of p n i ∷ ds) h = symbols_are ds h.1
  symbols_are (tree.constructed p n c f b m ms e ∷ ds) h = symbols_are ds h.1
  symbols_are (tree.symbol n ps r ∷ ds) h = (word_is n h.0, symbols_are ds h.1)

abbrev IsVocabularySpelled : List VocabularyBlock → Type 0
IsVocabularySpelled vs =
    IsSpelledVocabulary (number.vocabulary_of (vocabulary_name vs) (declarations_of vs))
    × (vs ≢ [] → IsFreeWord (vocabulary_name vs))

first_vocabulary : (vs : List tree.Vocabulary) → AllByRecursion IsVocabularyRead vs
    → IsVocabularySpelled (map vocabulary_of vs)
first_vocabulary [] h = (record { types = tt; symbols = tt }, λ e. absurd (e refl))
first_vocabulary (tree.vocabulary p n b ds e ∷ vs) h =
    let names = names_of (map declaration_of ds) in
    (record { types = types_are names ds h.0.1; symbols = symbols_are names ds h.0.1 }, λ o. word_is n h.0.0)

-- ---- files

module _ (bytes : List ℕ) (blocks : List tree.Block) (typed : TypedFile) (a : IsAccepted bytes blocks typed) where
  pub read : AllByRecursion IsBlockRead blocks
  read = blocks_read blocks (subst AreRead a.parsed.0 (are_read bytes a.tokens a.scanned))

  of_file : IsVocabularySpelled (map vocabulary_of (filter_map as_vocabulary blocks))
  of_file = first_vocabulary (filter_map as_vocabulary blocks) (vocabularies_read blocks read)

  same_vocabulary : typed.vocabulary
      ≡ number.vocabulary_of (vocabulary_name (map vocabulary_of (filter_map as_vocabulary blocks)))
      (declarations_of (map vocabulary_of (filter_map as_vocabulary blocks)))
  same_vocabulary = ap (λ (g : TypedFile). g.vocabulary) a.types.tree
      ∙ ap (λ (m : NamedFile). m.vocabulary) a.names.tree

  spelled : IsSpelledVocabulary typed.vocabulary
  spelled = subst IsSpelledVocabulary (sym same_vocabulary) of_file.0

  structure_is : (s : tree.Structure) → Contains (filter_map as_structure blocks) s → IsStructureRead s
  structure_is s c = all_in IsStructureRead (filter_map as_structure blocks) (structures_read blocks read) s c

some_mapped : (vs : List tree.Vocabulary) → vs ≢ [] → map vocabulary_of vs ≢ []
some_mapped [] some e = some refl
some_mapped (v ∷ vs) some e = absurd (cc)

pub names_are_words : NamesAreWords
names_are_words bytes blocks typed a = (
  spelled bytes blocks typed a,
  λ e. subst (λ (v : Vocabulary). IsFreeWord v.name)
      (sym (same_vocabulary bytes blocks typed a))
      ((of_file bytes blocks typed a).1 (some_mapped (filter_map as_vocabulary blocks) e)),
)

title_is : (s : tree.Structure) → IsStructureRead s → IsFreeWord (text_of (structure_of s).name)
title_is (tree.structure (tree.header p n c v b) es e) h = word_is n h.0

pub data_are_words : DataAreWords
data_are_words bytes blocks typed a s c =
    let read = structure_is bytes blocks typed a s c in (
      title_is s read,
      λ theory answer data_of. subst (λ (k : KnownAtoms). AllByRecursion
          (AllByRecursion IsSpelled) k.domains) (sym data_of.given)
          (domains_spelled typed.vocabulary s read (spelled bytes blocks typed a).types),
    )
