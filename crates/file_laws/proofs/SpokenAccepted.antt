-- What the stages of names and types accept of the blocks of a text is spoken.
use Rattle.std.proofs.Common.{◌≡◌, ◌<◌, ◌++◌, ℕ, ℤ, List, [], ◌∷◌, length, map, refl, sym, ap, subst, ◌∙◌}
use Rattle.std.specs.List.{AllByRecursion, filter_map, flat_map}
use Rattle.kb_logic.specs.declared.vocabularies.Vocabulary.{Vocabulary}
use Rattle.kb_logic.specs.Trees.{FormulaTree}
use Rattle.kb_logic.specs.Typing.{IsNumberType, IsWellTyped}
use Rattle.grammar.specs.BlockFine.{FineEach, FineTheoryItem, FineTheory, FineTermBlock, FineBlock}
use Rattle.grammar.specs.BlockTrees as raw
use Rattle.grammar.specs.BlockView.{as_theory, as_term_block}
use Rattle.grammar.specs.Trees.{Name}
use Rattle.stage_definitions.specs.Files.{Declaration, File}
use Rattle.stage_definitions.specs.FileTrees.{part_of, theory_of, term_of, file_of}
use Rattle.stage_definitions.specs.Names.{Names, meaning_of, meaning_at, names_of, text_of}
use Rattle.stage_definitions.specs.NamesStage.{declarations_of}
use Rattle.stage_definitions.specs.Numbering.{NamedFile, type_number, sentences_in, named_theory}
use Rattle.stage_definitions.specs.Numbering.{named_block, named_file, vocabulary_name}
use Rattle.stage_definitions.specs.Scopes.{Text}
use Rattle.stage_definitions.specs.declared.standings.Standing.TheVariants.{Side}
use Rattle.stage_definitions.specs.TypedFiles.{TypedFile, TypedTheoryTree, typed_theory, typed_block, typed_file}
use Rattle.stage_definitions.specs.TypedTrees.{typed_sentence}
use Rattle.stage_definitions.specs.Uses.{uses_of_declarations, uses_in_part}
use Rattle.stage_definitions.specs.Uses.{uses_in_theory, uses_in_block}
use Rattle.printed_texts.specs.Names.{IsName}
use Rattle.printed_texts.specs.FormulaPrints.{type_name, type_word}
use Rattle.printed_texts.specs.ReadFormulas.{IsSpoken}
use Rattle.printed_texts.proofs.FormulasReadBack.{formulas_are_read_back, depth_alone_is_refused}
use Rattle.reading_laws.specs.Vocabularies.{IsWellFormed}
use Rattle.reading_laws.specs.WellTyped.{IsWellTypedNumber, IsWellTypedFile}
use Rattle.reading_laws.proofs.Alls.{all_left, all_right, all_at, each_of}
use Rattle.reading_laws.proofs.Derived.{names_fine, derived_is_well_typed}
use Rattle.reading_laws.proofs.Meanings.{IsFine, AreFine, IsMeaning, words_mean}
use Rattle.reading_laws.proofs.WellFormed.{declarations_fine, declarations_new, derived_is_well_formed}
use Rattle.reading_laws.specs.Words.{IsSpelledType, IsSpelledVocabulary, IsAccepted}
use Rattle.reading_laws.proofs.AcceptedWords.{read, names_are_words}
use Rattle.reading_laws.proofs.BlockWords.{IsTheoryItemRead, IsTheoryRead, IsTermBlockRead, theories_read}
use Rattle.reading_laws.proofs.BlockWords.{term_blocks_read}
use Rattle.file_laws.proofs.Named.{is_name}
use Rattle.file_laws.specs.Spoken.{IsSpokenTerm, IsSpokenFile, AcceptedAreSpoken, IsReadAgain}
use Rattle.file_laws.specs.Spoken.{names_in, AcceptedAreReadAgain}
use Rattle.file_laws.proofs.WordMeanings.{IsCalledAt, found, words_called, called_at, type_again}
use Rattle.file_laws.proofs.Trees.{formula_good, term_good}
use Rattle.file_laws.proofs.OneText.{same_formula}

-- ---- the blocks of each kind

theories_fine : (blocks : List raw.Block) → FineEach FineBlock blocks
    → FineEach FineTheory (filter_map as_theory blocks)
theories_fine [] h = tt
theories_fine (raw.vocabulary_block v ∷ bs) h = theories_fine bs h.1
theories_fine (raw.theory_block x ∷ bs) h = (h.0, theories_fine bs h.1)
theories_fine (raw.structure_block s ∷ bs) h = theories_fine bs h.1
theories_fine (raw.value_block x ∷ bs) h = theories_fine bs h.1
theories_fine (raw.procedure p ∷ bs) h = theories_fine bs h.1

term_blocks_fine : (blocks : List raw.Block) → FineEach FineBlock blocks
    → FineEach FineTermBlock (filter_map as_term_block blocks)
term_blocks_fine [] h = tt
term_blocks_fine (raw.vocabulary_block v ∷ bs) h = term_blocks_fine bs h.1
term_blocks_fine (raw.theory_block x ∷ bs) h = term_blocks_fine bs h.1
term_blocks_fine (raw.structure_block s ∷ bs) h = term_blocks_fine bs h.1
term_blocks_fine (raw.value_block x ∷ bs) h = (h.0, term_blocks_fine bs h.1)
term_blocks_fine (raw.procedure p ∷ bs) h = term_blocks_fine bs h.1

-- ---- sentences and terms

module _ (v : Vocabulary) (names : Names)
    (again : (t : ℕ) → t < length v.types → type_number (meaning_of names (type_word v t)) ≡ t)
    (written : (t : ℕ) → t < length v.types → IsName (type_word v t))
    (called : (scope : List Text) (x : Name) (n : ℕ) → IsCalledAt v scope (text_of x) n (meaning_at names scope x n))
  where
    abbrev Asked : ℕ → ℤ → Type 0
    Asked ty z = IsNumberType v ty

    items_spoken : (is : List raw.TheoryItem) → AllByRecursion IsTheoryItemRead is → FineEach FineTheoryItem is
        → AreFine names (flat_map (uses_in_part names) (map part_of is))
        → AllByRecursion (λ g. IsWellTyped v g [])
        (map (typed_sentence v) (flat_map (sentences_in names) (map part_of is)))
        → AllByRecursion (IsSpoken v names) (map (typed_sentence v) (flat_map (sentences_in names) (map part_of is)))
    items_spoken [] h g fine typed = tt
    items_spoken (raw.sentence f d ∷ is) h g fine typed =
        let first = uses_in_part names (part_of (raw.sentence f d)) in
        let later = flat_map (uses_in_part names) (map part_of is) in
        let spoken = formula_good v names Asked again written called [] f h.0.0 g.0 h.0.1
        (all_left (IsFine names) first later fine) [] [] typed.0 in (
          record { means = spoken.0; words = spoken.1 },
          items_spoken is h.1 g.1 (all_right (IsFine names) first later fine) typed.1,
        )
    items_spoken (raw.definition b rs e ∷ is) h g fine typed =
        let first = uses_in_part names (part_of (raw.definition b rs e)) in
        let later = flat_map (uses_in_part names) (map part_of is) in
        items_spoken is h.1 g.1 (all_right (IsFine names) first later fine) typed

    theories_spoken : (ts : List raw.Theory) → AllByRecursion IsTheoryRead ts → FineEach FineTheory ts
        → AreFine names (flat_map (uses_in_theory names) (map theory_of ts))
        → AllByRecursion (λ t. AllByRecursion (λ g. IsWellTyped v g []) t.theory.sentences)
        (map (typed_theory v) (map (named_theory names) (map theory_of ts)))
        → AllByRecursion (λ t. AllByRecursion (IsSpoken v names) t.theory.sentences)
        (map (typed_theory v) (map (named_theory names) (map theory_of ts)))
    theories_spoken [] h g fine typed = tt
    theories_spoken (raw.theory x is e ∷ ts) h g fine typed =
        let first = flat_map (uses_in_part names) (map part_of is) in
        let later = flat_map (uses_in_theory names) (map theory_of ts) in (
          items_spoken is h.0 g.0 (all_left (IsFine names) first later fine) typed.0,
          theories_spoken ts h.1 g.1 (all_right (IsFine names) first later fine) typed.1,
        )

    terms_spoken : (bs : List raw.TermBlock) → AllByRecursion IsTermBlockRead bs → FineEach FineTermBlock bs
        → AreFine names (flat_map uses_in_block (map term_of bs))
        → AllByRecursion (λ b. IsWellTypedNumber v b.term)
        (map (typed_block v) (map (named_block names) (map term_of bs)))
        → AllByRecursion (λ b. IsSpokenTerm v names b.term)
        (map (typed_block v) (map (named_block names) (map term_of bs)))
    terms_spoken [] h g fine typed = tt
    terms_spoken (raw.term_block x t d e ∷ bs) h g fine typed =
        let first = uses_in_block (term_of (raw.term_block x t d e)) in
        let later = flat_map uses_in_block (map term_of bs) in
        let spoken = term_good v names Asked again written called Side [] t h.0.0 g.0 h.0.1
        (all_left (IsFine names) first later fine) [] [] typed.0.0 in (
          record { means = spoken.0; words = spoken.1 },
          terms_spoken bs h.1 g.1 (all_right (IsFine names) first later fine) typed.1,
        )

-- ---- files

module _ (bytes : List ℕ) (blocks : List raw.Block) (typed : TypedFile) (a : IsAccepted bytes blocks typed) where
  abbrev file : File
  file = file_of blocks a.len

  abbrev declarations : List Declaration
  declarations = declarations_of file.vocabularies

  abbrev names : Names
  names = names_of declarations

  abbrev numbered : NamedFile
  numbered = named_file (vocabulary_name file.vocabularies) declarations file.theories file.terms

  abbrev v : Vocabulary
  v = numbered.vocabulary

  same : typed ≡ typed_file numbered
  same = a.types.tree ∙ ap typed_file a.names.tree

  formed : IsWellFormed v
  formed = subst (λ (g : TypedFile). IsWellFormed g.vocabulary) same
      (derived_is_well_formed file a.named typed a.names a.types)

  well : IsWellTypedFile (typed_file numbered)
  well = subst IsWellTypedFile same (derived_is_well_typed file a.named typed a.names a.types)

  spelled : IsSpelledVocabulary v
  spelled = subst (λ (g : TypedFile). IsSpelledVocabulary g.vocabulary) same (names_are_words bytes blocks typed a).0

  again : (t : ℕ) → t < length v.types → type_number (meaning_of names (type_word v t)) ≡ t
  again t h = type_again v declarations refl formed.few_types (declarations_new file a.names.accepted) t h

  written : (t : ℕ) → t < length v.types → IsName (type_word v t)
  written t h =
      let d = found v.types t h in
      subst (λ (n : Text). IsName n) (sym (ap type_name d.1))
      (is_name d.0.name (all_at IsSpelledType v.types t d.0 d.1 spelled.types).name)

  means : (w : Text) → IsMeaning v.types v.symbols 0 (meaning_of names w)
  means w = words_mean names declarations 0 refl (declarations_fine file a.names.accepted) w

  called : (scope : List Text) (x : Name) (n : ℕ) → IsCalledAt v scope (text_of x) n (meaning_at names scope x n)
  called scope x n = called_at v names means (words_called v declarations refl refl) scope x n

  spoken : IsSpokenFile names (typed_file numbered)
  spoken =
      let theories = flat_map (uses_in_theory names) file.theories in
      let blocks_used = flat_map uses_in_block file.terms in
      let fine = all_right (IsFine names) (uses_of_declarations declarations) (theories ++ blocks_used)
      (names_fine file a.names.accepted) in
      let words = read bytes blocks typed a in
      record {
        sentences = theories_spoken v names again written called (filter_map as_theory blocks)
            (theories_read blocks words) (theories_fine blocks a.parsed.1)
            (all_left (IsFine names) theories blocks_used fine) well.theories;
        terms = terms_spoken v names again written called (filter_map as_term_block blocks)
            (term_blocks_read blocks words) (term_blocks_fine blocks a.parsed.1)
            (all_right (IsFine names) theories blocks_used fine) well.terms;
      }

pub accepted_are_spoken : AcceptedAreSpoken
accepted_are_spoken bytes blocks typed a =
    subst (IsSpokenFile (names bytes blocks typed a)) (sym (same bytes blocks typed a)) (spoken bytes blocks typed a)

-- ---- what is printed of it

read_again : (v : Vocabulary) (names : Names) (f : FormulaTree) → IsSpoken v names f → IsReadAgain v names f
read_again v names f h = record {
  back = formulas_are_read_back v names f h;
  alone = same_formula v names f h;
  deep = depth_alone_is_refused v names f h;
}

pub accepted_are_read_again : AcceptedAreReadAgain
accepted_are_read_again bytes blocks typed a =
    let v = typed.vocabulary in
    let words = names_in blocks in
    each_of (λ (t : TypedTheoryTree). AllByRecursion (IsReadAgain v words) t.theory.sentences)
    (λ (t : TypedTheoryTree). AllByRecursion (IsSpoken v words) t.theory.sentences)
    (λ t h. each_of (IsReadAgain v words) (IsSpoken v words) (read_again v words) t.theory.sentences h)
    typed.theories (accepted_are_spoken bytes blocks typed a).sentences
