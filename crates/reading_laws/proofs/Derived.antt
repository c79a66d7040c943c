-- What the stages of names and types accept is well typed.
use Rattle.std.proofs.Common.{ℕ, List, [], ◌∷◌, ◌++◌, length, map, refl, sym, subst}
use Rattle.std.specs.List.{AllByRecursion, flat_map}
use Rattle.std.proofs.lemmas.Bool.{false_from_ne_true}
use Rattle.kb_text.specs.declared.fault.KbFault.{KbFault}
use Rattle.kb_logic.specs.declared.vocabularies.Vocabulary.{Vocabulary}
use Rattle.kb_logic.specs.Trees.{TheoryTree}
use Rattle.kb_logic.specs.Typing.{IsWellTyped}
use Rattle.kb_logic.proofs.Members.{in_all}
use Rattle.stage_definitions.specs.Scopes.{Text}
use Rattle.stage_definitions.specs.declared.standings.Standing.TheVariants.{Side}
use Rattle.stage_definitions.specs.Files.{Part, sentence, definition, TheoryBlock, TermBlock, File}
use Rattle.stage_definitions.specs.Names.{Names, meaning_of, number_types, declared_names, names_of}
use Rattle.stage_definitions.specs.Uses.{declared_uses, uses_in_declarations, cycle_uses, uses_of_declarations}
use Rattle.stage_definitions.specs.Uses.{in_scope}
use Rattle.stage_definitions.specs.Uses.{head_word, uses_in_rule, uses_in_part, uses_in_theory, uses_in_block}
use Rattle.stage_definitions.specs.NamesStage.{is_unknown, is_wrong, is_unsupported, is_too_many, unknown_name}
use Rattle.stage_definitions.specs.NamesStage.{is_bad_head, wrong_arity, unsupported, bad_head, too_large, NamesRefuse}
use Rattle.stage_definitions.specs.NamesStage.{declarations_of, uses_of_file}
use Rattle.grammar.specs.BlockTrees.{Rule}
use Rattle.stage_definitions.specs.NamedTrees.{NamedTerm, NamedFormula, NamedRule}
use Rattle.stage_definitions.specs.Numbering.{named_rule, named_theory, named_block, sentences_in, definitions_in}
use Rattle.stage_definitions.specs.Numbering.{NamedTheoryTree, NamedTermTree}
use Rattle.stage_definitions.specs.Numbering.{NamedFile, vocabulary_name, vocabulary_of, named_file, IsNamed}
use Rattle.stage_definitions.specs.Demands.{formula_parts, rule_parts, term_parts, number_demand, parts_of}
use Rattle.stage_definitions.specs.TypedFiles.{typed_definition, typed_theory, typed_block, typed_file}
use Rattle.stage_definitions.specs.TypedTrees.{typed_sentence, typed_rule, typed_block_term}
use Rattle.stage_definitions.specs.TypesStage.{TypeUse, is_type_clash, is_untyped, uses_among, sentence_settled}
use Rattle.stage_definitions.specs.TypesStage.{rule_settled, rule_type_uses, block_settled, theory_type_uses}
use Rattle.stage_definitions.specs.TypesStage.{block_type_uses, type_uses_of_file}
use Rattle.stage_definitions.specs.TypesStage.{TypesRefuse, type_clash, no_type}
use Rattle.reading_laws.specs.WellTyped.{IsWellTypedNumber, RuleIsTyped, IsWellTypedDefinition, IsWellTypedFile}
use Rattle.reading_laws.specs.WellTyped.{DerivedIsWellTyped}
use Rattle.reading_laws.proofs.Alls.{all_left, all_right, all_append, each_of}
use Rattle.reading_laws.proofs.Meanings.{IsFine, AreFine, IsMeaning, words_mean}
use Rattle.reading_laws.proofs.Numbered.{FormulaIsNumbered, TermIsNumbered, RuleIsNumbered, SymbolsHaveTypes}
use Rattle.reading_laws.proofs.Words.{symbols_have_types, formula_numbered, term_numbered}
use Rattle.reading_laws.proofs.NumberedRules.{rule_numbered}
use Rattle.reading_laws.proofs.Ranges.{settled_parts_below, as_parts, formula_below, term_below, number_below}
use Rattle.reading_laws.proofs.Ranges.{rule_below}
use Rattle.reading_laws.proofs.MetDemands.{IsTypeFine, AreTypesFine, parts_met, AreMet}
use Rattle.reading_laws.proofs.Typed.{Asked, formula_typed, term_typed, number_met}
use Rattle.reading_laws.proofs.TypedRules.{rule_typed}

-- ---- the stage of names

-- a theory whose numbers stand for what is declared
pub record TheoryIsNumbered (v : Vocabulary) (t : NamedTheoryTree) : Type 0 where
  pub sentences : AllByRecursion (FormulaIsNumbered v 0) t.sentences
  pub definitions : AllByRecursion (AllByRecursion (RuleIsNumbered v)) t.definitions

-- a file whose numbers stand for what is declared
pub record IsNumberedFile (n : NamedFile) : Type 0 where
  pub symbols : SymbolsHaveTypes n.vocabulary
  pub theories : AllByRecursion (TheoryIsNumbered n.vocabulary) n.theories
  pub terms : AllByRecursion (λ t. TermIsNumbered n.vocabulary 0 t.term) n.terms

pub names_fine : (f : File) → ((q : KbFault) → NamesRefuse f q → ⊥)
    → AreFine (names_of (declarations_of f.vocabularies)) (uses_of_file f)
names_fine f accepted =
    let names = names_of (declarations_of f.vocabularies) in
    in_all (IsFine names) (uses_of_file f) (λ u c. record {
      known = false_from_ne_true (is_unknown names u) (λ h. accepted _ (unknown_name u c h));
      right = false_from_ne_true (is_wrong names u) (λ h. accepted _ (wrong_arity u c h));
      supported = false_from_ne_true (is_unsupported names u) (λ h. accepted _ (unsupported u c h));
      few = false_from_ne_true (is_too_many u) (λ h. accepted _ (too_large u c h));
      plain = false_from_ne_true (is_bad_head names u) (λ h. accepted _ (bad_head u c h));
    })

module _ (v : Vocabulary) (names : Names) (means : (k : ℕ) (w : Text)
    → IsMeaning v.types v.symbols k (meaning_of names w)) where
  abbrev SentencesAreNumbered : List NamedFormula → Type 0
  SentencesAreNumbered fs = AllByRecursion (FormulaIsNumbered v 0) fs

  rules_numbered : (defined : List Text) (rs : List Rule) → AreFine names (flat_map (uses_in_rule names defined) rs)
      → AllByRecursion (RuleIsNumbered v) (map (named_rule names) rs)
  rules_numbered defined [] fine = tt
  rules_numbered defined (r ∷ rs) fine =
      let own = uses_in_rule names defined r in
      let later = flat_map (uses_in_rule names defined) rs in (
        rule_numbered v names means defined r (all_left (IsFine names) own later fine),
        rules_numbered defined rs (all_right (IsFine names) own later fine),
      )

  part_sentences : (p : Part) → AreFine names (uses_in_part names p) → SentencesAreNumbered (sentences_in names p)
  part_sentences (sentence f) fine = (formula_numbered v names means (in_scope []) f fine, tt)
  part_sentences (definition rs) fine = tt

  part_definitions : (p : Part) → AreFine names (uses_in_part names p)
      → AllByRecursion (AllByRecursion (RuleIsNumbered v)) (definitions_in names p)
  part_definitions (sentence f) fine = tt
  part_definitions (definition rs) fine = (rules_numbered (map head_word rs) rs fine, tt)

  parts_numbered : {X : Type 0} (P : X → Type 0) (found : Part → List X)
      → ((p : Part) → AreFine names (uses_in_part names p) → AllByRecursion P (found p))
      → (ps : List Part) → AreFine names (flat_map (uses_in_part names) ps) → AllByRecursion P (flat_map found ps)
  parts_numbered P found each [] fine = tt
  parts_numbered P found each (p ∷ ps) fine =
      let own = uses_in_part names p in
      let later = flat_map (uses_in_part names) ps in
      all_append P (found p) (flat_map found ps) (each p (all_left (IsFine names) own later fine))
      (parts_numbered P found each ps (all_right (IsFine names) own later fine))

  theories_numbered : (ts : List TheoryBlock) → AreFine names (flat_map (uses_in_theory names) ts)
      → AllByRecursion (TheoryIsNumbered v) (map (named_theory names) ts)
  theories_numbered [] fine = tt
  theories_numbered (t ∷ ts) fine =
      let later = flat_map (uses_in_theory names) ts in
      let own = all_left (IsFine names) (uses_in_theory names t) later fine in (
        record {
          sentences = parts_numbered (FormulaIsNumbered v 0) (sentences_in names) part_sentences t.parts own;
          definitions = parts_numbered (AllByRecursion (RuleIsNumbered v)) (definitions_in names) part_definitions
              t.parts own;
        },
        theories_numbered ts (all_right (IsFine names) (uses_in_theory names t) later fine),
      )

  blocks_numbered : (bs : List TermBlock) → AreFine names (flat_map uses_in_block bs)
      → AllByRecursion (λ t. TermIsNumbered v 0 t.term) (map (named_block names) bs)
  blocks_numbered [] fine = tt
  blocks_numbered (b ∷ bs) fine = (
    term_numbered v names means Side (in_scope []) b.term (all_left (IsFine names) (uses_in_block b)
        (flat_map uses_in_block bs) fine),
    blocks_numbered bs (all_right (IsFine names) (uses_in_block b) (flat_map uses_in_block bs) fine),
  )

file_numbered : (f : File) → ((q : KbFault) → NamesRefuse f q → ⊥)
    → IsNumberedFile (named_file (vocabulary_name f.vocabularies) (declarations_of f.vocabularies) f.theories f.terms)
file_numbered f accepted =
    let ds = declarations_of f.vocabularies in
    let names = names_of ds in
    let v = vocabulary_of (vocabulary_name f.vocabularies) ds in
    let fine = names_fine f accepted in
    let theories = flat_map (uses_in_theory names) f.theories in
    let blocks = flat_map uses_in_block f.terms in
    let first = declared_uses number_types (declared_names 0 0 ds) in
    let second = uses_in_declarations 0 0 ds in
    let declared = all_left (IsFine names) (uses_of_declarations ds) (theories ++ blocks) fine in
    let counted = all_right (IsFine names) first second (all_left (IsFine names) (first ++ second)
    (cycle_uses ds) declared) in
    let means : (k : ℕ) (w : Text) → IsMeaning v.types v.symbols k (meaning_of names w) =
    λ k w. words_mean names ds k refl counted w in
    let rest = all_right (IsFine names) (uses_of_declarations ds) (theories ++ blocks) fine in
    record {
      symbols = symbols_have_types v names means ds 0 0 counted;
      theories = theories_numbered v names means f.theories (all_left (IsFine names) theories blocks rest);
      terms = blocks_numbered v names means f.terms (all_right (IsFine names) theories blocks rest);
    }

pub named_is_numbered : (f : File) (n : NamedFile) → IsNamed f n → IsNumberedFile n
named_is_numbered f n named = subst IsNumberedFile (sym named.tree) (file_numbered f named.accepted)

-- ---- the stage of types

types_fine : (n : NamedFile) → ((q : KbFault) → TypesRefuse n q → ⊥)
    → AreTypesFine n.vocabulary.types (type_uses_of_file n)
types_fine n accepted =
    let types = n.vocabulary.types in
    in_all (IsTypeFine types) (type_uses_of_file n) (λ u c. record {
      whole = false_from_ne_true (is_type_clash types u) (λ h. accepted _ (type_clash u c h));
      typed = false_from_ne_true (is_untyped u) (λ h. accepted _ (no_type u c h));
    })

-- a theory is well typed
abbrev pub TheoryIsTyped : Vocabulary → TheoryTree → Type 0
TheoryIsTyped v t =
    AllByRecursion (λ g. IsWellTyped v g []) t.sentences × AllByRecursion (IsWellTypedDefinition v) t.definitions

module _ (v : Vocabulary) (sound : SymbolsHaveTypes v) where
  sentence_typed : (g : NamedFormula) → FormulaIsNumbered v 0 g
      → AreTypesFine v.types (uses_among [] (sentence_settled v g)) → IsWellTyped v (typed_sentence v g) []
  sentence_typed g h fine =
      let ps = formula_parts v.symbols g in
      let below = settled_parts_below v.types (length v.types) (parts_of ps)
      (as_parts (length v.types) ps (formula_below v sound 0 g h)) in
      let met : AreMet v.types [] [] ps = parts_met v.types [] (sentence_settled v g) fine below in
      formula_typed v [] [] g h met

  block_typed : (t : NamedTerm) → TermIsNumbered v 0 t → AreTypesFine v.types (uses_among [] (block_settled v t))
      → IsWellTypedNumber v (typed_block_term v t)
  block_typed t h fine =
      let ps = number_demand v.symbols t ∷ term_parts v.symbols t in
      let below = settled_parts_below v.types (length v.types) (parts_of ps)
      (as_parts (length v.types) ps (number_below v sound 0 t h, term_below v sound 0 t h)) in
      let met : AreMet v.types [] [] ps = parts_met v.types [] (block_settled v t) fine below in
      (term_typed v [] [] t h met.1, number_met v [] [] t h met.0)

  abbrev uses_of_sentence : NamedFormula → List TypeUse
  uses_of_sentence g = uses_among [] (sentence_settled v g)

  sentences_typed : (gs : List NamedFormula) → AllByRecursion (FormulaIsNumbered v 0) gs
      → AreTypesFine v.types (flat_map uses_of_sentence gs)
      → AllByRecursion (λ g. IsWellTyped v g []) (map (typed_sentence v) gs)
  sentences_typed [] h fine = tt
  sentences_typed (g ∷ gs) h fine = (
    sentence_typed g h.0 (all_left (IsTypeFine v.types) (uses_of_sentence g) (flat_map uses_of_sentence gs) fine),
    sentences_typed gs h.1 (all_right (IsTypeFine v.types) (uses_of_sentence g) (flat_map uses_of_sentence gs) fine),
  )

  one_rule_typed : (r : NamedRule) → RuleIsNumbered v r → AreTypesFine v.types (rule_type_uses v r)
      → RuleIsTyped v (Asked v) (typed_rule v r)
  one_rule_typed r h fine =
      let ps = rule_parts v.symbols r in
      let below = settled_parts_below v.types (length v.types) (parts_of ps)
      (as_parts (length v.types) ps (rule_below v sound r h)) in
      let met : AreMet v.types [] [] ps = parts_met v.types [] (rule_settled v r) fine below in
      rule_typed v r h met

  rules_typed : (rs : List NamedRule) → AllByRecursion (RuleIsNumbered v) rs
      → AreTypesFine v.types (flat_map (rule_type_uses v) rs)
      → AllByRecursion (RuleIsTyped v (Asked v)) (map (typed_rule v) rs)
  rules_typed [] h fine = tt
  rules_typed (r ∷ rs) h fine =
      let later = flat_map (rule_type_uses v) rs in (
        one_rule_typed r h.0 (all_left (IsTypeFine v.types) (rule_type_uses v r) later fine),
        rules_typed rs h.1 (all_right (IsTypeFine v.types) (rule_type_uses v r) later fine),
      )

  abbrev uses_of_rules : List NamedRule → List TypeUse
  uses_of_rules rs = flat_map (rule_type_uses v) rs

  definitions_typed : (ds : List (List NamedRule)) → AllByRecursion (AllByRecursion (RuleIsNumbered v)) ds
      → AreTypesFine v.types (flat_map uses_of_rules ds)
      → AllByRecursion (IsWellTypedDefinition v) (map (typed_definition v) ds)
  definitions_typed [] h fine = tt
  definitions_typed (rs ∷ ds) h fine = (
    rules_typed rs h.0 (all_left (IsTypeFine v.types) (uses_of_rules rs) (flat_map uses_of_rules ds) fine),
    definitions_typed ds h.1 (all_right (IsTypeFine v.types) (uses_of_rules rs) (flat_map uses_of_rules ds) fine),
  )

  abbrev uses_of_theory : NamedTheoryTree → List TypeUse
  uses_of_theory t = flat_map uses_of_sentence t.sentences ++ flat_map uses_of_rules t.definitions

  theory_typed : (t : NamedTheoryTree) → TheoryIsNumbered v t → AreTypesFine v.types (uses_of_theory t)
      → TheoryIsTyped v (typed_theory v t).theory
  theory_typed t h fine =
      let own = flat_map uses_of_sentence t.sentences in
      let rules = flat_map uses_of_rules t.definitions in (
        sentences_typed t.sentences h.sentences (all_left (IsTypeFine v.types) own rules fine),
        definitions_typed t.definitions h.definitions (all_right (IsTypeFine v.types) own rules fine),
      )

  theories_typed : (ts : List NamedTheoryTree) → AllByRecursion (TheoryIsNumbered v) ts
      → AreTypesFine v.types (flat_map uses_of_theory ts) → AllByRecursion (λ t. TheoryIsTyped v t.theory)
      (map (typed_theory v) ts)
  theories_typed [] h fine = tt
  theories_typed (t ∷ ts) h fine = (
    theory_typed t h.0 (all_left (IsTypeFine v.types) (uses_of_theory t) (flat_map uses_of_theory ts) fine),
    theories_typed ts h.1 (all_right (IsTypeFine v.types) (uses_of_theory t) (flat_map uses_of_theory ts) fine),
  )

  abbrev uses_of_block : NamedTermTree → List TypeUse
  uses_of_block b = uses_among [] (block_settled v b.term)

  blocks_typed : (bs : List NamedTermTree) → AllByRecursion (λ b. TermIsNumbered v 0 b.term) bs
      → AreTypesFine v.types (flat_map uses_of_block bs)
      → AllByRecursion (λ b. IsWellTypedNumber v b.term) (map (typed_block v) bs)
  blocks_typed [] h fine = tt
  blocks_typed (b ∷ bs) h fine = (
    block_typed b.term h.0 (all_left (IsTypeFine v.types) (uses_of_block b) (flat_map uses_of_block bs) fine),
    blocks_typed bs h.1 (all_right (IsTypeFine v.types) (uses_of_block b) (flat_map uses_of_block bs) fine),
  )

file_typed : (n : NamedFile) → IsNumberedFile n → ((q : KbFault) → TypesRefuse n q → ⊥) → IsWellTypedFile (typed_file n)
file_typed n sound accepted =
    let v = n.vocabulary in
    let fine = types_fine n accepted in
    let theories = flat_map (theory_type_uses n) n.theories in
    let blocks = flat_map (block_type_uses n) n.terms in
    let typed = theories_typed v sound.symbols n.theories sound.theories
    (all_left (IsTypeFine v.types) theories blocks fine) in
    record {
      theories = each_of (λ t. AllByRecursion (λ g. IsWellTyped v g []) t.theory.sentences)
          (λ t. TheoryIsTyped v t.theory) (λ t h. h.0) (map (typed_theory v) n.theories) typed;
      definitions = each_of (λ t. AllByRecursion (IsWellTypedDefinition v) t.theory.definitions)
          (λ t. TheoryIsTyped v t.theory) (λ t h. h.1) (map (typed_theory v) n.theories) typed;
      terms = blocks_typed v sound.symbols n.terms sound.terms (all_right (IsTypeFine v.types) theories blocks fine);
    }

pub derived_is_well_typed : DerivedIsWellTyped
derived_is_well_typed f n typed named_of typed_of =
    subst IsWellTypedFile (sym typed_of.tree) (file_typed n (named_is_numbered f n named_of) typed_of.accepted)
