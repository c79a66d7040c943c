-- What the stages of reading accept can be printed, and is read back.
use Rattle.std.specs.Prelude.{◌≡◌, ℕ, List, [], map}
use Rattle.std.specs.List.{AllByRecursion, filter_map}
use Rattle.kb_text.specs.Depth.{outermost}
use Rattle.kb_text.specs.Tokens.{AreShallow, TokensFrom}
use Rattle.kb_logic.specs.declared.vocabularies.Vocabulary.{Vocabulary}
use Rattle.kb_logic.specs.Trees.{TermTree, FormulaTree}
use Rattle.grammar.specs.BlockTrees.{Block}
use Rattle.grammar.specs.BlockView.{as_vocabulary}
use Rattle.stage_definitions.specs.FileTrees.{vocabulary_of}
use Rattle.stage_definitions.specs.Names.{Names, names_of}
use Rattle.stage_definitions.specs.NamesStage.{declarations_of}
use Rattle.stage_definitions.specs.TypedFiles.{TypedFile}
use Rattle.printed_texts.specs.Written.{lexemes_at, outcome_at}
use Rattle.reading_laws.specs.Words.{IsAccepted}
use Rattle.printed_texts.specs.Formulas.{IsTm}
use Rattle.printed_texts.specs.FormulaPrints.{formula_text}
use Rattle.printed_texts.specs.Speaking.{speak_tm, SaidTerm}
use Rattle.printed_texts.specs.ReadFormulas.{IsSpoken, formula_parts, IsFormulaReadBack}

-- what the words of the vocabulary among these blocks mean
abbrev pub names_in : List Block → Names
names_in blocks = names_of (declarations_of (map vocabulary_of (filter_map as_vocabulary blocks)))

-- a term that can be read back: each number's word means that number among the names, and can be written
pub record IsSpokenTerm (v : Vocabulary) (names : Names) (t : TermTree) : Type 0 where
  pub means : SaidTerm v names [] t
  pub words : IsTm (speak_tm v [] t)

-- each sentence of each theory can be read back, and so can the term of each term block
pub record IsSpokenFile (names : Names) (f : TypedFile) : Type 0 where
  pub sentences : AllByRecursion (λ t. AllByRecursion (IsSpoken f.vocabulary names) t.theory.sentences) f.theories
  pub terms : AllByRecursion (λ b. IsSpokenTerm f.vocabulary names b.term) f.terms

-- what the stages of names and types accept of the blocks of a text is spoken with the words of its own vocabulary
abbrev pub AcceptedAreSpoken : Type 0
AcceptedAreSpoken =
    (bytes : List ℕ) (blocks : List Block) (typed : TypedFile) → IsAccepted bytes blocks typed
    → IsSpokenFile (names_in blocks) typed

-- Where no token of the formula's text lies too deep, it is read back as the formula, and is the text of no other tree
-- of the grammar and of no other formula that is spoken; and where one does, the first such token is refused, and
-- nothing else.
pub record IsReadAgain (v : Vocabulary) (names : Names) (f : FormulaTree) : Type 0 where
  pub back : AreShallow outermost (lexemes_at 0 (formula_parts v f)) → IsFormulaReadBack v names f
  pub alone : AreShallow outermost (lexemes_at 0 (formula_parts v f)) → (g : FormulaTree) → IsSpoken v names g
      → formula_text v [] g ≡ formula_text v [] f → g ≡ f
  pub deep : TokensFrom outermost 0 (formula_text v [] f) (outcome_at outermost 0 (formula_parts v f))

-- so it is with each sentence of each theory
abbrev pub SentencesAreReadAgain : Names → TypedFile → Type 0
SentencesAreReadAgain names f =
    AllByRecursion (λ t. AllByRecursion (IsReadAgain f.vocabulary names) t.theory.sentences) f.theories

-- and so it is with what the stages of names and types accept
abbrev pub AcceptedAreReadAgain : Type 0
AcceptedAreReadAgain =
    (bytes : List ℕ) (blocks : List Block) (typed : TypedFile) → IsAccepted bytes blocks typed
    → SentencesAreReadAgain (names_in blocks) typed
