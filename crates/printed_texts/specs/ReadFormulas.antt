-- Laws of formulas that are printed.
use Rattle.std.specs.Prelude.{◌≡◌, List, []}
use Rattle.kb_text.specs.Depth.{outermost}
use Rattle.kb_text.specs.Tokens.{AreShallow, TokensFrom}
use Rattle.kb_logic.specs.declared.vocabularies.Vocabulary.{Vocabulary}
use Rattle.kb_logic.specs.Trees.{FormulaTree}
use Rattle.grammar.specs.Terminals.{Tok}
use Rattle.grammar.specs.Trees.{Formula}
use Rattle.grammar.specs.Fine.{FineFormula}
use Rattle.grammar.specs.Spelling.{put_formula}
use Rattle.grammar.specs.Texts.{ParsesTo}
use Rattle.grammar.specs.Items.{IsTokens}
use Rattle.stage_definitions.specs.Names.{Names}
use Rattle.stage_definitions.specs.Numbering.{named_formula}
use Rattle.stage_definitions.specs.TypedTrees.{typed_formula}
use Rattle.printed_texts.specs.Written.{Part, lexemes_at, outcome_at}
use Rattle.printed_texts.specs.Formulas.{IsFm, write_fm}
use Rattle.printed_texts.specs.FormulaPrints.{formula_text}
use Rattle.printed_texts.specs.Speaking.{speak_fm, Said}

-- what can be read back: each number's word means that number among the names, and can be written
pub record IsSpoken (v : Vocabulary) (names : Names) (f : FormulaTree) : Type 0 where
  pub means : Said v names [] f
  pub words : IsFm (speak_fm v [] f)

-- the parts that write the formula
abbrev pub formula_parts : Vocabulary → FormulaTree → List Part
formula_parts v f = write_fm (speak_fm v [] f) []

-- The text is that of one tree of the grammar and of no other; by these names, and with the types that are written, the
-- tree is the formula.
pub record IsFormulaReadBack (v : Vocabulary) (names : Names) (f : FormulaTree) : Type 0 where
  pub tokens : List Tok
  pub scanned : IsTokens (formula_text v [] f) tokens
  pub tree : Formula
  pub spelled : ParsesTo put_formula FineFormula tokens tree
  pub only : (ts : List Tok) (g : Formula) → IsTokens (formula_text v [] f) ts
      → ParsesTo put_formula FineFormula ts g → g ≡ tree
  pub typed : typed_formula v [] (named_formula names [] tree) ≡ f

abbrev pub FormulasAreReadBack : Type 0
FormulasAreReadBack =
    (v : Vocabulary) (names : Names) (f : FormulaTree) → IsSpoken v names f
    → AreShallow outermost (lexemes_at 0 (formula_parts v f))
    → IsFormulaReadBack v names f

-- and where a token lies too deep, the first such token is refused, and nothing else
abbrev pub DepthAloneIsRefused : Type 0
DepthAloneIsRefused =
    (v : Vocabulary) (names : Names) (f : FormulaTree) → IsSpoken v names f
    → TokensFrom outermost 0 (formula_text v [] f) (outcome_at outermost 0 (formula_parts v f))
