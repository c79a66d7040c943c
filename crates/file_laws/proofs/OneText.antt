-- No two formulas that are spoken by the same names have one text in which no token lies too deep.
use Rattle.std.proofs.Common.{◌≡◌, ◌≤◌, ◌+◌, ℕ, Bool, true, false, nat_lt, List, [], ◌∷◌, length, if◌then◌else◌, Ok}
use Rattle.std.proofs.Common.{Err}
use Rattle.std.proofs.Common.{refl, sym, ap, subst, ◌∙◌}
use Rattle.kb_text.specs.declared.fault.K.TheVariants.{TooDeep}
use Rattle.kb_text.specs.Depth.{Around, outermost, depth_of, after_token}
use Rattle.kb_text.specs.Tokens.{Lexeme, Outcome, TokensFrom, AreShallow}
use Rattle.kb_text.proofs.Exact as tokens
use Rattle.kb_logic.specs.declared.vocabularies.Vocabulary.{Vocabulary}
use Rattle.kb_logic.specs.Trees.{FormulaTree}
use Rattle.grammar.specs.Items.{IsTokens}
use Rattle.grammar.specs.Trees.{Formula}
use Rattle.stage_definitions.specs.Names.{Names}
use Rattle.stage_definitions.specs.Numbering.{named_formula}
use Rattle.stage_definitions.specs.TypedTrees.{typed_formula}
use Rattle.printed_texts.specs.Written.{Part, gap, piece, lexemes_at, with_first, outcome_at}
use Rattle.printed_texts.specs.FormulaPrints.{formula_text}
use Rattle.printed_texts.specs.ReadFormulas.{IsSpoken, formula_parts}
use Rattle.printed_texts.proofs.FormulasReadBack.{formulas_are_read_back, depth_alone_is_refused}
use Rattle.reading_laws.proofs.Meanings.{no_more}

-- ---- where no token is refused, none lies too deep

has_rest : (l : Lexeme) (r : Outcome) (ts : List Lexeme) → with_first l r ≡ Ok ts → (us : List Lexeme) × (r ≡ Ok us)
has_rest l (Ok us) ts e = (us, refl)
has_rest l (Err f) ts e = absurd (cc)

shallow : (s : Around) (p : ℕ) (xs : List Part) (ts : List Lexeme) → outcome_at s p xs ≡ Ok ts
    → AreShallow s (lexemes_at p xs)
shallow s p [] ts e = tt
shallow s p (gap b ∷ xs) ts e = shallow s (p + 1) xs ts e
shallow s p (piece k text ∷ xs) ts e =
    by (shallow (after_token s k text) (p + length text) xs) (nat_lt 200 (depth_of s)) refl e
  where
    by : ((us : List Lexeme) → outcome_at (after_token s k text) (p + length text) xs ≡ Ok us
        → AreShallow (after_token s k text) (lexemes_at (p + length text) xs))
        → (b : Bool) → nat_lt 200 (depth_of s) ≡ b
        → (if b then Err (record { cause = TooDeep; place = p })
        else with_first (record { kind = k; text = text; start = p; stop = p + length text })
        (outcome_at (after_token s k text) (p + length text) xs)) ≡ Ok ts
        → (depth_of s ≤ 200) × AreShallow (after_token s k text) (lexemes_at (p + length text) xs)
    by go true deep h = absurd (cc)
    by go false deep h =
        let found = has_rest (record { kind = k; text = text; start = p; stop = p + length text })
        (outcome_at (after_token s k text) (p + length text) xs) ts h in
        (no_more (depth_of s) 200 deep, go found.0 found.1)

-- ---- one text

pub same_formula : (v : Vocabulary) (names : Names) (f : FormulaTree) → IsSpoken v names f
    → AreShallow outermost (lexemes_at 0 (formula_parts v f)) → (g : FormulaTree) → IsSpoken v names g
    → formula_text v [] g ≡ formula_text v [] f → g ≡ f
same_formula v names f h low g k same =
    let one = formulas_are_read_back v names f h low in
    let outcome = outcome_at outermost 0 (formula_parts v g) in
    let scanned : TokensFrom outermost 0 (formula_text v [] f) outcome =
    subst (λ (t : List ℕ). TokensFrom outermost 0 t outcome) same (depth_alone_is_refused v names g k) in
    let lexemes = one.scanned.lexemes in
    let read : Ok lexemes ≡ outcome = tokens.only one.scanned.scanned outcome scanned in
    let other = formulas_are_read_back v names g k (shallow outermost 0 (formula_parts v g) lexemes (sym read)) in
    let tree : other.tree ≡ one.tree =
    one.only other.tokens other.tree (subst (λ (t : List ℕ). IsTokens t other.tokens) same other.scanned)
    other.spelled in
    sym other.typed ∙ ap (λ (t : Formula). typed_formula v [] (named_formula names [] t)) tree ∙ one.typed
