-- Lists of operands, as loops see them.
use Rattle.std.proofs.Common.{◌≡◌, ◌<◌, ◌≤◌, ℕ, zero, suc, take, List, [], ◌∷◌, ◌++◌, length, map, flat_map, refl, sym}
use Rattle.std.proofs.Common.{ap, ◌∙◌, arith, append_assoc}
use Rattle.std.specs.Prelude.{codes}
use Rattle.kb_text.specs.Tokens.{unsupported_call_words}
use Rattle.kb_logic.specs.declared.vocabularies.Vocabulary.{Vocabulary}
use Rattle.kb_logic.specs.declared.syntax.Formula.{Formula}
use Rattle.kb_logic.specs.declared.syntax.Term.{Term}
use Rattle.kb_logic.specs.declared.syntax.Signed.{Signed}
use Rattle.kb_logic.specs.Trees.{formulas_of, terms_of, summands_of}
use Rattle.kb_logic.specs.Views.{formula_view, term_view, signed_view}
use Rattle.printed_texts.specs.Formulas.{add_text}
use Rattle.printed_texts.specs.FormulaTexts.{opened_text, spaced_text}
use Rattle.printed_texts.specs.FormulaPrints.{formula_text, later_formulas, term_text, later_terms, terms_text}
use Rattle.printed_texts.specs.FormulaPrints.{arguments_text, later_summands}

module _ (v : Vocabulary) (scope : List (List ℕ)) (sep : List ℕ) where
  pub formulas_later : (fs : List Formula) → later_formulas v scope sep (formulas_of (map formula_view fs))
      ≡ flat_map (λ f. sep ++ formula_text v scope (formula_view f)) fs
  formulas_later [] = refl
  formulas_later (f ∷ fs) = rw (formulas_later fs) (sym (append_assoc sep (formula_text v scope (formula_view f)) _))

  pub terms_later : (ts : List Term) → later_terms v scope sep (terms_of (map term_view ts))
      ≡ flat_map (λ t. sep ++ term_text v scope (term_view t)) ts
  terms_later [] = refl
  terms_later (t ∷ ts) = rw (terms_later ts) (sym (append_assoc sep (term_text v scope (term_view t)) _))

pub summands_later : (v : Vocabulary) (scope : List (List ℕ)) (ss : List Signed)
    → later_summands v scope (summands_of (map signed_view ss))
    ≡ flat_map (λ s. spaced_text (add_text (signed_view s).0) ++ term_text v scope (signed_view s).1) ss
summands_later v scope [] = refl
summands_later v scope (s ∷ ss) = rw (summands_later v scope ss)
    (sym (append_assoc (spaced_text (add_text (signed_view s).0)) (term_text v scope (signed_view s).1) _))

pub some_arguments : (v : Vocabulary) (scope : List (List ℕ)) (n : List ℕ) (ts : List Term) → 0 < length ts
    → arguments_text v scope n (terms_of (map term_view ts)) ≡ opened_text unsupported_call_words (codes "(") n ++
    (terms_text v scope (codes ",") (terms_of (map term_view ts)) ++ codes ")")
some_arguments v scope n [] lt = absurd (omega arith)
some_arguments v scope n (t ∷ ts) lt = simp append_assoc

taken : {A : Type 0} (xs : List A) (i : ℕ) → length xs ≤ i → take i xs ≡ xs
taken [] zero le = refl
taken [] (suc i) le = refl
taken (x ∷ xs) zero le = absurd (omega arith)
taken (x ∷ xs) (suc i) le = ap (λ (ys : List _). x ∷ ys) (taken xs i (omega arith))

-- what a loop over further operands leaves
pub listed : {A : Type 0} (text : A → List ℕ) (xs : List A) (i : ℕ) (before first after last : List ℕ) → length xs ≤ i
    → first ≡ before ++ last → after ≡ first ++ flat_map text (take i xs) → after ≡ before ++ (last ++ flat_map text xs)
listed text xs i before first after last le e f = f ∙ rw (taken xs i le, e)
    (append_assoc before last (flat_map text xs))

pub three : (out first second third a b c t : List ℕ) → t ≡ a ++ (b ++ c) → first ≡ out ++ a → second ≡ first ++ b
    → third ≡ second ++ c → third ≡ out ++ t
three out first second third a b c t e f g h = h ∙ rw (g, f, e) (simp append_assoc)
