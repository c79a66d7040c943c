-- The text of a formula over a vocabulary is that of its words.
use Rattle.std.proofs.Common.{◌≡◌, ℕ, List, [], ◌∷◌, ◌++◌, refl, sym, ap, append_assoc}
use Rattle.std.specs.Prelude.{pos, negsuc, slice_get, codes}
use Rattle.std.proofs.lemmas.List.{append-nil}
use Rattle.kb_logic.specs.declared.syntax.AggKind.TheVariants as kind
use Rattle.kb_logic.specs.declared.syntax.Cmp.{Cmp}
use Rattle.kb_logic.specs.declared.syntax.Cmp.TheVariants as c
use Rattle.kb_logic.specs.declared.vocabularies.Bound.{Bound}
use Rattle.kb_logic.specs.declared.vocabularies.Vocabulary.{Vocabulary}
use Rattle.kb_logic.specs.Trees as tree
use Rattle.kb_logic.specs.Trees.{TermTree, TermTrees, SummandTrees, FormulaTree, FormulaTrees}
use Rattle.stage_definitions.specs.Names.{Names}
use Rattle.printed_texts.specs.Formulas.{Fm, Tm, cmp_text}
use Rattle.printed_texts.specs.FormulaTexts.{binders_text, fm_text, fms_text, tm_text, tms_text, others_text}
use Rattle.printed_texts.specs.FormulaTexts.{summands_text, factors_text}
use Rattle.printed_texts.specs.FormulaPrints as print
use Rattle.printed_texts.specs.FormulaPrints.{bound_text, bounds_text, bound_names, cmp_sign, formula_text}
use Rattle.printed_texts.specs.FormulaPrints.{later_formulas, term_text, arguments_text, later_terms, later_summands}
use Rattle.printed_texts.specs.Speaking.{sign_of, speak_bounds, speak_fm, speak_more, speak_tm, speak_tms, speak_others}
use Rattle.printed_texts.specs.Speaking.{speak_summands, speak_factors, Said, SaidAll, SaidTerm, SaidTerms}
use Rattle.printed_texts.specs.Speaking.{SaidSummands}

sign_text : (x : Cmp) → cmp_text (sign_of x) ≡ cmp_sign x
sign_text c.Eq = refl
sign_text c.Ne = refl
sign_text c.Lt = refl
sign_text c.Gt = refl
sign_text c.Le = refl
sign_text c.Ge = refl

module _ (v : Vocabulary) (names : Names) where
  bounds_spoken : (b : Bound) (bs : List Bound) → binders_text (speak_bounds v b bs) ≡ bounds_text v (b ∷ bs)
  bounds_spoken b [] = sym (append-nil (bound_text v b))
  bounds_spoken b (d ∷ ds) = ap (λ (t : List ℕ). bound_text v b ++ (codes " " ++ t)) (bounds_spoken d ds)

  mutual
    pub text_spoken : (scope : List (List ℕ)) (f : FormulaTree) → Said v names scope f
        → fm_text (speak_fm v scope f) ≡ formula_text v scope f
    text_spoken scope tree.verum h = refl
    text_spoken scope tree.falsum h = refl
    text_spoken scope (tree.atom s ts) h = rw (terms_spoken scope (print.symbol_word v s) ts h.1) refl
    text_spoken scope (tree.comparison x a b) h =
        rw (sign_text x, term_spoken scope a h.0, term_spoken scope b h.1) refl
    text_spoken scope (tree.negation f) h = rw (text_spoken scope f h) refl
    text_spoken scope (tree.conjunction tree.no_formulas) h = absurd h
    text_spoken scope (tree.conjunction (tree.more_formulas f tree.no_formulas)) h = absurd h
    text_spoken scope (tree.conjunction (tree.more_formulas f (tree.more_formulas g gs))) h =
        simp (
          append_assoc,
          text_spoken scope f h.0,
          more_spoken scope (codes "&") (speak_fm v scope g) gs h.2,
          text_spoken scope g h.1,
        )
    text_spoken scope (tree.disjunction tree.no_formulas) h = absurd h
    text_spoken scope (tree.disjunction (tree.more_formulas f tree.no_formulas)) h = absurd h
    text_spoken scope (tree.disjunction (tree.more_formulas f (tree.more_formulas g gs))) h =
        simp (
          append_assoc,
          text_spoken scope f h.0,
          more_spoken scope (codes "|") (speak_fm v scope g) gs h.2,
          text_spoken scope g h.1,
        )
    text_spoken scope (tree.implication f g) h = rw (text_spoken scope f h.0, text_spoken scope g h.1) refl
    text_spoken scope (tree.equivalence f g) h = rw (text_spoken scope f h.0, text_spoken scope g h.1) refl
    text_spoken scope (tree.universal [] f) h = absurd h.0
    text_spoken scope (tree.universal (b ∷ bs) f) h =
        rw (bounds_spoken b bs, text_spoken (scope ++ bound_names (b ∷ bs)) f h.1) refl
    text_spoken scope (tree.existential [] f) h = absurd h.0
    text_spoken scope (tree.existential (b ∷ bs) f) h =
        rw (bounds_spoken b bs, text_spoken (scope ++ bound_names (b ∷ bs)) f h.1) refl
    text_spoken scope (tree.numbered x (pos n) [] f) h = absurd h.1
    text_spoken scope (tree.numbered x (pos n) (b ∷ bs) f) h =
        rw (sign_text x, bounds_spoken b bs, text_spoken (scope ++ bound_names (b ∷ bs)) f h.2) refl
    text_spoken scope (tree.numbered x (negsuc n) bs f) h = absurd h

    more_spoken : (scope : List (List ℕ)) (sign : List ℕ) (x : Fm) (gs : FormulaTrees) → SaidAll v names scope gs
        → fms_text sign (speak_more v scope x gs) ≡ fm_text x ++ later_formulas v scope
        (codes " " ++ (sign ++ codes " ")) gs
    more_spoken scope sign x tree.no_formulas h = sym (append-nil (fm_text x))
    more_spoken scope sign x (tree.more_formulas g gs) h =
        simp (append_assoc, more_spoken scope sign (speak_fm v scope g) gs h.1, text_spoken scope g h.0)

    term_spoken : (scope : List (List ℕ)) (x : TermTree) → SaidTerm v names scope x
        → tm_text (speak_tm v scope x) ≡ term_text v scope x
    term_spoken scope (tree.variable n) h = append-nil (print.scope_word scope n)
    term_spoken scope (tree.integer (pos n)) h = refl
    term_spoken scope (tree.integer (negsuc n)) h = absurd h
    term_spoken scope (tree.constructed t i) h = append-nil (print.made_in (slice_get v.types t) i)
    term_spoken scope (tree.application s ts) h = rw (terms_spoken scope (print.symbol_word v s) ts h.1) refl
    term_spoken scope (tree.summation tree.no_summands) h = absurd h
    term_spoken scope (tree.summation (tree.more_summands m x ss)) h =
        simp (append_assoc, term_spoken scope x h.0, summands_spoken scope ss h.1)
    term_spoken scope (tree.product tree.no_terms) h = absurd h
    term_spoken scope (tree.product (tree.more_terms x tree.no_terms)) h = absurd h
    term_spoken scope (tree.product (tree.more_terms x (tree.more_terms y ys))) h =
        simp (
          append_assoc,
          term_spoken scope x h.0,
          factors_spoken scope (speak_tm v scope y) ys h.2,
          term_spoken scope y h.1,
        )
    term_spoken scope (tree.aggregate k [] f x) h = absurd h.1
    term_spoken scope (tree.aggregate kind.Count (b ∷ bs) f x) h =
        rw (bounds_spoken b bs, text_spoken (scope ++ bound_names (b ∷ bs)) f h.2) refl
    term_spoken scope (tree.aggregate kind.Sum (b ∷ bs) f x) h =
        rw (
          bounds_spoken b bs,
          text_spoken (scope ++ bound_names (b ∷ bs)) f h.2,
          term_spoken
              (scope ++ bound_names (b ∷ bs)) x h.3,
        ) refl
    term_spoken scope (tree.aggregate kind.Min (b ∷ bs) f x) h =
        rw (
          bounds_spoken b bs,
          text_spoken (scope ++ bound_names (b ∷ bs)) f h.2,
          term_spoken
              (scope ++ bound_names (b ∷ bs)) x h.3,
        ) refl
    term_spoken scope (tree.aggregate kind.Max (b ∷ bs) f x) h =
        rw (
          bounds_spoken b bs,
          text_spoken (scope ++ bound_names (b ∷ bs)) f h.2,
          term_spoken
              (scope ++ bound_names (b ∷ bs)) x h.3,
        ) refl

    terms_spoken : (scope : List (List ℕ)) (n : List ℕ) (xs : TermTrees) → SaidTerms v names scope xs
        → tms_text n (speak_tms v scope xs) ≡ arguments_text v scope n xs
    terms_spoken scope n tree.no_terms h = refl
    terms_spoken scope n (tree.more_terms x xs) h = rw (term_spoken scope x h.0, others_spoken scope xs h.1) refl

    others_spoken : (scope : List (List ℕ)) (xs : TermTrees) → SaidTerms v names scope xs
        → others_text (speak_others v scope xs) ≡ later_terms v scope (codes ",") xs
    others_spoken scope tree.no_terms h = refl
    others_spoken scope (tree.more_terms x xs) h = rw (term_spoken scope x h.0, others_spoken scope xs h.1) refl

    summands_spoken : (scope : List (List ℕ)) (ss : SummandTrees) → SaidSummands v names scope ss
        → summands_text (speak_summands v scope ss) ≡ later_summands v scope ss
    summands_spoken scope tree.no_summands h = refl
    summands_spoken scope (tree.more_summands m x ss) h =
        rw (term_spoken scope x h.0, summands_spoken scope ss h.1) refl

    factors_spoken : (scope : List (List ℕ)) (x : Tm) (ys : TermTrees) → SaidTerms v names scope ys
        → factors_text (speak_factors v scope x ys) ≡ tm_text x ++ later_terms v scope (codes " * ") ys
    factors_spoken scope x tree.no_terms h = sym (append-nil (tm_text x))
    factors_spoken scope x (tree.more_terms y ys) h =
        simp (append_assoc, factors_spoken scope (speak_tm v scope y) ys h.1, term_spoken scope y h.0)
