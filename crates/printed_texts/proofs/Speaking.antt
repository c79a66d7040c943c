-- What is spoken means the formula.
use Rattle.std.proofs.Common.{◌≡◌, ℕ, List, [], ◌∷◌, ◌++◌, refl, sym, ap, ◌∙◌}
use Rattle.std.specs.Prelude.{pos, negsuc}
use Rattle.kb_logic.specs.declared.syntax.AggKind.TheVariants as kind
use Rattle.kb_logic.specs.declared.syntax.Cmp.{Cmp}
use Rattle.kb_logic.specs.declared.syntax.Cmp.TheVariants as c
use Rattle.kb_logic.specs.declared.vocabularies.Bound.{Bound}
use Rattle.kb_logic.specs.declared.vocabularies.Vocabulary.{Vocabulary}
use Rattle.kb_logic.specs.Trees as tree
use Rattle.kb_logic.specs.Trees.{TermTree, TermTrees, SummandTrees, FormulaTree, FormulaTrees}
use Rattle.grammar.specs.Trees.{name}
use Rattle.stage_definitions.specs.Names.{Names, meaning_at}
use Rattle.stage_definitions.specs.Numbering.{comparison_of}
use Rattle.printed_texts.specs.Formulas.{Fm, Tm}
use Rattle.printed_texts.specs.Meanings.{bounds_of, binder_names, tms_count, node_meaning, fm_meaning, fms_meaning}
use Rattle.printed_texts.specs.Meanings.{tm_meaning, tms_meaning, others_meaning, summands_meaning, factors_meaning}
use Rattle.printed_texts.specs.FormulaPrints.{symbol_word, bound_names}
use Rattle.printed_texts.specs.Speaking.{sign_of, speak_bounds, speak_fm, speak_more, speak_tm, speak_tms, speak_others}
use Rattle.printed_texts.specs.Speaking.{speak_summands, speak_factors, SaidBounds, Said, SaidAll, SaidTerm, SaidTerms}
use Rattle.printed_texts.specs.Speaking.{SaidSummands}

sign_means : (x : Cmp) → comparison_of (sign_of x) ≡ x
sign_means c.Eq = refl
sign_means c.Ne = refl
sign_means c.Lt = refl
sign_means c.Gt = refl
sign_means c.Le = refl
sign_means c.Ge = refl

module _ (v : Vocabulary) (names : Names) where
  bounds_mean : (b : Bound) (bs : List Bound) → SaidBounds v names (b ∷ bs)
      → bounds_of names (speak_bounds v b bs) ≡ b ∷ bs
  bounds_mean b [] h = rw h.0 refl
  bounds_mean b (d ∷ ds) h = rw (h.0, bounds_mean d ds h.1) refl

  bounds_named : (b : Bound) (bs : List Bound) → binder_names (speak_bounds v b bs) ≡ bound_names (b ∷ bs)
  bounds_named b [] = refl
  bounds_named b (d ∷ ds) = rw (bounds_named d ds) refl

  mutual
    pub spoken : (scope : List (List ℕ)) (f : FormulaTree) → Said v names scope f
        → fm_meaning names scope (speak_fm v scope f) ≡ f
    spoken scope tree.verum h = refl
    spoken scope tree.falsum h = refl
    spoken scope (tree.atom s ts) h = rw (h.0, spoken_terms scope ts h.1) refl
    spoken scope (tree.comparison x a b) h = rw (sign_means x, spoken_term scope a h.0, spoken_term scope b h.1) refl
    spoken scope (tree.negation f) h = rw (spoken scope f h) refl
    spoken scope (tree.conjunction tree.no_formulas) h = absurd h
    spoken scope (tree.conjunction (tree.more_formulas f tree.no_formulas)) h = absurd h
    spoken scope (tree.conjunction (tree.more_formulas f (tree.more_formulas g gs))) h =
        rw (spoken scope f h.0, spoken_more scope (speak_fm v scope g) gs h.2, spoken scope g h.1) refl
    spoken scope (tree.disjunction tree.no_formulas) h = absurd h
    spoken scope (tree.disjunction (tree.more_formulas f tree.no_formulas)) h = absurd h
    spoken scope (tree.disjunction (tree.more_formulas f (tree.more_formulas g gs))) h =
        rw (spoken scope f h.0, spoken_more scope (speak_fm v scope g) gs h.2, spoken scope g h.1) refl
    spoken scope (tree.implication f g) h = rw (spoken scope f h.0, spoken scope g h.1) refl
    spoken scope (tree.equivalence f g) h = rw (spoken scope f h.0, spoken scope g h.1) refl
    spoken scope (tree.universal [] f) h = absurd h.0
    spoken scope (tree.universal (b ∷ bs) f) h =
        rw (bounds_mean b bs h.0, bounds_named b bs, spoken (scope ++ bound_names (b ∷ bs)) f h.1) refl
    spoken scope (tree.existential [] f) h = absurd h.0
    spoken scope (tree.existential (b ∷ bs) f) h =
        rw (bounds_mean b bs h.0, bounds_named b bs, spoken (scope ++ bound_names (b ∷ bs)) f h.1) refl
    spoken scope (tree.numbered x (pos n) [] f) h = absurd h.1
    spoken scope (tree.numbered x (pos n) (b ∷ bs) f) h =
        rw (
          sign_means x,
          h.0,
          bounds_mean b bs h.1,
          bounds_named b bs,
          spoken
              (scope ++ bound_names (b ∷ bs)) f h.2,
        ) refl
    spoken scope (tree.numbered x (negsuc n) bs f) h = absurd h

    spoken_more : (scope : List (List ℕ)) (x : Fm) (gs : FormulaTrees) → SaidAll v names scope gs
        → fms_meaning names scope (speak_more v scope x gs) ≡ tree.more_formulas (fm_meaning names scope x) gs
    spoken_more scope x tree.no_formulas h = refl
    spoken_more scope x (tree.more_formulas g gs) h =
        rw (spoken_more scope (speak_fm v scope g) gs h.1, spoken scope g h.0) refl

    spoken_term : (scope : List (List ℕ)) (x : TermTree) → SaidTerm v names scope x
        → tm_meaning names scope (speak_tm v scope x) ≡ x
    spoken_term scope (tree.variable n) h = h
    spoken_term scope (tree.integer (pos n)) h = rw h refl
    spoken_term scope (tree.integer (negsuc n)) h = absurd h
    spoken_term scope (tree.constructed t i) h = h
    spoken_term scope (tree.application s ts) h =
        ap (λ (us : TermTrees). node_meaning
        (meaning_at names scope (name (symbol_word v s) 0) (tms_count (speak_tms v scope ts))) us)
        (spoken_terms scope ts h.1) ∙ h.0
    spoken_term scope (tree.summation tree.no_summands) h = absurd h
    spoken_term scope (tree.summation (tree.more_summands m x ss)) h =
        rw (spoken_term scope x h.0, spoken_summands scope ss h.1) refl
    spoken_term scope (tree.product tree.no_terms) h = absurd h
    spoken_term scope (tree.product (tree.more_terms x tree.no_terms)) h = absurd h
    spoken_term scope (tree.product (tree.more_terms x (tree.more_terms y ys))) h =
        rw (spoken_term scope x h.0, spoken_factors scope (speak_tm v scope y) ys h.2, spoken_term scope y h.1) refl
    spoken_term scope (tree.aggregate k [] f x) h = absurd h.1
    spoken_term scope (tree.aggregate kind.Count (b ∷ bs) f x) h = let weight = sym h.0 in
        rw (bounds_mean b bs h.1, bounds_named b bs, spoken (scope ++ bound_names (b ∷ bs)) f h.2, weight) refl
    spoken_term scope (tree.aggregate kind.Sum (b ∷ bs) f x) h =
        rw (
          bounds_mean b bs h.1,
          bounds_named b bs,
          spoken (scope ++ bound_names (b ∷ bs)) f h.2,
          spoken_term
              (scope ++ bound_names (b ∷ bs)) x h.3,
        ) refl
    spoken_term scope (tree.aggregate kind.Min (b ∷ bs) f x) h =
        rw (
          bounds_mean b bs h.1,
          bounds_named b bs,
          spoken (scope ++ bound_names (b ∷ bs)) f h.2,
          spoken_term
              (scope ++ bound_names (b ∷ bs)) x h.3,
        ) refl
    spoken_term scope (tree.aggregate kind.Max (b ∷ bs) f x) h =
        rw (
          bounds_mean b bs h.1,
          bounds_named b bs,
          spoken (scope ++ bound_names (b ∷ bs)) f h.2,
          spoken_term
              (scope ++ bound_names (b ∷ bs)) x h.3,
        ) refl

    spoken_terms : (scope : List (List ℕ)) (xs : TermTrees) → SaidTerms v names scope xs
        → tms_meaning names scope (speak_tms v scope xs) ≡ xs
    spoken_terms scope tree.no_terms h = refl
    spoken_terms scope (tree.more_terms x xs) h = rw (spoken_term scope x h.0, spoken_others scope xs h.1) refl

    spoken_others : (scope : List (List ℕ)) (xs : TermTrees) → SaidTerms v names scope xs
        → others_meaning names scope (speak_others v scope xs) ≡ xs
    spoken_others scope tree.no_terms h = refl
    spoken_others scope (tree.more_terms x xs) h = rw (spoken_term scope x h.0, spoken_others scope xs h.1) refl

    spoken_summands : (scope : List (List ℕ)) (ss : SummandTrees) → SaidSummands v names scope ss
        → summands_meaning names scope (speak_summands v scope ss) ≡ ss
    spoken_summands scope tree.no_summands h = refl
    spoken_summands scope (tree.more_summands m x ss) h =
        rw (spoken_term scope x h.0, spoken_summands scope ss h.1) refl

    spoken_factors : (scope : List (List ℕ)) (x : Tm) (ys : TermTrees) → SaidTerms v names scope ys
        → factors_meaning names scope (speak_factors v scope x ys) ≡ tree.more_terms (tm_meaning names scope x) ys
    spoken_factors scope x tree.no_terms h = refl
    spoken_factors scope x (tree.more_terms y ys) h =
        rw (spoken_factors scope (speak_tm v scope y) ys h.1, spoken_term scope y h.0) refl
