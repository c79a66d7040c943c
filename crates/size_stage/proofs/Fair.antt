-- Occurrences under a number of assignments that stops are the same, where they stop too.
use Rattle.std.proofs.Common.{ℕ, ◌*◌, List, length, refl, sym, ap, ◌∙◌}
use Rattle.kb_logic.specs.declared.elements.Elem.{Elem}
use Rattle.kb_logic.specs.declared.vocabularies.Vocabulary.{Vocabulary}
use Rattle.kb_logic.specs.Trees.{TermTree, variable, integer, constructed, application, summation, product, aggregate}
use Rattle.kb_logic.specs.Trees.{TermTrees, no_terms, more_terms, SummandTrees, no_summands, more_summands, FormulaTree}
use Rattle.kb_logic.specs.Trees.{verum, falsum, atom, comparison, negation, conjunction, disjunction, implication}
use Rattle.kb_logic.specs.Trees.{equivalence, universal, existential, numbered, FormulaTrees, no_formulas}
use Rattle.kb_logic.specs.Trees.{more_formulas}
use Rattle.kb_logic.specs.Structures.{choices}
use Rattle.kb_logic.specs.Weights.{application_count, applications_count, term_occurrences, terms_occurrences}
use Rattle.kb_logic.specs.Weights.{summands_occurrences, occurrences, all_occurrences}
use Rattle.stage_definitions.specs.SizesStage.{capped}
use Rattle.size_stage.proofs.Capping.{Same, again, plus_same, times_same}

-- counted under a binder
inside : (count : ℕ → ℕ) → ((m : ℕ) → Same (count (capped m)) (count m)) → (n l : ℕ)
    → Same (count (capped n * l)) (count (n * l))
inside count fair n l = sym (fair (capped n * l)) ∙ ap (λ m. capped (count m))
    (times_same (capped n) n l l (again n) refl) ∙ fair (n * l)

mutual
  pub formula_fair : (v : Vocabulary) (domains : List (List Elem)) (f : FormulaTree) (n : ℕ)
      → Same (occurrences v domains f (capped n)) (occurrences v domains f n)
  formula_fair v domains verum n = again n
  formula_fair v domains falsum n = again n
  formula_fair v domains (atom s ts) n =
      plus_same _ _ _ _ (times_same _ _ (applications_count v domains ts) _ (again n) refl) (terms_fair v domains ts n)
  formula_fair v domains (comparison c a b) n =
      plus_same _ _ _ _ (plus_same _ _ _ _ (times_same _ _ (application_count v domains a * application_count v domains
      b) _ (again n) refl) (term_fair v domains a n)) (term_fair v domains b n)
  formula_fair v domains (negation f) n = plus_same _ _ _ _ (again n) (formula_fair v domains f n)
  formula_fair v domains (conjunction fs) n = plus_same _ _ _ _ (again n) (formulas_fair v domains fs n)
  formula_fair v domains (disjunction fs) n = plus_same _ _ _ _ (again n) (formulas_fair v domains fs n)
  formula_fair v domains (implication f g) n = plus_same _ _ _ _
      (plus_same _ _ _ _ (again n) (formula_fair v domains f n)) (formula_fair v domains g n)
  formula_fair v domains (equivalence f g) n = plus_same _ _ _ _
      (plus_same _ _ _ _ (again n) (formula_fair v domains f n)) (formula_fair v domains g n)
  formula_fair v domains (universal bs f) n = plus_same _ _ _ _ (again n)
      (inside (occurrences v domains f) (formula_fair v domains f) n (length (choices domains bs)))
  formula_fair v domains (existential bs f) n = plus_same _ _ _ _ (again n)
      (inside (occurrences v domains f) (formula_fair v domains f) n (length (choices domains bs)))
  formula_fair v domains (numbered c k bs f) n = plus_same _ _ _ _ (again n)
      (inside (occurrences v domains f) (formula_fair v domains f) n (length (choices domains bs)))

  formulas_fair : (v : Vocabulary) (domains : List (List Elem)) (fs : FormulaTrees) (n : ℕ)
      → Same (all_occurrences v domains fs (capped n)) (all_occurrences v domains fs n)
  formulas_fair v domains no_formulas n = refl
  formulas_fair v domains (more_formulas f fs) n = plus_same _ _ _ _ (formula_fair v domains f n)
      (formulas_fair v domains fs n)

  pub term_fair : (v : Vocabulary) (domains : List (List Elem)) (t : TermTree) (n : ℕ)
      → Same (term_occurrences v domains t (capped n)) (term_occurrences v domains t n)
  term_fair v domains (variable k) n = refl
  term_fair v domains (integer z) n = refl
  term_fair v domains (constructed ty k) n = refl
  term_fair v domains (application s ts) n = terms_fair v domains ts n
  term_fair v domains (summation ss) n = summands_fair v domains ss n
  term_fair v domains (product ts) n = terms_fair v domains ts n
  term_fair v domains (aggregate k bs f t) n =
      let l = length (choices domains bs) in
      plus_same _ _ _ _
      (plus_same _ _ _ _ (times_same _ _ (application_count v domains t) _ (times_same _ _ l _ (again n) refl) refl)
      (inside (occurrences v domains f) (formula_fair v domains f) n l))
      (inside (term_occurrences v domains t) (term_fair v domains t) n l)

  terms_fair : (v : Vocabulary) (domains : List (List Elem)) (ts : TermTrees) (n : ℕ)
      → Same (terms_occurrences v domains ts (capped n)) (terms_occurrences v domains ts n)
  terms_fair v domains no_terms n = refl
  terms_fair v domains (more_terms t ts) n = plus_same _ _ _ _ (term_fair v domains t n) (terms_fair v domains ts n)

  summands_fair : (v : Vocabulary) (domains : List (List Elem)) (ss : SummandTrees) (n : ℕ)
      → Same (summands_occurrences v domains ss (capped n)) (summands_occurrences v domains ss n)
  summands_fair v domains no_summands n = refl
  summands_fair v domains (more_summands m t ss) n = plus_same _ _ _ _ (term_fair v domains t n)
      (summands_fair v domains ss n)
