-- A formula with words for numbers, as it is printed.
use Rattle.std.specs.Prelude.{◌≡◌, ℕ, ◌∷◌, ◌++◌, pos, negsuc, List, [], true, false, slice_get}
use Rattle.kb_logic.specs.declared.syntax.AggKind.{AggKind}
use Rattle.kb_logic.specs.declared.syntax.AggKind.TheVariants as kind
use Rattle.kb_logic.specs.declared.syntax.Cmp.{Cmp}
use Rattle.kb_logic.specs.declared.syntax.Cmp.TheVariants as c
use Rattle.kb_logic.specs.declared.vocabularies.Bound.{Bound}
use Rattle.kb_logic.specs.declared.vocabularies.Vocabulary.{Vocabulary}
use Rattle.kb_logic.specs.Trees as tree
use Rattle.kb_logic.specs.Trees.{TermTree, TermTrees, SummandTrees, FormulaTree, FormulaTrees}
use Rattle.grammar.specs.declared.terminal.Comparison.{Comparison}
use Rattle.grammar.specs.declared.terminal.Comparison.TheVariants as cmp
use Rattle.grammar.specs.declared.terminal.Aggregation.TheVariants as how
use Rattle.grammar.specs.Trees.{name}
use Rattle.stage_definitions.specs.Names.{Names, meaning_of, meaning_at}
use Rattle.stage_definitions.specs.Numbering.{type_number, predicate_number}
use Rattle.stage_definitions.specs.TypedTrees.{integer_of}
use Rattle.printed_texts.specs.Formulas.{Binder, binder, Binders, one_binder, more_binders, Fm, truth, atom, comparison}
use Rattle.printed_texts.specs.Formulas.{negation, conjunction, disjunction, implication, equivalence, universal}
use Rattle.printed_texts.specs.Formulas.{existential, numbered, Fms, one_fm, more_fms, Tm, application, integer}
use Rattle.printed_texts.specs.Formulas.{summation, product, count, aggregate, Tms, no_tms, some_tms, Others, no_others}
use Rattle.printed_texts.specs.Formulas.{more_others, Summands, no_summands, more_summands, Factors, one_factor}
use Rattle.printed_texts.specs.Formulas.{more_factors, unwritten, unwritten_term}
use Rattle.printed_texts.specs.Meanings.{tms_count, node_meaning}
use Rattle.printed_texts.specs.FormulaPrints.{symbol_word, type_word, made_in, scope_word, bound_names}

abbrev pub sign_of : Cmp → Comparison
sign_of c.Eq = cmp.Equal
sign_of c.Ne = cmp.NotEqual
sign_of c.Lt = cmp.Less
sign_of c.Gt = cmp.Greater
sign_of c.Le = cmp.AtMost
sign_of c.Ge = cmp.AtLeast

abbrev pub speak_bound : Vocabulary → Bound → Binder
speak_bound v b = binder b.name (type_word v b.ty)

abbrev pub speak_bounds : Vocabulary → Bound → List Bound → Binders
speak_bounds v b [] = one_binder (speak_bound v b)
speak_bounds v b (d ∷ ds) = more_binders (speak_bound v b) (speak_bounds v d ds)

abbrev pub speak_all : Vocabulary → List Bound → (Binders → Fm) → Fm
speak_all v [] by = unwritten
speak_all v (b ∷ bs) by = by (speak_bounds v b bs)

abbrev pub speak_term_of : Vocabulary → List Bound → (Binders → Tm) → Tm
speak_term_of v [] by = unwritten_term
speak_term_of v (b ∷ bs) by = by (speak_bounds v b bs)

abbrev pub speak_kind : AggKind → Binders → Fm → Tm → Tm
speak_kind kind.Count vs f x = count vs f
speak_kind kind.Sum vs f x = aggregate how.Sum vs f x
speak_kind kind.Min vs f x = aggregate how.Min vs f x
speak_kind kind.Max vs f x = aggregate how.Max vs f x

abbrev mutual
  pub speak_fm : Vocabulary → List (List ℕ) → FormulaTree → Fm
  speak_fm v scope tree.verum = truth true
  speak_fm v scope tree.falsum = truth false
  speak_fm v scope (tree.atom s ts) = atom (symbol_word v s) (speak_tms v scope ts)
  speak_fm v scope (tree.comparison c x y) = comparison (sign_of c) (speak_tm v scope x) (speak_tm v scope y)
  speak_fm v scope (tree.negation f) = negation (speak_fm v scope f)
  speak_fm v scope (tree.conjunction tree.no_formulas) = unwritten
  speak_fm v scope (tree.conjunction (tree.more_formulas f tree.no_formulas)) = unwritten
  speak_fm v scope (tree.conjunction (tree.more_formulas f (tree.more_formulas g gs))) =
      conjunction (speak_fm v scope f) (speak_more v scope (speak_fm v scope g) gs)
  speak_fm v scope (tree.disjunction tree.no_formulas) = unwritten
  speak_fm v scope (tree.disjunction (tree.more_formulas f tree.no_formulas)) = unwritten
  speak_fm v scope (tree.disjunction (tree.more_formulas f (tree.more_formulas g gs))) =
      disjunction (speak_fm v scope f) (speak_more v scope (speak_fm v scope g) gs)
  speak_fm v scope (tree.implication f g) = implication (speak_fm v scope f) (speak_fm v scope g)
  speak_fm v scope (tree.equivalence f g) = equivalence (speak_fm v scope f) (speak_fm v scope g)
  speak_fm v scope (tree.universal bs f) = speak_all v bs (λ vs. universal vs (speak_fm v (scope ++ bound_names bs) f))
  speak_fm v scope (tree.existential bs f) =
      speak_all v bs (λ vs. existential vs (speak_fm v (scope ++ bound_names bs) f))
  speak_fm v scope (tree.numbered c (pos n) bs f) =
      speak_all v bs (λ vs. numbered (sign_of c) n vs (speak_fm v (scope ++ bound_names bs) f))
  speak_fm v scope (tree.numbered c (negsuc n) bs f) = unwritten

  -- one that is spoken already, and others
  pub speak_more : Vocabulary → List (List ℕ) → Fm → FormulaTrees → Fms
  speak_more v scope x tree.no_formulas = one_fm x
  speak_more v scope x (tree.more_formulas g gs) = more_fms x (speak_more v scope (speak_fm v scope g) gs)

  pub speak_tm : Vocabulary → List (List ℕ) → TermTree → Tm
  speak_tm v scope (tree.variable n) = application (scope_word scope n) no_tms
  speak_tm v scope (tree.integer (pos n)) = integer n
  speak_tm v scope (tree.integer (negsuc n)) = unwritten_term
  speak_tm v scope (tree.constructed t i) = application (made_in (slice_get v.types t) i) no_tms
  speak_tm v scope (tree.application s ts) = application (symbol_word v s) (speak_tms v scope ts)
  speak_tm v scope (tree.summation tree.no_summands) = unwritten_term
  speak_tm v scope (tree.summation (tree.more_summands m x ss)) =
      summation m (speak_tm v scope x) (speak_summands v scope ss)
  speak_tm v scope (tree.product tree.no_terms) = unwritten_term
  speak_tm v scope (tree.product (tree.more_terms x tree.no_terms)) = unwritten_term
  speak_tm v scope (tree.product (tree.more_terms x (tree.more_terms y ys))) =
      product (speak_tm v scope x) (speak_factors v scope (speak_tm v scope y) ys)
  speak_tm v scope (tree.aggregate k bs f x) =
      speak_term_of v bs (λ vs. speak_kind k vs (speak_fm v (scope ++ bound_names bs) f)
      (speak_tm v (scope ++ bound_names bs) x))

  pub speak_tms : Vocabulary → List (List ℕ) → TermTrees → Tms
  speak_tms v scope tree.no_terms = no_tms
  speak_tms v scope (tree.more_terms x xs) = some_tms (speak_tm v scope x) (speak_others v scope xs)

  pub speak_others : Vocabulary → List (List ℕ) → TermTrees → Others
  speak_others v scope tree.no_terms = no_others
  speak_others v scope (tree.more_terms x xs) = more_others (speak_tm v scope x) (speak_others v scope xs)

  pub speak_summands : Vocabulary → List (List ℕ) → SummandTrees → Summands
  speak_summands v scope tree.no_summands = no_summands
  speak_summands v scope (tree.more_summands m x ss) = more_summands m (speak_tm v scope x) (speak_summands v scope ss)

  pub speak_factors : Vocabulary → List (List ℕ) → Tm → TermTrees → Factors
  speak_factors v scope x tree.no_terms = one_factor x
  speak_factors v scope x (tree.more_terms y ys) = more_factors x (speak_factors v scope (speak_tm v scope y) ys)

-- ---- what the words say is what the numbers are

-- the type's word means the type
abbrev pub SaidBounds : Vocabulary → Names → List Bound → Type 0
SaidBounds v names [] = Unit {0}
SaidBounds v names (b ∷ bs) = (type_number (meaning_of names (type_word v b.ty)) ≡ b.ty) × SaidBounds v names bs

-- at least one
abbrev pub SomeBounds : Vocabulary → Names → List Bound → Type 0
SomeBounds v names [] = ⊥
SomeBounds v names (b ∷ bs) = SaidBounds v names (b ∷ bs)

-- a count has the weight 1
abbrev pub IsWeight : AggKind → TermTree → Type 0
IsWeight kind.Count x = x ≡ tree.integer (pos (integer_of 1))
IsWeight kind.Sum x = Unit {0}
IsWeight kind.Min x = Unit {0}
IsWeight kind.Max x = Unit {0}

abbrev mutual
  pub Said : Vocabulary → Names → List (List ℕ) → FormulaTree → Type 0
  Said v names scope tree.verum = Unit {0}
  Said v names scope tree.falsum = Unit {0}
  Said v names scope (tree.atom s ts) =
      (predicate_number (meaning_at names scope (name (symbol_word v s) 0) (tms_count (speak_tms v scope ts))) ≡ s)
      × SaidTerms v names scope ts
  Said v names scope (tree.comparison c x y) = SaidTerm v names scope x × SaidTerm v names scope y
  Said v names scope (tree.negation f) = Said v names scope f
  Said v names scope (tree.conjunction tree.no_formulas) = ⊥
  Said v names scope (tree.conjunction (tree.more_formulas f tree.no_formulas)) = ⊥
  Said v names scope (tree.conjunction (tree.more_formulas f (tree.more_formulas g gs))) = Said v names scope f
      × Said v names scope g × SaidAll v names scope gs
  Said v names scope (tree.disjunction tree.no_formulas) = ⊥
  Said v names scope (tree.disjunction (tree.more_formulas f tree.no_formulas)) = ⊥
  Said v names scope (tree.disjunction (tree.more_formulas f (tree.more_formulas g gs))) = Said v names scope f
      × Said v names scope g × SaidAll v names scope gs
  Said v names scope (tree.implication f g) = Said v names scope f × Said v names scope g
  Said v names scope (tree.equivalence f g) = Said v names scope f × Said v names scope g
  Said v names scope (tree.universal bs f) = SomeBounds v names bs × Said v names (scope ++ bound_names bs) f
  Said v names scope (tree.existential bs f) = SomeBounds v names bs × Said v names (scope ++ bound_names bs) f
  Said v names scope (tree.numbered c (pos n) bs f) = (integer_of n ≡ n) × SomeBounds v names bs
      × Said v names (scope ++ bound_names bs) f
  Said v names scope (tree.numbered c (negsuc n) bs f) = ⊥

  pub SaidAll : Vocabulary → Names → List (List ℕ) → FormulaTrees → Type 0
  SaidAll v names scope tree.no_formulas = Unit {0}
  SaidAll v names scope (tree.more_formulas f fs) = Said v names scope f × SaidAll v names scope fs

  pub SaidTerm : Vocabulary → Names → List (List ℕ) → TermTree → Type 0
  SaidTerm v names scope (tree.variable n) =
      node_meaning (meaning_at names scope (name (scope_word scope n) 0) 0) tree.no_terms ≡ tree.variable n
  SaidTerm v names scope (tree.integer (pos n)) = integer_of n ≡ n
  SaidTerm v names scope (tree.integer (negsuc n)) = ⊥
  SaidTerm v names scope (tree.constructed t i) =
      node_meaning (meaning_at names scope (name (made_in (slice_get v.types t) i) 0) 0) tree.no_terms
      ≡ tree.constructed t i
  SaidTerm v names scope (tree.application s ts) =
      (node_meaning (meaning_at names scope (name (symbol_word v s) 0) (tms_count (speak_tms v scope ts))) ts
      ≡ tree.application s ts) × SaidTerms v names scope ts
  SaidTerm v names scope (tree.summation tree.no_summands) = ⊥
  SaidTerm v names scope (tree.summation (tree.more_summands m x ss)) = SaidTerm v names scope x
      × SaidSummands v names scope ss
  SaidTerm v names scope (tree.product tree.no_terms) = ⊥
  SaidTerm v names scope (tree.product (tree.more_terms x tree.no_terms)) = ⊥
  SaidTerm v names scope (tree.product (tree.more_terms x (tree.more_terms y ys))) = SaidTerm v names scope x
      × SaidTerm v names scope y × SaidTerms v names scope ys
  SaidTerm v names scope (tree.aggregate k bs f x) = IsWeight k x × SomeBounds v names bs
      × Said v names (scope ++ bound_names bs) f × SaidTerm v names (scope ++ bound_names bs) x

  pub SaidTerms : Vocabulary → Names → List (List ℕ) → TermTrees → Type 0
  SaidTerms v names scope tree.no_terms = Unit {0}
  SaidTerms v names scope (tree.more_terms x xs) = SaidTerm v names scope x × SaidTerms v names scope xs

  pub SaidSummands : Vocabulary → Names → List (List ℕ) → SummandTrees → Type 0
  SaidSummands v names scope tree.no_summands = Unit {0}
  SaidSummands v names scope (tree.more_summands m x ss) = SaidTerm v names scope x × SaidSummands v names scope ss
