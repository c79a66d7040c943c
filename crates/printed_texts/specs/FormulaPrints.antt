-- The text of a formula over a vocabulary, in the scope of variables with these names.
use Rattle.std.specs.Prelude.{ℕ, List, [], ◌∷◌, ◌++◌, Option, Some, None, map, flat_map, slice_get, codes}
use Rattle.std.specs.Fmt.{signed_decimal}
use Rattle.kb_text.specs.Tokens.{unsupported_chain_words, unsupported_call_words}
use Rattle.kb_logic.specs.declared.syntax.AggKind.{AggKind}
use Rattle.kb_logic.specs.declared.syntax.AggKind.TheVariants as kind
use Rattle.kb_logic.specs.declared.syntax.Cmp.{Cmp}
use Rattle.kb_logic.specs.declared.syntax.Cmp.TheVariants as cmp
use Rattle.kb_logic.specs.declared.vocabularies.Bound.{Bound}
use Rattle.kb_logic.specs.declared.vocabularies.TypeDecl.{TypeDecl}
use Rattle.kb_logic.specs.declared.vocabularies.Vocabulary.{Vocabulary}
use Rattle.kb_logic.specs.Trees.{TermTree, variable, integer, constructed, application, summation, product, aggregate}
use Rattle.kb_logic.specs.Trees.{TermTrees, no_terms, more_terms, SummandTrees, no_summands, more_summands, FormulaTree}
use Rattle.kb_logic.specs.Trees.{verum, falsum, atom, comparison, negation, conjunction, disjunction, implication}
use Rattle.kb_logic.specs.Trees.{equivalence, universal, existential, numbered, FormulaTrees, no_formulas}
use Rattle.kb_logic.specs.Trees.{more_formulas}
use Rattle.literal_printer.specs.Texts.{name_of}
use Rattle.printed_texts.specs.FormulaTexts.{spaced_text, opened_text, minus_text}
use Rattle.printed_texts.specs.Formulas.{add_text}

abbrev pub word_or_none : Option (List ℕ) → List ℕ
word_or_none None = []
word_or_none (Some n) = n

abbrev pub symbol_word : Vocabulary → ℕ → List ℕ
symbol_word v s = name_of (slice_get v.symbols s)

abbrev pub type_name : Option TypeDecl → List ℕ
type_name None = []
type_name (Some d) = d.name

abbrev pub type_word : Vocabulary → ℕ → List ℕ
type_word v t = type_name (slice_get v.types t)

abbrev pub made_in : Option TypeDecl → ℕ → List ℕ
made_in None i = []
made_in (Some d) i = word_or_none (slice_get d.made i)

abbrev pub scope_word : List (List ℕ) → ℕ → List ℕ
scope_word scope n = word_or_none (slice_get scope n)

abbrev pub cmp_sign : Cmp → List ℕ
cmp_sign cmp.Eq = codes "="
cmp_sign cmp.Ne = codes "~="
cmp_sign cmp.Lt = codes "<"
cmp_sign cmp.Gt = codes ">"
cmp_sign cmp.Le = codes "=<"
cmp_sign cmp.Ge = codes ">="

abbrev pub kind_word : AggKind → List ℕ
kind_word kind.Count = codes "#"
kind_word kind.Sum = codes "sum"
kind_word kind.Min = codes "min"
kind_word kind.Max = codes "max"

abbrev pub bound_text : Vocabulary → Bound → List ℕ
bound_text v b = b.name ++ (opened_text unsupported_chain_words (codes "[") b.name ++ (type_word v b.ty ++ codes "]"))

abbrev pub bounds_text : Vocabulary → List Bound → List ℕ
bounds_text v [] = []
bounds_text v (b ∷ bs) = bound_text v b ++ flat_map (λ c. codes " " ++ bound_text v c) bs

abbrev pub bound_names : List Bound → List (List ℕ)
bound_names bs = map (λ b. b.name) bs

-- the weight of an aggregate that has one
abbrev pub with_weight : AggKind → List ℕ → List ℕ
with_weight kind.Count text = codes "}"
with_weight kind.Sum text = codes ": " ++ (text ++ codes "}")
with_weight kind.Min text = codes ": " ++ (text ++ codes "}")
with_weight kind.Max text = codes ": " ++ (text ++ codes "}")

abbrev mutual
  pub formula_text : Vocabulary → List (List ℕ) → FormulaTree → List ℕ
  formula_text v scope verum = codes "true"
  formula_text v scope falsum = codes "false"
  formula_text v scope (atom s ts) = symbol_word v s ++ arguments_text v scope (symbol_word v s) ts
  formula_text v scope (comparison c x y) =
      codes "(" ++ (term_text v scope x ++ (spaced_text (cmp_sign c) ++ (term_text v scope y ++ codes ")")))
  formula_text v scope (negation f) = codes "(~" ++ (formula_text v scope f ++ codes ")")
  formula_text v scope (conjunction fs) = codes "(" ++ (formulas_text v scope (codes " & ") fs ++ codes ")")
  formula_text v scope (disjunction fs) = codes "(" ++ (formulas_text v scope (codes " | ") fs ++ codes ")")
  formula_text v scope (implication f g) =
      codes "(" ++ (formula_text v scope f ++ (codes " => " ++ (formula_text v scope g ++ codes ")")))
  formula_text v scope (equivalence f g) =
      codes "(" ++ (formula_text v scope f ++ (codes " <=> " ++ (formula_text v scope g ++ codes ")")))
  formula_text v scope (universal bs f) =
      codes "(!" ++ (bounds_text v bs ++ (codes ": " ++ (formula_text v (scope ++ bound_names bs) f ++ codes ")")))
  formula_text v scope (existential bs f) =
      codes "(?" ++ (bounds_text v bs ++ (codes ": " ++ (formula_text v (scope ++ bound_names bs) f ++ codes ")")))
  formula_text v scope (numbered c n bs f) =
      codes "(?" ++ (cmp_sign c
      ++ (signed_decimal n ++ (codes " "
      ++ (bounds_text v bs ++ (codes ": " ++ (formula_text v (scope ++ bound_names bs) f ++ codes ")"))))))

  pub formulas_text : Vocabulary → List (List ℕ) → List ℕ → FormulaTrees → List ℕ
  formulas_text v scope sep no_formulas = []
  formulas_text v scope sep (more_formulas f fs) = formula_text v scope f ++ later_formulas v scope sep fs

  pub later_formulas : Vocabulary → List (List ℕ) → List ℕ → FormulaTrees → List ℕ
  later_formulas v scope sep no_formulas = []
  later_formulas v scope sep (more_formulas f fs) = sep ++ (formula_text v scope f ++ later_formulas v scope sep fs)

  pub term_text : Vocabulary → List (List ℕ) → TermTree → List ℕ
  term_text v scope (variable n) = scope_word scope n
  term_text v scope (integer z) = signed_decimal z
  term_text v scope (constructed t i) = made_in (slice_get v.types t) i
  term_text v scope (application s ts) = symbol_word v s ++ arguments_text v scope (symbol_word v s) ts
  term_text v scope (summation ss) = codes "(" ++ (summands_text v scope ss ++ codes ")")
  term_text v scope (product ts) = codes "(" ++ (terms_text v scope (codes " * ") ts ++ codes ")")
  term_text v scope (aggregate k bs f x) =
      kind_word k ++ (codes "{"
      ++ (bounds_text v bs ++ (codes ": "
      ++ (formula_text v (scope ++ bound_names bs) f ++ with_weight k (term_text v (scope ++ bound_names bs) x)))))

  pub arguments_text : Vocabulary → List (List ℕ) → List ℕ → TermTrees → List ℕ
  arguments_text v scope n no_terms = []
  arguments_text v scope n (more_terms t ts) = opened_text unsupported_call_words (codes "(") n
      ++ (term_text v scope t ++ (later_terms v scope (codes ",") ts ++ codes ")"))

  pub terms_text : Vocabulary → List (List ℕ) → List ℕ → TermTrees → List ℕ
  terms_text v scope sep no_terms = []
  terms_text v scope sep (more_terms t ts) = term_text v scope t ++ later_terms v scope sep ts

  pub later_terms : Vocabulary → List (List ℕ) → List ℕ → TermTrees → List ℕ
  later_terms v scope sep no_terms = []
  later_terms v scope sep (more_terms t ts) = sep ++ (term_text v scope t ++ later_terms v scope sep ts)

  pub summands_text : Vocabulary → List (List ℕ) → SummandTrees → List ℕ
  summands_text v scope no_summands = []
  summands_text v scope (more_summands m t ss) = minus_text m ++ (term_text v scope t ++ later_summands v scope ss)

  pub later_summands : Vocabulary → List (List ℕ) → SummandTrees → List ℕ
  later_summands v scope no_summands = []
  later_summands v scope (more_summands m t ss) =
      spaced_text (add_text m) ++ (term_text v scope t ++ later_summands v scope ss)

-- lists, as loops see them
abbrev pub later_list : Vocabulary → List (List ℕ) → List ℕ → List FormulaTree → List ℕ
later_list v scope sep fs = flat_map (λ f. sep ++ formula_text v scope f) fs

abbrev pub later_term_list : Vocabulary → List (List ℕ) → List ℕ → List TermTree → List ℕ
later_term_list v scope sep ts = flat_map (λ t. sep ++ term_text v scope t) ts
