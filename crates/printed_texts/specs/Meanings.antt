-- What written words mean in a vocabulary: the formula with numbers for words. No place of a token is in it.
use Rattle.std.specs.Prelude.{ℕ, ◌+◌, pos, List, [], ◌∷◌, ◌++◌}
use Rattle.kb_logic.specs.declared.syntax.AggKind.TheVariants as kind
use Rattle.kb_logic.specs.declared.vocabularies.Bound.{Bound}
use Rattle.kb_logic.specs.Trees.{TermTree, TermTrees, SummandTrees, FormulaTree, FormulaTrees}
use Rattle.kb_logic.specs.Trees as tree
use Rattle.grammar.specs.Trees.{name}
use Rattle.stage_definitions.specs.Scopes.{Text}
use Rattle.stage_definitions.specs.Names.{Names, Meaning, function, made, variable, meaning_of, meaning_at}
use Rattle.stage_definitions.specs.Numbering.{within_count, type_number, predicate_number, comparison_of}
use Rattle.stage_definitions.specs.Standings.{kind_of}
use Rattle.stage_definitions.specs.TypedTrees.{integer_of, truth_tree}
use Rattle.printed_texts.specs.Formulas.{Binder, binder, Binders, one_binder, more_binders, Fm, truth, atom, comparison}
use Rattle.printed_texts.specs.Formulas.{negation, conjunction, disjunction, implication, equivalence, universal}
use Rattle.printed_texts.specs.Formulas.{existential, numbered, Fms, one_fm, more_fms, Tm, application, integer}
use Rattle.printed_texts.specs.Formulas.{summation, product, count, aggregate, Tms, no_tms, some_tms, Others, no_others}
use Rattle.printed_texts.specs.Formulas.{more_others, Summands, no_summands, more_summands, Factors, one_factor}
use Rattle.printed_texts.specs.Formulas.{more_factors}

abbrev pub bound_of : Names → Binder → Bound
bound_of names (binder n ty) = record { name = n; ty = type_number (meaning_of names ty) }

abbrev pub bounds_of : Names → Binders → List Bound
bounds_of names (one_binder x) = bound_of names x ∷ []
bounds_of names (more_binders x xs) = bound_of names x ∷ bounds_of names xs

abbrev pub binder_name : Binder → Text
binder_name (binder n ty) = n

abbrev pub binder_names : Binders → List Text
binder_names (one_binder x) = binder_name x ∷ []
binder_names (more_binders x xs) = binder_name x ∷ binder_names xs

abbrev pub others_count : Others → ℕ
others_count no_others = 0
others_count (more_others x xs) = others_count xs + 1

abbrev pub tms_count : Tms → ℕ
tms_count no_tms = 0
tms_count (some_tms x xs) = others_count xs + 1

-- a word as a term, with these arguments
abbrev pub node_meaning : Meaning → TermTrees → TermTree
node_meaning (variable level) ts = tree.variable level
node_meaning (made t i) ts = tree.constructed (within_count 256 t) (within_count 65536 i)
node_meaning (function s n) ts = tree.application (within_count 1024 s) ts
node_meaning _ ts = tree.application 0 ts

abbrev mutual
  pub fm_meaning : Names → List Text → Fm → FormulaTree
  fm_meaning names scope (truth b) = truth_tree b
  fm_meaning names scope (atom n ts) = tree.atom (predicate_number (meaning_at names scope (name n 0) (tms_count ts)))
      (tms_meaning names scope ts)
  fm_meaning names scope (comparison c x y) = tree.comparison (comparison_of c) (tm_meaning names scope x)
      (tm_meaning names scope y)
  fm_meaning names scope (negation f) = tree.negation (fm_meaning names scope f)
  fm_meaning names scope (conjunction f fs) =
      tree.conjunction (tree.more_formulas (fm_meaning names scope f) (fms_meaning names scope fs))
  fm_meaning names scope (disjunction f fs) =
      tree.disjunction (tree.more_formulas (fm_meaning names scope f) (fms_meaning names scope fs))
  fm_meaning names scope (implication f g) = tree.implication (fm_meaning names scope f) (fm_meaning names scope g)
  fm_meaning names scope (equivalence f g) = tree.equivalence (fm_meaning names scope f) (fm_meaning names scope g)
  fm_meaning names scope (universal vs f) =
      tree.universal (bounds_of names vs) (fm_meaning names (scope ++ binder_names vs) f)
  fm_meaning names scope (existential vs f) =
      tree.existential (bounds_of names vs) (fm_meaning names (scope ++ binder_names vs) f)
  fm_meaning names scope (numbered c n vs f) = tree.numbered (comparison_of c) (pos (integer_of n)) (bounds_of names vs)
      (fm_meaning names (scope ++ binder_names vs) f)

  pub fms_meaning : Names → List Text → Fms → FormulaTrees
  fms_meaning names scope (one_fm f) = tree.more_formulas (fm_meaning names scope f) tree.no_formulas
  fms_meaning names scope (more_fms f fs) = tree.more_formulas (fm_meaning names scope f) (fms_meaning names scope fs)

  pub tm_meaning : Names → List Text → Tm → TermTree
  tm_meaning names scope (application n ts) = node_meaning (meaning_at names scope (name n 0) (tms_count ts))
      (tms_meaning names scope ts)
  tm_meaning names scope (integer n) = tree.integer (pos (integer_of n))
  tm_meaning names scope (summation m x ss) =
      tree.summation (tree.more_summands m (tm_meaning names scope x) (summands_meaning names scope ss))
  tm_meaning names scope (product x fs) =
      tree.product (tree.more_terms (tm_meaning names scope x) (factors_meaning names scope fs))
  tm_meaning names scope (count vs f) =
      tree.aggregate kind.Count (bounds_of names vs) (fm_meaning names (scope ++ binder_names vs) f)
      (tree.integer (pos (integer_of 1)))
  tm_meaning names scope (aggregate a vs f x) =
      tree.aggregate (kind_of a) (bounds_of names vs) (fm_meaning names (scope ++ binder_names vs) f)
      (tm_meaning names (scope ++ binder_names vs) x)

  pub tms_meaning : Names → List Text → Tms → TermTrees
  tms_meaning names scope no_tms = tree.no_terms
  tms_meaning names scope (some_tms x xs) = tree.more_terms (tm_meaning names scope x) (others_meaning names scope xs)

  pub others_meaning : Names → List Text → Others → TermTrees
  others_meaning names scope no_others = tree.no_terms
  others_meaning names scope (more_others x xs) =
      tree.more_terms (tm_meaning names scope x) (others_meaning names scope xs)

  pub summands_meaning : Names → List Text → Summands → SummandTrees
  summands_meaning names scope no_summands = tree.no_summands
  summands_meaning names scope (more_summands m x ss) =
      tree.more_summands m (tm_meaning names scope x) (summands_meaning names scope ss)

  pub factors_meaning : Names → List Text → Factors → TermTrees
  factors_meaning names scope (one_factor x) = tree.more_terms (tm_meaning names scope x) tree.no_terms
  factors_meaning names scope (more_factors x xs) =
      tree.more_terms (tm_meaning names scope x) (factors_meaning names scope xs)
