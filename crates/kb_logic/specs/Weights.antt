-- The sizes by which the work over a knowledge base is limited: its number of ground atoms, and its weight, which
-- counts how often each part of a theory is instantiated.
use Rattle.std.specs.Prelude.{ℕ, ◌+◌, ◌*◌, if◌then◌else◌, List, length, sum_by, Option, Some, None}
use Rattle.kb_logic.specs.declared.elements.Elem.{Elem}
use Rattle.kb_logic.specs.declared.vocabularies.Vocabulary.{Vocabulary}
use Rattle.kb_logic.specs.Trees.{TermTree, variable, integer, constructed, application, summation, product, aggregate}
use Rattle.kb_logic.specs.Trees.{TermTrees, no_terms, more_terms, SummandTrees, no_summands, more_summands, FormulaTree}
use Rattle.kb_logic.specs.Trees.{verum, falsum, atom, comparison, negation, conjunction, disjunction, implication}
use Rattle.kb_logic.specs.Trees.{equivalence, universal, existential, numbered, FormulaTrees, no_formulas}
use Rattle.kb_logic.specs.Trees.{more_formulas, RuleTree, DefinitionTree, TheoryTree}
use Rattle.kb_logic.specs.Structures.{domain_at, tuples_of, choices}
use Rattle.kb_logic.specs.Bounds.{domain_if, value_type_of}

-- the number of values that a symbol's atoms may have: 1 for a predicate
abbrev pub value_count : List (List Elem) → Option ℕ → ℕ
value_count domains None = 1
value_count domains (Some ty) = length (domain_at domains ty)

-- the number of ground atoms: one for each tuple of a predicate, and for each tuple and each value of a function
abbrev pub atom_count : Vocabulary → List (List Elem) → ℕ
atom_count v domains = sum_by (λ s. length (tuples_of domains s.args) * value_count domains s.value) v.symbols

abbrev mutual
  -- the product of the value types' sizes of the applications in a term, outside its aggregates
  pub application_count : Vocabulary → List (List Elem) → TermTree → ℕ
  application_count v domains (variable n) = 1
  application_count v domains (integer z) = 1
  application_count v domains (constructed ty n) = 1
  application_count v domains (application s ts) = length (domain_if domains (value_type_of v s))
      * applications_count v domains ts
  application_count v domains (summation ss) = summands_count v domains ss
  application_count v domains (product ts) = applications_count v domains ts
  application_count v domains (aggregate k bs f t) = 1

  pub applications_count : Vocabulary → List (List Elem) → TermTrees → ℕ
  applications_count v domains no_terms = 1
  applications_count v domains (more_terms t ts) = application_count v domains t * applications_count v domains ts

  pub summands_count : Vocabulary → List (List Elem) → SummandTrees → ℕ
  summands_count v domains no_summands = 1
  summands_count v domains (more_summands minus t ss) = application_count v domains t * summands_count v domains ss

abbrev mutual
  -- the occurrences in a term, where the variables in scope have n assignments: each aggregate counts its own
  -- assignments too, times the applications in its weight
  pub term_occurrences : Vocabulary → List (List Elem) → TermTree → ℕ → ℕ
  term_occurrences v domains (variable k) n = 0
  term_occurrences v domains (integer z) n = 0
  term_occurrences v domains (constructed ty k) n = 0
  term_occurrences v domains (application s ts) n = terms_occurrences v domains ts n
  term_occurrences v domains (summation ss) n = summands_occurrences v domains ss n
  term_occurrences v domains (product ts) n = terms_occurrences v domains ts n
  term_occurrences v domains (aggregate k bs f t) n =
      let inner = n * length (choices domains bs) in
      inner * application_count v domains t + occurrences v domains f inner + term_occurrences v domains t inner

  pub terms_occurrences : Vocabulary → List (List Elem) → TermTrees → ℕ → ℕ
  terms_occurrences v domains no_terms n = 0
  terms_occurrences v domains (more_terms t ts) n = term_occurrences v domains t n + terms_occurrences v domains ts n

  pub summands_occurrences : Vocabulary → List (List Elem) → SummandTrees → ℕ → ℕ
  summands_occurrences v domains no_summands n = 0
  summands_occurrences v domains (more_summands minus t ss) n = term_occurrences v domains t n + summands_occurrences
      v domains ss n

  -- the occurrences in a formula, where the variables in scope have n assignments: each formula in it counts the
  -- assignments of the variables in whose scope it stands, an atom or a comparison times the applications in it
  pub occurrences : Vocabulary → List (List Elem) → FormulaTree → ℕ → ℕ
  occurrences v domains verum n = n
  occurrences v domains falsum n = n
  occurrences v domains (atom s ts) n = n * applications_count v domains ts + terms_occurrences v domains ts n
  occurrences v domains (comparison c a b) n = n * (application_count v domains a * application_count v domains b)
      + term_occurrences v domains a n + term_occurrences v domains b n
  occurrences v domains (negation f) n = n + occurrences v domains f n
  occurrences v domains (conjunction fs) n = n + all_occurrences v domains fs n
  occurrences v domains (disjunction fs) n = n + all_occurrences v domains fs n
  occurrences v domains (implication f g) n = n + occurrences v domains f n + occurrences v domains g n
  occurrences v domains (equivalence f g) n = n + occurrences v domains f n + occurrences v domains g n
  occurrences v domains (universal bs f) n = n + occurrences v domains f (n * length (choices domains bs))
  occurrences v domains (existential bs f) n = n + occurrences v domains f (n * length (choices domains bs))
  occurrences v domains (numbered c k bs f) n = n + occurrences v domains f (n * length (choices domains bs))

  pub all_occurrences : Vocabulary → List (List Elem) → FormulaTrees → ℕ → ℕ
  all_occurrences v domains no_formulas n = 0
  all_occurrences v domains (more_formulas f fs) n = occurrences v domains f n + all_occurrences v domains fs n

-- the occurrences in a rule's body, under n assignments of its variables: none where it has no body
abbrev pub body_occurrences : Vocabulary → List (List Elem) → RuleTree → ℕ → ℕ
body_occurrences v domains r n = if r.has_body then occurrences v domains r.body n else 0

-- a rule counts 1, its head the assignments of its variables
abbrev pub rule_occurrences : Vocabulary → List (List Elem) → RuleTree → ℕ
rule_occurrences v domains r = let n = length (choices domains r.vars) in 1 + n + body_occurrences v domains r n

abbrev pub definition_occurrences : Vocabulary → List (List Elem) → DefinitionTree → ℕ
definition_occurrences v domains d = sum_by (rule_occurrences v domains) d.rules

-- a term that may be asked for counts the applications outside its aggregates
abbrev pub asked_occurrences : Vocabulary → List (List Elem) → TermTree → ℕ
asked_occurrences v domains t = application_count v domains t + term_occurrences v domains t 1

-- the weight: the ground atoms, and four times the occurrences in the theory and in the terms that may be asked for
abbrev pub weight_of : Vocabulary → List (List Elem) → TheoryTree → List TermTree → ℕ
weight_of v domains t terms =
    atom_count v domains
    + 4 * (sum_by (λ f. occurrences v domains f 1) t.sentences + sum_by (definition_occurrences v domains) t.definitions
    + sum_by (asked_occurrences v domains) terms)
