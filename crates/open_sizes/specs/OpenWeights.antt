-- How much of a theory is left open by what is known of its atoms. A part of it counts as its weight does, but only
-- under the assignments that leave it, and all in which it stands, uncertain.
use Rattle.std.specs.Prelude.{ℕ, ◌+◌, ◌*◌, if◌then◌else◌, List, [], ◌++◌, length, map, sum_by, Option, is_some}
use Rattle.kb_logic.specs.declared.elements.Elem.{Elem}
use Rattle.kb_logic.specs.declared.vocabularies.Vocabulary.{Vocabulary}
use Rattle.kb_logic.specs.Bases.{Base, NamedTerm}
use Rattle.kb_logic.specs.Denotations.{Denotation}
use Rattle.kb_logic.specs.KnownAtoms.{KnownAtoms}
use Rattle.kb_logic.specs.Structures.{choices}
use Rattle.kb_logic.specs.Trees.{TermTree, variable, integer, constructed, application, summation, product, aggregate}
use Rattle.kb_logic.specs.Trees.{TermTrees, no_terms, more_terms, SummandTrees, no_summands, more_summands, FormulaTree}
use Rattle.kb_logic.specs.Trees.{verum, falsum, atom, comparison, negation, conjunction, disjunction, implication}
use Rattle.kb_logic.specs.Trees.{equivalence, universal, existential, numbered, FormulaTrees, no_formulas}
use Rattle.kb_logic.specs.Trees.{more_formulas, RuleTree, DefinitionTree, TheoryTree}
use Rattle.kb_logic.specs.Weights.{application_count, applications_count, weight_of}
use Rattle.partial_structures.specs.declared.truths.Truth.{Truth}
use Rattle.certain_truth.specs.Certainty.{certain_truth, known_value}
use Rattle.quantifier_bounds.specs.Steps.{is_unknown, unknown_atoms}

-- so much where it is not certain, else nothing
abbrev pub where_open : Truth → ℕ → ℕ
where_open t n = if is_unknown t then n else 0

-- so much where the value is not known, else nothing
abbrev pub where_unknown : Option Denotation → ℕ → ℕ
where_unknown o n = if is_some o then 0 else n

abbrev mutual
  -- the open occurrences in a term, under the elements e of the variables in scope: an aggregate whose value is not
  -- known counts all its assignments, times the applications in its weight
  pub open_in_term : Vocabulary → KnownAtoms → TermTree → List Elem → ℕ
  open_in_term v k (variable n) e = 0
  open_in_term v k (integer z) e = 0
  open_in_term v k (constructed ty n) e = 0
  open_in_term v k (application s ts) e = open_in_terms v k ts e
  open_in_term v k (summation ss) e = open_in_summands v k ss e
  open_in_term v k (product ts) e = open_in_terms v k ts e
  open_in_term v k (aggregate kind bs f t) e = where_unknown (known_value k (aggregate kind bs f t) e)
      (length (choices k.domains bs) * application_count v k.domains t
      + sum_by (λ a. open_occurrences v k f (e ++ a) + open_in_term v k t (e ++ a)) (choices k.domains bs))

  pub open_in_terms : Vocabulary → KnownAtoms → TermTrees → List Elem → ℕ
  open_in_terms v k no_terms e = 0
  open_in_terms v k (more_terms t ts) e = open_in_term v k t e + open_in_terms v k ts e

  pub open_in_summands : Vocabulary → KnownAtoms → SummandTrees → List Elem → ℕ
  open_in_summands v k no_summands e = 0
  open_in_summands v k (more_summands minus t ss) e = open_in_term v k t e + open_in_summands v k ss e

  -- the open occurrences in a formula: it counts where it is not certain, an atom or a comparison times the
  -- applications in it, and so does each part of it under each assignment
  pub open_occurrences : Vocabulary → KnownAtoms → FormulaTree → List Elem → ℕ
  open_occurrences v k verum e = 0
  open_occurrences v k falsum e = 0
  open_occurrences v k (atom s ts) e = where_open (certain_truth k (atom s ts) e)
      (applications_count v k.domains ts + open_in_terms v k ts e)
  open_occurrences v k (comparison c a b) e = where_open (certain_truth k (comparison c a b) e)
      (application_count v k.domains a * application_count v k.domains b
      + open_in_term v k a e + open_in_term v k b e)
  open_occurrences v k (negation f) e = where_open (certain_truth k (negation f) e) (1 + open_occurrences v k f e)
  open_occurrences v k (conjunction fs) e = where_open (certain_truth k (conjunction fs) e)
      (1 + open_in_parts v k fs e)
  open_occurrences v k (disjunction fs) e = where_open (certain_truth k (disjunction fs) e)
      (1 + open_in_parts v k fs e)
  open_occurrences v k (implication f g) e = where_open (certain_truth k (implication f g) e)
      (1 + open_occurrences v k f e + open_occurrences v k g e)
  open_occurrences v k (equivalence f g) e = where_open (certain_truth k (equivalence f g) e)
      (1 + open_occurrences v k f e + open_occurrences v k g e)
  open_occurrences v k (universal bs f) e = where_open (certain_truth k (universal bs f) e)
      (1 + sum_by (λ a. open_occurrences v k f (e ++ a)) (choices k.domains bs))
  open_occurrences v k (existential bs f) e = where_open (certain_truth k (existential bs f) e)
      (1 + sum_by (λ a. open_occurrences v k f (e ++ a)) (choices k.domains bs))
  open_occurrences v k (numbered c n bs f) e = where_open (certain_truth k (numbered c n bs f) e)
      (1 + sum_by (λ a. open_occurrences v k f (e ++ a)) (choices k.domains bs))

  pub open_in_parts : Vocabulary → KnownAtoms → FormulaTrees → List Elem → ℕ
  open_in_parts v k no_formulas e = 0
  open_in_parts v k (more_formulas f fs) e = open_occurrences v k f e + open_in_parts v k fs e

-- the open occurrences in a rule's body: none where it has no body
abbrev pub open_in_body : Vocabulary → KnownAtoms → RuleTree → ℕ
open_in_body v k r = if r.has_body then sum_by (open_occurrences v k r.body) (choices k.domains r.vars) else 0

-- a rule counts 1, and its head all assignments of its variables, whatever is certain of it
abbrev pub open_in_rule : Vocabulary → KnownAtoms → RuleTree → ℕ
open_in_rule v k r = 1 + length (choices k.domains r.vars) + open_in_body v k r

abbrev pub open_in_definition : Vocabulary → KnownAtoms → DefinitionTree → ℕ
open_in_definition v k d = sum_by (open_in_rule v k) d.rules

-- a term that may be asked for counts the applications outside its aggregates, where its value is not known
abbrev pub open_in_asked : Vocabulary → KnownAtoms → TermTree → ℕ
open_in_asked v k t = where_unknown (known_value k t []) (application_count v k.domains t + open_in_term v k t [])

-- the weight of what is open: the unknown atoms, and four times the open occurrences in the theory and in the terms
-- that may be asked for
abbrev pub open_weight_of : Vocabulary → KnownAtoms → TheoryTree → List TermTree → ℕ
open_weight_of v k t terms =
    unknown_atoms k
    + 4 * (sum_by (λ f. open_occurrences v k f []) t.sentences + sum_by (open_in_definition v k) t.definitions
    + sum_by (open_in_asked v k) terms)

-- the terms of a knowledge base that may be asked for
abbrev pub terms_in : Base → List TermTree
terms_in base = map (λ (t : NamedTerm). t.term) base.terms

-- the weight of what is open in a knowledge base where this is known in place of its data
abbrev pub open_weight : Base → KnownAtoms → ℕ
open_weight base k = open_weight_of base.vocabulary k base.theory (terms_in base)

-- the weight of a knowledge base: of its theory and of the terms that may be asked for
abbrev pub base_weight : Base → ℕ
base_weight base = weight_of base.vocabulary base.known.domains base.theory (terms_in base)
