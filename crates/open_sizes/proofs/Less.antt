-- What is open counts no more than the whole.
use Rattle.std.proofs.Common.{◌≡◌, ◌≤◌, ℕ, ◌+◌, ◌*◌, Bool, true, false, if◌then◌else◌, List, [], ◌∷◌, ◌++◌, length}
use Rattle.std.proofs.Common.{map, Option, None, Some, refl, ap, ◌∙◌, arith, length-append}
use Rattle.std.specs.List.{sum_by, enumerate_from}
use Rattle.std.proofs.lemmas.List.Sums.{sum_by-le-sum_by, length-filter, count_by-le-length}
use Rattle.std.proofs.lemmas.List.{length-map}
use Rattle.std.proofs.lemmas.List.Concat.{length-flat_map}
use Rattle.kb_logic.specs.declared.elements.Elem.{Elem}
use Rattle.kb_logic.specs.declared.vocabularies.Symbol.{Symbol}
use Rattle.kb_logic.specs.declared.vocabularies.Vocabulary.{Vocabulary}
use Rattle.kb_logic.specs.Denotations.{Denotation}
use Rattle.kb_logic.specs.KnownAtoms.{KnownAtoms, atoms_with, atoms_over}
use Rattle.kb_logic.specs.Models.{GroundAtom}
use Rattle.kb_logic.specs.Structures.{choices, domain_at, tuples_of}
use Rattle.kb_logic.specs.Trees.{TermTree, variable, integer, constructed, application, summation, product, aggregate}
use Rattle.kb_logic.specs.Trees.{TermTrees, no_terms, more_terms, SummandTrees, no_summands, more_summands, FormulaTree}
use Rattle.kb_logic.specs.Trees.{verum, falsum, atom, comparison, negation, conjunction, disjunction, implication}
use Rattle.kb_logic.specs.Trees.{equivalence, universal, existential, numbered, FormulaTrees, no_formulas}
use Rattle.kb_logic.specs.Trees.{more_formulas, RuleTree, DefinitionTree}
use Rattle.kb_logic.specs.Weights.{application_count, applications_count, term_occurrences, terms_occurrences}
use Rattle.kb_logic.specs.Weights.{summands_occurrences, occurrences, all_occurrences, rule_occurrences, value_count}
use Rattle.kb_logic.specs.Weights.{definition_occurrences, asked_occurrences, atom_count}
use Rattle.kb_logic.proofs.Assignments.{joined}
use Rattle.kb_logic.proofs.Pairs.{pairs, length-pairs, sum_by-pairs}
use Rattle.partial_structures.specs.KnownAtoms.{value_at}
use Rattle.partial_structures.specs.declared.truths.Truth.{Truth}
use Rattle.partial_structures.specs.declared.truths.Truth.TheVariants as truth
use Rattle.certain_truth.specs.Certainty.{certain_truth, known_value}
use Rattle.quantifier_bounds.specs.Steps.{is_unknown, unknown_atoms}
use Rattle.open_sizes.specs.Laws.{OpenIsLess}
use Rattle.open_sizes.specs.OpenWeights.{where_open, where_unknown, open_in_term, open_in_terms, open_in_summands}
use Rattle.open_sizes.specs.OpenWeights.{open_occurrences, open_in_parts, open_in_rule, open_in_definition}
use Rattle.open_sizes.specs.OpenWeights.{open_in_asked}
use Rattle.open_sizes.proofs.Sums.{sum-numbered, both, at_most, nothing}

some_part : (t : Truth) (n : ℕ) → where_open t n ≤ n
some_part truth.Yes n = omega arith
some_part truth.No n = omega arith
some_part truth.Unknown n = omega arith

some_value : (o : Option Denotation) (n : ℕ) → where_unknown o n ≤ n
some_value None n = omega arith
some_value (Some d) n = omega arith

-- what counts at most so much over any assignments does so over those that go on with others
deeper : (g : List Elem → ℕ) (count : ℕ → ℕ) → ((es : List (List Elem)) → sum_by g es ≤ count (length es))
    → (cs es : List (List Elem)) → sum_by (λ e. sum_by (λ a. g (e ++ a)) cs) es ≤ count (length es * length cs)
deeper g count less cs es =
    let all = less (pairs joined cs es) in
    let sum : sum_by g (pairs joined cs es) ≡ sum_by (λ e. sum_by (λ a. g (e ++ a)) cs) es =
    sum_by-pairs g joined cs es in
    let size = ap count (length-pairs joined cs es) in
    omega (arith, all, sum, size)

two_less : (a b : List Elem → ℕ) (es : List (List Elem)) (m n : ℕ) → sum_by a es ≤ m → sum_by b es ≤ n
    → sum_by (λ e. a e + b e) es ≤ m + n
two_less a b es m n h i = let sum = both a b es in omega (arith, sum, h, i)

after : (c a b n : ℕ) → n ≤ c + a + b → n ≤ c + (a + b)
after c a b n h = omega (arith, h)

weighed : (n l c : ℕ) → n * (l * c) ≡ n * l * c
weighed n l c = omega arith

module _ (v : Vocabulary) (k : KnownAtoms) where
  mutual
    term_less : (t : TermTree) (es : List (List Elem))
        → sum_by (open_in_term v k t) es ≤ term_occurrences v k.domains t (length es)
    term_less (variable n) es = nothing (open_in_term v k (variable n)) es 0 (λ e. refl)
    term_less (integer z) es = nothing (open_in_term v k (integer z)) es 0 (λ e. refl)
    term_less (constructed ty n) es =
        nothing (open_in_term v k (constructed ty n)) es 0 (λ e. refl)
    term_less (application s ts) es =
        let own = at_most 0 (open_in_term v k (application s ts)) (open_in_terms v k ts) es (λ e. omega arith) in
        let rest = terms_less ts es in
        omega (arith, own, rest)
    term_less (summation ss) es =
        let own = at_most 0 (open_in_term v k (summation ss)) (open_in_summands v k ss) es (λ e. omega arith) in
        let rest = summands_less ss es in
        omega (arith, own, rest)
    term_less (product ts) es =
        let own = at_most 0 (open_in_term v k (product ts)) (open_in_terms v k ts) es (λ e. omega arith) in
        let rest = terms_less ts es in
        omega (arith, own, rest)
    term_less (aggregate c bs f t) es =
        let cs = choices k.domains bs in
        let l = length cs in
        let a = application_count v k.domains t in
        let g = λ (e : List Elem). open_occurrences v k f e + open_in_term v k t e in
        let h = λ (e : List Elem). sum_by (λ b. g (e ++ b)) cs in
        let own : sum_by (open_in_term v k (aggregate c bs f t)) es ≤ length es * (l * a) + sum_by h es =
        at_most (l * a) (open_in_term v k (aggregate c bs f t)) h es
        (λ e. some_value (known_value k (aggregate c bs f t) e) (l * a + h e)) in
        let count = λ (n : ℕ). occurrences v k.domains f n + term_occurrences v k.domains t n in
        let inner : sum_by h es ≤ occurrences v k.domains f (length es * l) + term_occurrences v k.domains t
        (length es * l) = deeper g count (λ xs. two_less (open_occurrences v k f) (open_in_term v k t) xs
        (occurrences v k.domains f (length xs)) (term_occurrences v k.domains t (length xs)) (formula_less f xs)
        (term_less t xs)) cs es in
        let whole = weighed (length es) l a in
        omega (arith, own, inner, whole)

    terms_less : (ts : TermTrees) (es : List (List Elem))
        → sum_by (open_in_terms v k ts) es ≤ terms_occurrences v k.domains ts (length es)
    terms_less no_terms es = nothing (open_in_terms v k no_terms) es 0 (λ e. refl)
    terms_less (more_terms t ts) es =
        let own = at_most 0 (open_in_terms v k (more_terms t ts)) (λ e. open_in_term v k t e + open_in_terms v k ts e)
        es (λ e. omega arith) in
        let sum = both (open_in_term v k t) (open_in_terms v k ts) es in
        let first = term_less t es in
        let rest = terms_less ts es in
        omega (arith, own, sum, first, rest)

    summands_less : (ss : SummandTrees) (es : List (List Elem))
        → sum_by (open_in_summands v k ss) es ≤ summands_occurrences v k.domains ss (length es)
    summands_less no_summands es =
        nothing (open_in_summands v k no_summands) es 0 (λ e. refl)
    summands_less (more_summands minus t ss) es =
        let own = at_most 0 (open_in_summands v k (more_summands minus t ss))
        (λ e. open_in_term v k t e + open_in_summands v k ss e) es (λ e. omega arith) in
        let sum = both (open_in_term v k t) (open_in_summands v k ss) es in
        let first = term_less t es in
        let rest = summands_less ss es in
        omega (arith, own, sum, first, rest)

    pub formula_less : (f : FormulaTree) (es : List (List Elem))
        → sum_by (open_occurrences v k f) es ≤ occurrences v k.domains f (length es)
    formula_less verum es = nothing (open_occurrences v k verum) es (length es) (λ e. refl)
    formula_less falsum es = nothing (open_occurrences v k falsum) es (length es) (λ e. refl)
    formula_less (atom s ts) es =
        let c = applications_count v k.domains ts in
        let own = at_most c (open_occurrences v k (atom s ts)) (open_in_terms v k ts) es
        (λ e. some_part (certain_truth k (atom s ts) e) (c + open_in_terms v k ts e)) in
        let rest = terms_less ts es in
        omega (arith, own, rest)
    formula_less (comparison o a b) es =
        let c = application_count v k.domains a * application_count v k.domains b in
        let own = at_most c (open_occurrences v k (comparison o a b)) (λ e. open_in_term v k a e + open_in_term v k b e)
        es (λ e. after c (open_in_term v k a e) (open_in_term v k b e) _ (some_part (certain_truth k (comparison o a b) e)
        (c + open_in_term v k a e + open_in_term v k b e))) in
        let sum = both (open_in_term v k a) (open_in_term v k b) es in
        let first = term_less a es in
        let second = term_less b es in
        omega (arith, own, sum, first, second)
    formula_less (negation f) es =
        let own = at_most 1 (open_occurrences v k (negation f)) (open_occurrences v k f) es
        (λ e. some_part (certain_truth k (negation f) e) (1 + open_occurrences v k f e)) in
        let rest = formula_less f es in
        omega (arith, own, rest)
    formula_less (conjunction fs) es =
        let own = at_most 1 (open_occurrences v k (conjunction fs)) (open_in_parts v k fs) es
        (λ e. some_part (certain_truth k (conjunction fs) e) (1 + open_in_parts v k fs e)) in
        let rest = formulas_less fs es in
        omega (arith, own, rest)
    formula_less (disjunction fs) es =
        let own = at_most 1 (open_occurrences v k (disjunction fs)) (open_in_parts v k fs) es
        (λ e. some_part (certain_truth k (disjunction fs) e) (1 + open_in_parts v k fs e)) in
        let rest = formulas_less fs es in
        omega (arith, own, rest)
    formula_less (implication f g) es =
        let own = at_most 1 (open_occurrences v k (implication f g))
        (λ e. open_occurrences v k f e + open_occurrences v k g e) es
        (λ e. after 1 (open_occurrences v k f e) (open_occurrences v k g e) _ (some_part (certain_truth k (implication f
        g) e) (1 + open_occurrences v k f e + open_occurrences v k g e))) in
        let sum = both (open_occurrences v k f) (open_occurrences v k g) es in
        let first = formula_less f es in
        let second = formula_less g es in
        omega (arith, own, sum, first, second)
    formula_less (equivalence f g) es =
        let own = at_most 1 (open_occurrences v k (equivalence f g))
        (λ e. open_occurrences v k f e + open_occurrences v k g e) es
        (λ e. after 1 (open_occurrences v k f e) (open_occurrences v k g e) _ (some_part (certain_truth k (equivalence f
        g) e) (1 + open_occurrences v k f e + open_occurrences v k g e))) in
        let sum = both (open_occurrences v k f) (open_occurrences v k g) es in
        let first = formula_less f es in
        let second = formula_less g es in
        omega (arith, own, sum, first, second)
    formula_less (universal bs f) es =
        let cs = choices k.domains bs in
        let h = λ (e : List Elem). sum_by (λ a. open_occurrences v k f (e ++ a)) cs in
        let own : sum_by (open_occurrences v k (universal bs f)) es ≤ length es * 1 + sum_by h es =
        at_most 1 (open_occurrences v k (universal bs f)) h es
        (λ e. some_part (certain_truth k (universal bs f) e) (1 + h e)) in
        let inner : sum_by h es ≤ occurrences v k.domains f (length es * length cs) =
        deeper (open_occurrences v k f) (occurrences v k.domains f) (formula_less f) cs es in
        omega (arith, own, inner)
    formula_less (existential bs f) es =
        let cs = choices k.domains bs in
        let h = λ (e : List Elem). sum_by (λ a. open_occurrences v k f (e ++ a)) cs in
        let own : sum_by (open_occurrences v k (existential bs f)) es ≤ length es * 1 + sum_by h es =
        at_most 1 (open_occurrences v k (existential bs f)) h es
        (λ e. some_part (certain_truth k (existential bs f) e) (1 + h e)) in
        let inner : sum_by h es ≤ occurrences v k.domains f (length es * length cs) =
        deeper (open_occurrences v k f) (occurrences v k.domains f) (formula_less f) cs es in
        omega (arith, own, inner)
    formula_less (numbered o n bs f) es =
        let cs = choices k.domains bs in
        let h = λ (e : List Elem). sum_by (λ a. open_occurrences v k f (e ++ a)) cs in
        let own : sum_by (open_occurrences v k (numbered o n bs f)) es ≤ length es * 1 + sum_by h es =
        at_most 1 (open_occurrences v k (numbered o n bs f)) h es
        (λ e. some_part (certain_truth k (numbered o n bs f) e) (1 + h e)) in
        let inner : sum_by h es ≤ occurrences v k.domains f (length es * length cs) =
        deeper (open_occurrences v k f) (occurrences v k.domains f) (formula_less f) cs es in
        omega (arith, own, inner)

    formulas_less : (fs : FormulaTrees) (es : List (List Elem))
        → sum_by (open_in_parts v k fs) es ≤ all_occurrences v k.domains fs (length es)
    formulas_less no_formulas es = nothing (open_in_parts v k no_formulas) es 0 (λ e. refl)
    formulas_less (more_formulas f fs) es =
        let own = at_most 0 (open_in_parts v k (more_formulas f fs))
        (λ e. open_occurrences v k f e + open_in_parts v k fs e) es (λ e. omega arith) in
        let sum = both (open_occurrences v k f) (open_in_parts v k fs) es in
        let first = formula_less f es in
        let rest = formulas_less fs es in
        omega (arith, own, sum, first, rest)

  rule_less : (r : RuleTree) → open_in_rule v k r ≤ rule_occurrences v k.domains r
  rule_less r = by r.has_body
    where
      by : (t : Bool) → 1 + length (choices k.domains r.vars)
          + (if t then sum_by (open_occurrences v k r.body) (choices k.domains r.vars) else 0)
          ≤ 1 + length (choices k.domains r.vars)
          + (if t then occurrences v k.domains r.body (length (choices k.domains r.vars)) else 0)
      by true = let body = formula_less r.body (choices k.domains r.vars) in omega (arith, body)
      by false = omega arith

  definition_less : (d : DefinitionTree) → open_in_definition v k d ≤ definition_occurrences v k.domains d
  definition_less d = sum_by-le-sum_by (open_in_rule v k) (rule_occurrences v k.domains) d.rules rule_less

  sentence_less : (f : FormulaTree) → open_occurrences v k f [] ≤ occurrences v k.domains f 1
  sentence_less f = let one = formula_less f ([] ∷ []) in omega (arith, one)

  asked_less : (t : TermTree) → open_in_asked v k t ≤ asked_occurrences v k.domains t
  asked_less t =
      let one = term_less t ([] ∷ []) in
      let own = some_value (known_value k t []) (application_count v k.domains t + open_in_term v k t []) in
      omega (arith, one, own)

-- ---- atoms

abbrev plain_atom : ℕ → List Elem → GroundAtom
plain_atom i t = record { symbol = i; args = t; value = None }

abbrev valued_atom : ℕ → List Elem → Elem → GroundAtom
valued_atom i t x = record { symbol = i; args = t; value = Some x }

atoms_there : (domains : List (List Elem)) (i : ℕ) (ts : List (List Elem)) (o : Option ℕ)
    → length (atoms_with domains i ts o) ≡ length ts * value_count domains o
atoms_there domains i ts None =
    let size : length (atoms_with domains i ts None) ≡ length ts = length-map ts (plain_atom i) in
    omega (arith, size)
atoms_there domains i [] (Some ty) = omega arith
atoms_there domains i (t ∷ ts) (Some ty) =
    let d = domain_at domains ty in
    let rest = atoms_there domains i ts (Some ty) in
    let first : length (atoms_with domains i (t ∷ ts) (Some ty)) ≡ length (map (valued_atom i t) d)
    + length (atoms_with domains i ts (Some ty)) =
    length-append (map (valued_atom i t) d) (atoms_with domains i ts (Some ty)) in
    let here : length (map (valued_atom i t) d) ≡ length d = length-map d (valued_atom i t) in
    let more : (length ts + 1) * length d ≡ length ts * length d + length d = omega arith in
    omega (arith, rest, first, here, more)

abbrev atoms_of : List (List Elem) → Symbol → ℕ
atoms_of domains d = length (tuples_of domains d.args) * value_count domains d.value

all_atoms : (symbols : List Symbol) (domains : List (List Elem)) → length (atoms_over symbols domains)
    ≡ sum_by (atoms_of domains) symbols
all_atoms symbols domains =
    length-flat_map (λ s. atoms_with domains s.0 (tuples_of domains s.1.args) s.1.value) (enumerate_from 0 symbols)
    ∙ sum-numbered (λ s. length (atoms_with domains s.0 (tuples_of domains s.1.args) s.1.value)) (atoms_of domains)
    (λ n d. atoms_there domains n (tuples_of domains d.args) d.value) 0 symbols

unknown_less : (v : Vocabulary) (k : KnownAtoms) → k.symbols ≡ v.symbols → unknown_atoms k ≤ atom_count v k.domains
unknown_less v k same =
    let test = λ (a : GroundAtom). is_unknown (value_at k a) in
    let xs = atoms_over k.symbols k.domains in
    let kept = length-filter test xs in
    let few = count_by-le-length test xs in
    let all : length xs ≡ atom_count v k.domains =
    all_atoms k.symbols k.domains ∙ ap (sum_by (atoms_of k.domains)) same in
    omega (arith, kept, few, all)

pub open_is_less : OpenIsLess
open_is_less v k same t terms =
    let atoms = unknown_less v k same in
    let sentences = sum_by-le-sum_by (λ f. open_occurrences v k f []) (λ f. occurrences v k.domains f 1) t.sentences
    (sentence_less v k) in
    let definitions = sum_by-le-sum_by (open_in_definition v k) (definition_occurrences v k.domains) t.definitions
    (definition_less v k) in
    let asked = sum_by-le-sum_by (open_in_asked v k) (asked_occurrences v k.domains) terms (asked_less v k) in
    omega (arith, atoms, sentences, definitions, asked)
