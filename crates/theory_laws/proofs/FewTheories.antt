-- The problem of a theory has few variables.
use Rattle.std.proofs.Common.{◌≤◌, ◌+◌, ◌*◌, List, [], ◌∷◌, ◌∙◌, arith}
use Rattle.std.specs.List.{sum_by, AllByRecursion}
use Rattle.std.proofs.lemmas.List.Sums.{sum_by-cons}
use Rattle.kb_logic.specs.Bases.{Base, NamedTerm}
use Rattle.kb_logic.specs.Domains.{AreDomainsOf}
use Rattle.kb_logic.specs.Trees.{DefinitionTree}
use Rattle.kb_logic.specs.Typing.{IsIntegerIn, TermIsTyped}
use Rattle.kb_logic.specs.Weights.{definition_occurrences}
use Rattle.ground_core.specs.Problems.{ProblemState}
use Rattle.term_values.specs.GroundBases.{GroundBase}
use Rattle.term_values.proofs.Places.{atoms-count}
use Rattle.def_ground.specs.Definitions.{define_of, define_all}
use Rattle.def_ground.specs.Groundings.{ground_base, IsGroundNumber}
use Rattle.def_ground.specs.Problems.{start_problem}
use Rattle.def_ground.specs.Rules.{IsTypedDefinition}
use Rattle.def_ground.specs.Sentences.{assert_sentences}
use Rattle.def_ground.proofs.AskedFew.{all-asked-vars}
use Rattle.def_ground.proofs.FewLaws.{sentences-vars}
use Rattle.def_ground.proofs.StartLaws.{atoms-length}
use Rattle.theory_laws.specs.TheoryLaws.{ProblemIsSmall}
use Rattle.theory_laws.proofs.Fewness.{few-for-definitions}

-- definitions add four variables for each of their occurrences at most
definitions-vars : (b : GroundBase) → AreDomainsOf b.vocabulary b.domains → (ds : List DefinitionTree)
    → AllByRecursion (IsTypedDefinition b.vocabulary b.domains) ds → (p : ProblemState)
    → (define_all b ds p).vars ≤ p.vars + 4 * sum_by (definition_occurrences b.vocabulary b.domains) ds
definitions-vars b given [] h p = omega arith
definitions-vars b given (d ∷ ds) h p =
    let one = few-for-definitions b d p given h.0 in
    let rest = definitions-vars b given ds h.1 (define_of b d p) in
    let sum = sum_by-cons (definition_occurrences b.vocabulary b.domains) d ds in
    omega (arith, one, rest, sum)

numbers-typed : (base : Base) (ts : List NamedTerm) → AllByRecursion (IsGroundNumber base) ts
    → AllByRecursion (λ t. TermIsTyped base.vocabulary (IsIntegerIn base.known.domains) t.term []) ts
numbers-typed base [] h = tt
numbers-typed base (t ∷ ts) h = (h.0.typed, numbers-typed base ts h.1)

pub problem-is-small : ProblemIsSmall
problem-is-small base theory =
    let gb = ground_base base in
    let sentences = assert_sentences gb base.theory.sentences (start_problem gb) in
    let vars = sentences-vars gb theory.known.domains base.theory.sentences (start_problem gb) theory.typed in
    let defined = definitions-vars gb theory.known.domains base.theory.definitions theory.definitions sentences in
    let atoms = atoms-length base.vocabulary.symbols base.known.domains ∙ atoms-count gb in
    let asked = all-asked-vars gb theory.known.domains base.terms (define_all gb base.theory.definitions sentences)
    (numbers-typed base base.terms theory.terms) in
    omega (arith, vars, defined, atoms, asked)
