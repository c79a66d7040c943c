-- What the definitions promise.
use Rattle.std.specs.Prelude.{◌≡◌, ℕ, ◌+◌, ◌*◌, ◌≤◌, List, [], ◌∷◌, Bool, not, ◌||◌, if◌then◌else◌, All}
use Rattle.std.specs.List.{list_all, list_any, AllByRecursion}
use Rattle.kb_logic.specs.declared.elements.Elem.{Elem}
use Rattle.kb_logic.specs.Trees.{FormulaTree}
use Rattle.kb_logic.specs.Bounds.{HasTypes}
use Rattle.kb_logic.specs.Domains.{AreDomainsOf}
use Rattle.kb_logic.specs.Typing.{IsTypedOver}
use Rattle.kb_logic.specs.Weights.{occurrences}
use Rattle.kb_logic.specs.Meaning.{truth_of}
use Rattle.lit_core.specs.declared.literals.Lit.{Lit}
use Rattle.lit_core.specs.Literals.{literal_value}
use Rattle.lit_core.specs.Truth.{IsSatisfied}
use Rattle.ground_core.specs.Problems.{ProblemState, IsProblem, AreLitsOf}
use Rattle.ground_core.specs.Meaning.{Satisfies, SumHolds}
use Rattle.ground_core.specs.More.{Agree}
use Rattle.term_values.specs.GroundBases.{GroundBase, structure_of, true_values, HasKnown}
use Rattle.def_ground.specs.Cases.{Case, cases_of}
use Rattle.def_ground.specs.Forms.{form_of}
use Rattle.def_ground.specs.Sentences.{assert_of, assert_sentences}
use Rattle.def_ground.specs.Problems.{one_of_clauses, one_of_sums, open_variables}
use Rattle.def_ground.specs.GroundForms.{IsGroundForm}
use Rattle.def_ground.specs.Meanings.{Means, AssertsMore, HasAtoms, HasRoom, IsCaseOf, CasesSay}

-- what cases come to is what they say
abbrev pub CasesAreRight : Type 0
CasesAreRight =
    (p : ProblemState) (cs : List Case) (V : (ℕ → Bool) → Bool) → IsProblem p → AllByRecursion (IsCaseOf p.vars) cs
    → ((v w : ℕ → Bool) → Agree p.vars v w → V v ≡ V w) → ((v : ℕ → Bool) → Satisfies p v → CasesSay v cs (V v))
    → Means p (cases_of cs p).problem (cases_of cs p).answer V

-- in each valuation the answer is the formula's truth, and there is one valuation for each before
abbrev pub FormIsRight : Type 0
FormIsRight =
    (b : GroundBase) (f : FormulaTree) (e : List Elem) (p : ProblemState)
    → IsProblem p → HasAtoms b p → HasRoom b p → IsGroundForm b f e
    → Means p (form_of b f e p).problem (form_of b f e p).answer (λ v. truth_of (structure_of b v) f e)

-- exactly the valuations remain in which one of the literals is true, or the formula is, or where the sign is false is
-- not
abbrev pub AssertionIsRight : Type 0
AssertionIsRight =
    (b : GroundBase) (sign : Bool) (f : FormulaTree) (e : List Elem) (ls : List Lit) (p : ProblemState)
    → IsProblem p → HasAtoms b p → HasRoom b p → IsGroundForm b f e → AreLitsOf p.vars ls
    → AssertsMore p (assert_of b sign f e ls p)
    (λ v. list_any (literal_value v) ls ||
    (if sign then truth_of (structure_of b v) f e else not (truth_of (structure_of b v) f e)))

-- exactly the valuations remain in which all sentences are true
abbrev pub SentencesAreAsserted : Type 0
SentencesAreAsserted =
    (b : GroundBase) (fs : List FormulaTree) (p : ProblemState)
    → IsProblem p → HasAtoms b p → HasRoom b p → AllByRecursion (λ f. IsGroundForm b f []) fs
    → AssertsMore p (assert_sentences b fs p) (λ v. list_all (λ f. truth_of (structure_of b v) f []) fs)

-- the clauses and the sum of exactly one of these, of n ground atoms, hold
pub record OneOfHolds (n : ℕ) (v : ℕ → Bool) (ls : List Lit) : Type 0 where
  pub clauses : All (IsSatisfied v) (one_of_clauses n ls)
  pub sums : All (SumHolds v) (one_of_sums n ls)

-- in a valuation with what is known, the clauses and the sum of exactly one of the open variables say that exactly one
-- of the values is chosen
abbrev pub OneEachByClauses : Type 0
OneEachByClauses =
    (b : GroundBase) (v : ℕ → Bool) (m n : ℕ) (xs : List Elem) → HasKnown b v
    → (OneOfHolds m v (open_variables b n xs) → (x : Elem) × (true_values v n xs ≡ x ∷ []))
    × ((x : Elem) → true_values v n xs ≡ x ∷ [] → OneOfHolds m v (open_variables b n xs))

-- a well typed formula adds no more than four variables for each of its occurrences
abbrev pub FewVariables : Type 0
FewVariables =
    (b : GroundBase) (f : FormulaTree) (scope : List ℕ) (e : List Elem) (p : ProblemState)
    → AreDomainsOf b.vocabulary b.domains → HasTypes b.domains scope e
    → IsTypedOver b.vocabulary b.domains f scope
    → (form_of b f e p).problem.vars ≤ p.vars + 4 * occurrences b.vocabulary b.domains f 1
