-- What definitions promise.
use Rattle.std.specs.Prelude.{◌≡◌, ◌↔◌, ℕ, ◌+◌, ◌*◌, ◌≤◌, Bool, true, false, ◌&&◌, List, nat_eq, Option, Some, None}
use Rattle.std.specs.List.{list_all, list_any}
use Rattle.kb_logic.specs.Structures.{choices}
use Rattle.kb_logic.specs.Meaning.{truth_of}
use Rattle.kb_logic.specs.Trees.{RuleTree, DefinitionTree}
use Rattle.kb_logic.specs.Models.{ModelOfDefinition}
use Rattle.kb_logic.specs.Domains.{AreDomainsOf}
use Rattle.kb_logic.specs.Weights.{definition_occurrences}
use Rattle.lit_core.specs.Literals.{by_sign}
use Rattle.ground_core.specs.Problems.{ProblemState, IsProblem}
use Rattle.ground_core.specs.Meaning.{Satisfies}
use Rattle.ground_core.specs.More.{Agree}
use Rattle.term_values.specs.GroundBases.{GroundBase, structure_of, known_of, IsOver}
use Rattle.def_ground.specs.Answers.{answer_value}
use Rattle.def_ground.specs.Forms.{answer_of_atom}
use Rattle.def_ground.specs.Meanings.{AssertsMore, HasAtoms, HasRoom}
use Rattle.def_ground.specs.Definitions.{define_of, head_var, defined_vars}
use Rattle.def_ground.specs.Rules.{IsTypedDefinition}

-- q says more than p: a fact of p's variables, and it defines its own
pub record AssertsThat (p q : ProblemState) (V : (ℕ → Bool) → Type 0) : Type 0 where
  pub fine : IsProblem q
  pub grows : p.vars ≤ q.vars
  pub gives : (v : ℕ → Bool) → Satisfies q v → Satisfies p v × V v
  pub extends : (v : ℕ → Bool) → Satisfies p v → V v → (w : ℕ → Bool) × Agree p.vars v w × Satisfies q w
  pub unique : (v w : ℕ → Bool) → Satisfies q v → Satisfies q w → Agree p.vars v w → Agree q.vars v w

-- under the assignment the rule's head is the atom of this variable
abbrev pub is_head_at : Option ℕ → ℕ → Bool
is_head_at None n = false
is_head_at (Some k) n = nat_eq k n

-- some instance of some rule has the atom of this variable as its head, and a true body
abbrev pub is_derived : GroundBase → (ℕ → Bool) → List RuleTree → ℕ → Bool
is_derived b v rs n = list_any (λ (r : RuleTree). list_any (λ e. is_head_at (head_var b r e) n
    && truth_of (structure_of b v) r.body e) (choices b.domains r.vars)) rs

-- each atom of a defined symbol is true exactly where it is derived
abbrev pub is_completed : GroundBase → DefinitionTree → (ℕ → Bool) → Bool
is_completed b d v = list_all
    (λ n. by_sign (answer_value v (answer_of_atom (known_of b n) n)) (is_derived b v d.rules n)) (defined_vars b d)

-- in a valuation of the ground atoms the definition is completed exactly where the structure is a model of it
abbrev pub CompletedIsModel : Type 0
CompletedIsModel =
    (b : GroundBase) (d : DefinitionTree) (v : ℕ → Bool) → AreDomainsOf b.vocabulary b.domains
    → IsTypedDefinition b.vocabulary b.domains d → IsOver b v
    → is_completed b d v ≡ true ↔ ModelOfDefinition b.vocabulary (structure_of b v) d

-- exactly the valuations remain in which the definition is completed
abbrev pub CompletionIsRight : Type 0
CompletionIsRight =
    (b : GroundBase) (d : DefinitionTree) (p : ProblemState) → AreDomainsOf b.vocabulary b.domains
    → IsTypedDefinition b.vocabulary b.domains d → IsProblem p → HasAtoms b p → HasRoom b p
    → AssertsMore p (define_of b d p) (is_completed b d)

-- exactly the valuations remain whose structures are models of the definition
abbrev pub DefinitionIsAsserted : Type 0
DefinitionIsAsserted =
    (b : GroundBase) (d : DefinitionTree) (p : ProblemState) → AreDomainsOf b.vocabulary b.domains
    → IsTypedDefinition b.vocabulary b.domains d → IsProblem p → HasAtoms b p → HasRoom b p
    → AssertsThat p (define_of b d p) (λ v. ModelOfDefinition b.vocabulary (structure_of b v) d)

-- no more variables than the weight of the definition allows
abbrev pub FewForDefinitions : Type 0
FewForDefinitions =
    (b : GroundBase) (d : DefinitionTree) (p : ProblemState) → AreDomainsOf b.vocabulary b.domains
    → IsTypedDefinition b.vocabulary b.domains d
    → (define_of b d p).vars ≤ p.vars + 4 * definition_occurrences b.vocabulary b.domains d
