use Rattle.std.proofs.Common.{◌≡◌, ◌∙◌, ℕ, ap, subst}
use Rattle.kb_logic.specs.Bases.{Base}
use Rattle.kb_logic.specs.KnownAtoms.{KnownAtoms}
use Rattle.stage_definitions.specs.FileBases.{base_of_file}
use Rattle.type_derivation.specs.declared.typed.TypedKb.{TypedKb}
use Rattle.type_derivation.specs.TypedViews.{typed_view}
use Rattle.consult_base.specs.Opened.{Opened, base_of, IsKnowledgeBase}
use Rattle.ground_core.specs.Problems.{ProblemState}
use Rattle.def_ground.specs.Groundings.{IsGroundingOf, theory_problem}
use Rattle.narrowed_bases.specs.Narrowings.{IsProblemOf, grounded_base}
use Rattle.narrowed_bases.specs.declared.narrowings.Narrowing.{Narrowing}
use Rattle.verified_claims.proofs.checking.problem_of.Goals as goal

-- the base that was ground is the knowledge base's
abbrev IsSame : Opened → TypedKb → ℕ → KnownAtoms → Type 0
IsSame kb typed theory known = base_of_file (typed_view typed) theory known ≡ base_of kb

same-base : (kb : Opened) (typed : TypedKb) (theory : ℕ) (known : KnownAtoms) → typed ≡ kb.typed → theory ≡ kb.theory
    → known ≡ kb.known → IsSame kb typed theory known
same-base kb typed theory known t n k =
    ap (λ (x : TypedKb). base_of_file (typed_view x) theory known) t
    ∙ ap (λ (x : ℕ). base_of_file (typed_view kb.typed) x known) n
    ∙ ap (λ (x : KnownAtoms). base_of_file (typed_view kb.typed) kb.theory x) k

-- and what was ground is its problem
problem-of : (kb : Opened) (b : Base) (n : Narrowing) (p : ProblemState) → b ≡ base_of kb → n ≡ kb.narrowing
    → IsKnowledgeBase kb → p ≡ theory_problem (grounded_base b n) → IsProblemOf (base_of kb) p
problem-of kb b n p same narrowing is value = (
  kb.narrowing,
  is.narrowing,
  value ∙ ap (λ (x : Base). theory_problem (grounded_base x n)) same
      ∙ ap (λ (x : Narrowing). theory_problem (grounded_base (base_of kb) x)) narrowing,
)

pub returns-in-Ok-clause-problem : goal.returns-in-Ok-clause-problem
returns-in-Ok-clause-problem c =
    let same = same-base c.args.kb.now c.typed.result.now c.theory.result c.«data».result.now c.typed.ensures.typed
    c.theory.ensures c.«data».ensures.known in
    problem-of c.args.kb.now _ c.narrowing.result.now c.in-Ok.problem same c.narrowing.ensures.narrowing
    c.typed.ensures.is c.in-Ok.ensures.value

pub returns-in-Ok-clause-grounding : goal.returns-in-Ok-clause-grounding
returns-in-Ok-clause-grounding c =
    subst (λ (b : Base). IsGroundingOf b c.in-Ok.problem)
    (same-base c.args.kb.now c.typed.result.now c.theory.result c.«data».result.now c.typed.ensures.typed
    c.theory.ensures c.«data».ensures.known)
    c.in-Ok.ensures.right
