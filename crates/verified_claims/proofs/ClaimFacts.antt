-- What claims that hold of a ground problem say of the models of its knowledge base.
use Rattle.std.proofs.Common.{◌≡◌, ℕ, ◌+◌, ◌-◌, Bool, false, List, [], ◌∷◌, length, All, Option, None, Some}
use Rattle.std.proofs.Common.{IfSome, slice_get, refl, sym, ap, ◌∙◌, subst, arith, ⊎_elim}
use Rattle.std.specs.List.{AllByRecursion}
use Rattle.std.proofs.lemmas.Option.{slice_get_cases}
use Rattle.std.proofs.lemmas.List.Elements.{All-nil, All-push}
use Rattle.kb_logic.specs.declared.elements.ExtInt.{ExtInt}
use Rattle.kb_logic.specs.declared.structures.Literal.{Literal}
use Rattle.kb_logic.specs.declared.structures.Structure.{Structure}
use Rattle.kb_logic.specs.declared.syntax.Cmp.TheVariants as cmp
use Rattle.kb_logic.specs.Bases.{Base, NamedTerm, IsModelUnder}
use Rattle.kb_logic.specs.Denotations.{Denotation, compared, denotation_of_bound, lower_value}
use Rattle.kb_logic.specs.Meaning.{value_of}
use Rattle.kb_logic.specs.Models.{HoldsIn}
use Rattle.kb_logic.specs.Structures.{EachWith}
use Rattle.lit_core.specs.declared.literals.Lit.{Lit}
use Rattle.ground_core.specs.declared.parts.GroundTerm.{GroundTerm}
use Rattle.ground_core.specs.Problems.{ProblemState, IsLitOf, AreLitsOf}
use Rattle.ground_core.specs.Meaning.{Satisfies, MakesTrue, term_value}
use Rattle.ground_core.specs.Growing.{value_at, value_of_term}
use Rattle.derivation_log.specs.declared.claims.Claim.{Claim}
use Rattle.derivation_log.specs.declared.claims.Claim.TheVariants as claim
use Rattle.derivation_log.specs.declared.entries.Entry.{Entry}
use Rattle.derivation_log.specs.declared.entries.Entry.TheVariants as entry
use Rattle.derivation_log.specs.Checks.{IsAccepted}
use Rattle.derivation_log.specs.Claims.{ClaimHolds}
use Rattle.derivation_log.specs.Steps.{CheckState, LogStep, Accepts, AreAtoms, IsTermNumber, start, after, after_all}
use Rattle.term_values.specs.GroundBases.{structure_of}
use Rattle.term_values.specs.KnownBases.{IsGroundBase}
use Rattle.term_values.proofs.TypedLaws.{domains-ground}
use Rattle.def_ground.specs.Groundings.{IsGroundTheory, IsGroundingOf}
use Rattle.def_ground.proofs.StartLaws.{atoms-length}
use Rattle.narrowed_bases.specs.Narrowings.{IsProblemOf}
use Rattle.atom_numbers.specs.Numbers.{HasNumber}
use Rattle.atom_numbers.proofs.LiteralFacts.{all-true, true-holds}
use Rattle.verified_claims.specs.declared.said.SaidClaim.TheVariants.{Inconsistent, Forced, Least}
use Rattle.verified_claims.specs.SaidClaims.{IsTrueOf, atom_base}
use Rattle.verified_claims.specs.RightClaims.{IsOver, IsRight, AreClaimsOf, atom_count}

-- the claim speaks of ground atoms and of a term of the problem
abbrev IsOf : ProblemState → Claim → Type 0
IsOf p (claim.Inconsistent line lits) = AreAtoms p lits
IsOf p (claim.Forced line l lits) = IsLitOf (length p.atoms) l × AreAtoms p lits
IsOf p (claim.Least line t k lits) = IsTermNumber p t × AreAtoms p lits

module _ (p : ProblemState) where
  step-of : (st : CheckState) (e : Entry) → LogStep p st e → All (IsOf p) st.claims → All (IsOf p) (after st e).claims
  step-of st (entry.Mark n) step of = of
  step-of st (entry.Learnt lits hints) step of = of
  step-of st (entry.Sum n lits) step of = of
  step-of st (entry.Bound s t k) step of = of
  step-of st (entry.Exclude s lits) step of = of
  step-of st (entry.Inconsistent lits c) step of =
      All-push (IsOf p) st.claims (claim.Inconsistent st.line lits) of step.0
  step-of st (entry.Forced l lits c) step of =
      All-push (IsOf p) st.claims (claim.Forced st.line l lits) of (step.0, step.1)
  step-of st (entry.Least t k lits c) step of =
      All-push (IsOf p) st.claims (claim.Least st.line t k lits) of (step.0, step.2)

  steps-of : (es : List Entry) (st : CheckState) → Accepts p st es → All (IsOf p) st.claims
      → All (IsOf p) (after_all st es).claims
  steps-of [] st steps of = of
  steps-of (e ∷ es) st steps of = steps-of es (after st e) steps.1 (step-of st e steps.0 of)

  pub accepted-of : (log : List ℕ) (claims : List Claim) → IsAccepted p log claims → All (IsOf p) claims
  accepted-of log claims is = subst (All (IsOf p)) is.claims_are
      (steps-of is.entries (start p) is.steps (All-nil (IsOf p)))

  of-over : (n : ℕ) → length p.atoms ≡ n → (c : Claim) → IsOf p c → IsOver n c
  of-over n size (claim.Inconsistent line lits) of = subst (λ (k : ℕ). AreLitsOf k lits) size of
  of-over n size (claim.Forced line l lits) of = (
    subst (λ (k : ℕ). IsLitOf k l) size of.0,
    subst (λ (k : ℕ). AreLitsOf k lits) size of.1,
  )
  of-over n size (claim.Least line t k lits) of = (of.0.0, subst (λ (i : ℕ). AreLitsOf i lits) size of.1)

module _ (base : Base) (p : ProblemState) (g : IsGroundingOf base p) (fine : IsGroundBase (atom_base base)) where
  -- a model under the choices is the structure of a valuation that makes their literals true
  valued : (choices : List Literal) (lits : List Lit) → EachWith (HasNumber (atom_base base)) choices lits
      → (m : Structure) → IsModelUnder base choices m
      → (v : ℕ → Bool) × Satisfies p v × MakesTrue v lits × (structure_of (atom_base base) v ≡ m)
  valued choices lits each m model =
      let e = g.extends m
      (record { structure = model.structure; extends = model.extends; theory = model.theory; chosen = tt }) in (
        e.0,
        e.1,
        all-true (atom_base base) fine e.0 choices lits each
            (subst (λ (x : Structure). AllByRecursion (HoldsIn x) choices) (sym e.2) model.chosen),
        e.2,
      )

  -- where the term's value is not below a number, whether or not the term is there
  lower : (v : ℕ → Bool) (d : Denotation) (o : Option GroundTerm)
      → IfSome o (λ t. compared cmp.Lt (term_value v t) d ≡ false) → lower_value (value_of_term o v) d ≡ false
  lower v d None h = refl
  lower v d (Some t) h = h

  -- no model under the choices gives the term a value below the number
  never-below : (n t : ℕ) (k : ExtInt) (lits : List Lit) → ClaimHolds p (claim.Least n t k lits) → (term : ℕ)
      → t ≡ term + 1 → (choices : List Literal) → EachWith (HasNumber (atom_base base)) choices lits
      → (x : NamedTerm) → slice_get base.terms term ≡ Some x → (m : Structure) → IsModelUnder base choices m
      → lower_value (value_of m x.term []) (denotation_of_bound k) ≡ false
  never-below n t k lits holds term counted choices each x is m model =
      let e = valued choices lits each m model in
      let place : t - 1 ≡ term = omega (arith, counted) in
      let below : lower_value (value_at p term e.0) (denotation_of_bound k) ≡ false =
      lower e.0 (denotation_of_bound k) (slice_get p.terms term)
      (subst (λ (i : ℕ). IfSome (slice_get p.terms i)
      (λ y. compared cmp.Lt (term_value e.0 y) (denotation_of_bound k) ≡ false)) place (holds e.0 e.1 e.2)) in
      subst (λ (d : Denotation). lower_value d (denotation_of_bound k) ≡ false)
      (g.terms term x is e.0 e.1 ∙ ap (λ (y : Structure). value_of y x.term []) e.3) below

  pub is-right : (c : Claim) → IsOf p c → ClaimHolds p c → IsRight base c
  is-right (claim.Inconsistent n lits) of holds (Inconsistent line choices) says =
      λ m model. let e = valued choices lits says.1 m model in holds e.0 e.1 e.2
  is-right (claim.Inconsistent n lits) of holds (Forced line l choices) says = absurd says
  is-right (claim.Inconsistent n lits) of holds (Least line term v choices) says = absurd says
  is-right (claim.Forced n lit lits) of holds (Inconsistent line choices) says = absurd says
  is-right (claim.Forced n lit lits) of holds (Forced line l choices) says =
      λ m model. let e = valued choices lits says.2 m model in
      subst (λ (x : Structure). HoldsIn x l) e.3
      (true-holds (atom_base base) fine e.0 l lit says.1 (holds e.0 e.1 e.2))
  is-right (claim.Forced n lit lits) of holds (Least line term v choices) says = absurd says
  is-right (claim.Least n t k lits) of holds (Inconsistent line choices) says = absurd says
  is-right (claim.Least n t k lits) of holds (Forced line l choices) says = absurd says
  is-right (claim.Least n t k lits) of holds (Least line term v choices) says =
      subst (λ (w : ExtInt). IsTrueOf base (Least line term w choices)) (sym says.2)
      (⊎_elim
      (λ c. (
        c.0,
        c.2,
        never-below n t k lits holds term says.1 choices says.3 c.0 c.2,
      ))
      (λ c. let number : length p.terms ≡ length base.terms = g.number in
      absurd (omega (arith, c.0, says.1, of.0.1, number)))
      (slice_get_cases base.terms term).1)

-- the accepted claims of a log over a grounding
pub are-claims : (base : Base) (p : ProblemState) (log : List ℕ) (claims : List Claim) → IsProblemOf base p
    → IsGroundTheory base → IsGroundingOf base p → IsAccepted p log claims → All (ClaimHolds p) claims
    → AreClaimsOf base log claims
are-claims base p log claims is theory g accepted holds = record {
  accepted = (p, is, accepted);
  over = λ k d lt. of-over p (atom_count base) size _ (of k d lt);
  right = λ k d lt. is-right base p g fine _ (of k d lt) (holds k d lt);
}
  where
    of : All (IsOf p) claims
    of = accepted-of p log claims accepted

    size : length p.atoms ≡ atom_count base
    size = ap length g.atoms ∙ atoms-length base.vocabulary.symbols base.known.domains

    fine : IsGroundBase (atom_base base)
    fine = domains-ground (atom_base base) theory.known.domains
