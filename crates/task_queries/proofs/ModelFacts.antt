-- What valuations that differ, or are all, say of their structures.
use Rattle.std.proofs.Common.{◌≡◌, ℕ, zero, suc, ◌<◌, ◌≤◌, Bool, true, false, not, List, [], ◌∷◌, map, length, All}
use Rattle.std.proofs.Common.{Contains, Some, nat_eq, slice_get, refl, sym, ap, ◌∙◌, subst, arith, inl, inr, ⊎_elim}
use Rattle.std.specs.List.{AllByRecursion}
use Rattle.std.proofs.Math.Dec.{eqb-suc-zero}
use Rattle.std.proofs.lemmas.Bool.{both_ways, cases_Bool}
use Rattle.std.proofs.lemmas.List.{length-map}
use Rattle.std.proofs.lemmas.List.Elements.{All-contains, All-head, All-tail}
use Rattle.std.proofs.lemmas.Option.{slice_get_cases}
use Rattle.kb_logic.specs.declared.structures.Literal.{Literal}
use Rattle.kb_logic.specs.declared.structures.Structure.{Structure}
use Rattle.kb_logic.specs.Bases.{Base}
use Rattle.kb_logic.specs.InForce.{HasNoModel, IsModelOf}
use Rattle.kb_logic.specs.Answers.{AreModels, EndsAt}
use Rattle.kb_logic.specs.KnownAtoms.{atoms_over}
use Rattle.kb_logic.specs.Models.{GroundAtom, AtomHolds}
use Rattle.kb_logic.specs.Structures.{EachWith, IsDistinct}
use Rattle.kb_logic.proofs.Members.{from_map, in_map}
use Rattle.lit_core.specs.declared.literals.Lit.{Lit}
use Rattle.lit_core.specs.Literals.{valuation}
use Rattle.ground_core.specs.Problems.{ProblemState, IsProblem}
use Rattle.ground_core.specs.Laws.{Differs}
use Rattle.ground_core.specs.Calls.{GrowsByAdditions}
use Rattle.term_values.specs.GroundBases.{GroundBase, structure_of}
use Rattle.term_values.specs.KnownBases.{IsGroundBase}
use Rattle.term_values.proofs.StructureAtoms.{atom-true}
use Rattle.term_values.proofs.StructureLaws.{only-atoms-matter}
use Rattle.atom_numbers.specs.Numbers.{HasNumber}
use Rattle.model_search.specs.Models.{IsLeft}
use Rattle.model_expansion.specs.Exclusions.{AreApart}
use Rattle.model_expansion.specs.Enumerations as enumerations
use Rattle.ground_task.specs.Tasks.{IsTaskOf, AreRefuted}
use Rattle.ground_task.proofs.TaskFacts.{fine, atoms-number, is-model, valued, shown-of}
use Rattle.task_laws.proofs.Outlasting.{outlasts}
use Rattle.task_queries.specs.Queries.{under}

-- a call that adds leaves the task
pub task-grows : (base : Base) (b c : GroundBase) (p q : ProblemState) → c ≡ b → IsProblem p → GrowsByAdditions p q
    → IsTaskOf base b p → IsTaskOf base c q
task-grows base b c p q numbers is grows h = subst (λ (x : GroundBase). IsTaskOf base x q) (sym numbers)
    (outlasts (λ g v w good agree. only-atoms-matter g good v w agree) base b p q is h grows)

pub is-empty : {A : Type 0} (xs : List A) → true ≡ nat_eq (length xs) 0 → xs ≡ []
is-empty [] e = refl
is-empty (x ∷ xs) e = absurd (both_ways false refl (sym (eqb-suc-zero (length xs)) ∙ sym e))

pub not-empty : {A : Type 0} (xs : List A) → false ≡ nat_eq (length xs) 0 → 0 < length xs
not-empty [] e = absurd (both_ways false refl e)
not-empty (x ∷ xs) e = omega arith

-- valuations that differ at an atom's variable have different structures
module _ (b : GroundBase) (is : IsGroundBase b) (v w : ℕ → Bool) (j : ℕ) (a : GroundAtom)
    (at : slice_get (atoms_over b.vocabulary.symbols b.domains) j ≡ Some a) (other : w (suc j) ≡ not (v (suc j)))
    (same : structure_of b v ≡ structure_of b w) where
  there : v (suc j) ≡ true → w (suc j) ≡ true
  there on = (atom-true b is w j a at).0
      (subst (λ (m : Structure). AtomHolds m a) same ((atom-true b is v j a at).1 on))

  back : w (suc j) ≡ true → v (suc j) ≡ true
  back on = (atom-true b is v j a at).0
      (subst (λ (m : Structure). AtomHolds m a) (sym same) ((atom-true b is w j a at).1 on))

  apart-at : ⊥
  apart-at = elim (cases_Bool (v (suc j))) [
    | inl on ↦ both_ways false refl (sym (other ∙ ap not on) ∙ there on)
    | inr off ↦ both_ways false refl (sym off ∙ back (other ∙ ap not off))
  ]

module _ (base : Base) (b : GroundBase) (p : ProblemState) (h : IsTaskOf base b p) where
  abbrev made : List Bool → Structure
  made values = structure_of b (valuation values)

  differ : (values : List Bool) (w : ℕ → Bool) → Differs p values w → made values ≡ structure_of b w → ⊥
  differ values w d same = at d.0 d.1 d.2 d.3
    where
      at : (k : ℕ) → 1 ≤ k → k ≤ length p.atoms → w k ≡ not (valuation values k) → ⊥
      at zero low high other = absurd (omega (arith, low))
      at (suc j) low high other = ⊎_elim
          (λ c. apart-at b (fine base b p h) (valuation values) w j c.0 c.2 other same)
          (λ c. let number : length p.atoms ≡ length (atoms_over b.vocabulary.symbols b.domains) =
          atoms-number base b p h in absurd (omega (arith, high, c.0, number)))
          (slice_get_cases (atoms_over b.vocabulary.symbols b.domains) j).1

  not-among : (vs : List (List Bool)) (w : ℕ → Bool) → All (λ u. Differs p u w) vs
      → Contains (map made vs) (structure_of b w) → ⊥
  not-among vs w differs has =
      let u = from_map made vs (structure_of b w) has in
      differ u.0 w (All-contains (λ x. Differs p x w) vs u.0 differs u.1) u.2

  distinct : (vs : List (List Bool)) → AreApart p vs → IsDistinct (map made vs)
  distinct [] apart = tt
  distinct (v ∷ vs) apart = (
    λ has. let u = from_map made vs (made v) has in
        differ v (valuation u.0) (All-contains (λ x. Differs p v (valuation x)) vs u.0 apart.0 u.1) (sym u.2),
    distinct vs apart.1,
  )

  module _ (choices : List Literal) (lits : List Lit) (each : EachWith (HasNumber b) choices lits) where
    are-models : (vs : List (List Bool)) → All (IsLeft p lits) vs
        → AllByRecursion (IsModelOf base (under choices)) (map made vs)
    are-models [] left = tt
    are-models (v ∷ vs) left =
        let first : IsLeft p lits v = All-head (IsLeft p lits) v vs left in (
          is-model base b p h choices lits each (valuation v) first.1 first.2,
          are-models vs (All-tail (IsLeft p lits) v vs left),
        )

    ends-at : (n : ℕ) (vs : List (List Bool)) (all : Bool) → enumerations.EndsAt p lits n vs all
        → EndsAt base (under choices) n (map made vs) all
    ends-at n vs true ends = λ m model.
        let e = valued base b p h choices lits each m model in
        let any = ends e.0 e.1 e.2 in
        let number : length p.atoms ≡ length (atoms_over b.vocabulary.symbols b.domains) = atoms-number base b p h in
        let same : made any.1 ≡ m = only-atoms-matter b (fine base b p h) (valuation any.1) e.0
        (λ k low high. any.4 k low (omega (arith, high, number))) ∙ e.3 in
        subst (Contains (map made vs)) same (in_map made vs any.1 (any.0, any.2, any.3))
    ends-at n vs false ends =
        let other = ends.1 in (
          length-map vs made ∙ ends.0,
          (
            structure_of b other.0,
            is-model base b p h choices lits each other.0 other.1 other.2,
            not-among vs other.0 other.3,
          ),
        )

    -- the structures of several models
    pub are-several : (n : ℕ) (cores : List (List Lit)) (vs : List (List Bool)) (all : Bool) → 0 < length vs
        → enumerations.FindsSeveral p lits n cores (record { found = vs; complete = all })
        → AreModels base (under choices) n (map made vs) all
    are-several n cores vs all some found = record {
      some = let number : length (map made vs) ≡ length vs = length-map vs made in
          omega (arith, some, number);
      most = let number : length (map made vs) ≡ length vs = length-map vs made in
          omega (arith, found.most, number);
      models = are-models vs found.models.left;
      apart = distinct vs found.models.apart;
      ends = ends-at n vs all found.ends;
    }

    -- where none was found, there is none
    pub none-several : (n : ℕ) (cores : List (List Lit)) (vs : List (List Bool)) (all : Bool) → 1 ≤ n → vs ≡ []
        → enumerations.FindsSeveral p lits n cores (record { found = vs; complete = all })
        → HasNoModel base (under choices)
    none-several n cores vs all some none found = λ m model. at all found.ends m model
      where
        at : (all : Bool) → enumerations.EndsAt p lits n vs all → HasNoModel base (under choices)
        at true ends = λ m model.
            let e = valued base b p h choices lits each m model in
            let any = ends e.0 e.1 e.2 in
            let number : length vs ≡ 0 = ap length none in absurd (omega (arith, any.2, number))
        at false ends = λ m model.
            let number : length vs ≡ 0 = ap length none in absurd (omega (arith, ends.0, number, some))

    -- and a kept core shows that
    pub none-shown : (n : ℕ) (cores : List (List Lit)) (vs : List (List Bool)) (all : Bool) → 1 ≤ n → vs ≡ []
        → enumerations.FindsSeveral p lits n cores (record { found = vs; complete = all })
        → AreRefuted b choices cores
    none-shown n cores vs all some none found = λ others each-other.
        shown-of base b p h choices lits others each each-other cores (found.shown none (complete all found.ends))
      where
        complete : (all : Bool) → enumerations.EndsAt p lits n vs all → all ≡ true
        complete true ends = refl
        complete false ends =
            let number : length vs ≡ 0 = ap length none in absurd (omega (arith, ends.0, number, some))
