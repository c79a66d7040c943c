-- Where the static bounds of the terms that may be asked for are small, their values are in range.
use Rattle.std.proofs.Common.{◌≡◌, ℕ, zero, suc, ◌<◌, Bool, List, [], ◌∷◌, length, get_or, sym, subst, arith}
use Rattle.std.specs.List.{AllByRecursion}
use Rattle.kb_logic.specs.declared.structures.Structure.{Structure}
use Rattle.kb_logic.specs.Bases.{Base, NamedTerm}
use Rattle.kb_logic.specs.Bounds.{bounds_of, TermIsBounded}
use Rattle.kb_logic.specs.Meaning.{value_of}
use Rattle.kb_logic.specs.Structures.{EachWith, IsStructure}
use Rattle.kb_logic.proofs.WithinBounds.{values_lie_within_bounds}
use Rattle.ground_core.specs.declared.parts.GroundTerm.{GroundTerm}
use Rattle.ground_core.specs.Meaning.{Satisfies, term_value, IsInRange}
use Rattle.term_values.specs.GroundBases.{structure_of, IsOver}
use Rattle.def_ground.specs.Groundings.{ground_base, IsGroundNumber, IsGroundTheory, theory_problem}
use Rattle.def_ground.proofs.AskedRanges.{bounded-small, value-in-range}
use Rattle.theory_laws.specs.TheoryLaws.{TermsAreInRange}
use Rattle.theory_laws.proofs.ProblemLaws.{names, all-named, problem-right, problem-over}

all-at : {X : Type 0} (P : X → Type 0) (xs : List X) → AllByRecursion P xs → (k : ℕ) (d : X) → k < length xs
    → P (get_or xs k d)
all-at P [] h k d lt = absurd (omega (arith, lt))
all-at P (x ∷ xs) h zero d lt = h.0
all-at P (x ∷ xs) h (suc k) d lt = all-at P xs h.1 k d (omega (arith, lt))

module _ (base : Base) (theory : IsGroundTheory base) (v : ℕ → Bool) (over : IsOver (ground_base base) v)
    (structure : IsStructure base.vocabulary (structure_of (ground_base base) v)) where
  abbrev m : Structure
  m = structure_of (ground_base base) v

  value-in : (t : NamedTerm) → IsGroundNumber base t → TermIsBounded base.vocabulary base.known.domains t.term []
      → IsInRange (value_of m t.term [])
  value-in t is bounded =
      value-in-range (ground_base base) theory.known.domains v over t.term is.typed is.numeric is.placed
      (bounds_of base.vocabulary base.known.domains t.term [])
      (bounded-small base.vocabulary base.known.domains t.term [] bounded)
      (values_lie_within_bounds base.vocabulary m structure t.term [] [] tt)

  values-in : (ts : List NamedTerm) (gs : List GroundTerm) → AllByRecursion (IsGroundNumber base) ts
      → AllByRecursion (λ (t : NamedTerm). TermIsBounded base.vocabulary base.known.domains t.term []) ts
      → EachWith (λ (t : NamedTerm) (g : GroundTerm). term_value v g ≡ value_of m t.term []) ts gs
      → AllByRecursion (λ g. IsInRange (term_value v g)) gs
  values-in [] [] is bounded h = tt
  values-in [] (g ∷ gs) is bounded h = absurd h
  values-in (t ∷ ts) [] is bounded h = absurd h
  values-in (t ∷ ts) (g ∷ gs) is bounded h =
      (subst IsInRange (sym h.0) (value-in t is.0 bounded.0), values-in ts gs is.1 bounded.1 h.1)

each-value : (base : Base) (v : ℕ → Bool) → Satisfies (theory_problem base) v → (ts : List NamedTerm)
    (gs : List GroundTerm)
    → EachWith (λ (t : NamedTerm) (g : GroundTerm). (w : ℕ → Bool) → Satisfies (theory_problem base) w
    → term_value w g ≡ value_of (structure_of (ground_base base) w) t.term []) ts gs
    → EachWith (λ (t : NamedTerm) (g : GroundTerm). term_value v g
    ≡ value_of (structure_of (ground_base base) v) t.term []) ts gs
each-value base v s [] [] h = tt
each-value base v s [] (g ∷ gs) h = absurd h
each-value base v s (t ∷ ts) [] h = absurd h
each-value base v s (t ∷ ts) (g ∷ gs) h = (h.0 v s, each-value base v s ts gs h.1)

pub terms-in-range : TermsAreInRange
terms-in-range base theory bounded = λ v s k d lt.
    let n = names base theory in
    let model = (problem-right base theory).gives v s in
    let each = values-in base theory v (problem-over base theory v s) model.structure base.terms n.named theory.terms
    bounded (each-value base v s base.terms n.named n.values) in
    all-at (λ g. IsInRange (term_value v g)) (theory_problem base).terms
    (subst (AllByRecursion (λ g. IsInRange (term_value v g))) (sym (all-named base theory)) each) k d lt
