-- What bounds on terms force, in a search.
use Rattle.std.proofs.Common.{◌≡◌, ℕ, ◌+◌, ◌<◌, Bool, false, Option, Some, None, List, ◌∷◌, length, get_or, refl}
use Rattle.std.proofs.Common.{subst, ◌⊎◌, inl, inr, ⊎_elim, arith, All, Any}
use Rattle.std.specs.Prelude.{Result, Ok, Err, OnOk}
use Rattle.std.proofs.lemmas.List.Elements.{All-cons, All-weaker}
use Rattle.std.proofs.lemmas.Option.{get_or_from_slice_get, slice_get_within}
use Rattle.lit_core.specs.declared.literals.Lit.{Lit}
use Rattle.lit_core.specs.Literals.{value_in}
use Rattle.lit_core.specs.Truth.{IsFalsified, IsSatisfied, IsUnitAt}
use Rattle.lit_core.proofs.LiteralFacts.{Contains-head}
use Rattle.ground_core.specs.declared.parts.GroundTerm.{GroundTerm}
use Rattle.ground_core.specs.declared.parts.Part.{Part}
use Rattle.ground_core.specs.declared.parts.TermBound.{TermBound}
use Rattle.ground_core.specs.Problems.{ProblemState, IsLitOf}
use Rattle.term_bounds.specs.Breaking.{Holds}
use Rattle.term_bounds.specs.Implying.{IsForced, IsImpliedAt}
use Rattle.term_bounds.proofs.BreakFacts.{bound-held}
use Rattle.search_engine.specs.declared.engine.Engine.{Engine}
use Rattle.search_engine.specs.Knowledge.{Occurs}
use Rattle.search_engine.specs.Potential.{implied_of}
use Rattle.search_engine.specs.Searching.{AheadAt, AreExplained, IsExplained, IsSearch, paid_of}
use Rattle.search_engine.proofs.Standing.{lower-ahead}
use Rattle.search_engine.proofs.SumFacts.{lit-of}

-- further than this much and one more is further than this much
pub ahead-less : (e : Engine) (goal : ℕ) → AheadAt e (goal + 1) → AheadAt e goal
ahead-less e goal a = lower-ahead e.problem.vars (implied_of e.store.trail.steps) (paid_of e) goal (goal + 1)
    (omega arith) a

-- one more is no less, where there is an answer
pub no-less : {A E : Type 0} (r : Result A E) (e f : Engine) → OnOk r ((goal : ℕ) → AheadAt e goal
    → AheadAt f (goal + 1)) → OnOk r ((goal : ℕ) → AheadAt e goal → AheadAt f goal)
no-less (Ok x) e f h = λ goal a. ahead-less f goal (h goal a)
no-less (Err x) e f h = tt

-- a literal and reasons that are false
pub first-left : (a : List (Option Bool)) (l : Lit) (c : List Lit) → value_in a l ≡ None → IsFalsified a c
    → IsUnitAt a (l ∷ c) l
first-left a l c none falsified = record {
  member = Contains-head l c;
  unassigned = none;
  others = All-cons (λ m. (m ≡ l) ⊎ (value_in a m ≡ Some false)) l c (inl refl)
      (All-weaker (λ m. value_in a m ≡ Some false) (λ m. (m ≡ l) ⊎ (value_in a m ≡ Some false)) (λ m e. inr e) c falsified);
}

module _ (e : Engine) (h : IsSearch e) (place : ℕ) (c lits : List Lit)
    (w : IsImpliedAt e.problem.terms e.problem.bounds e.store.trail.values place c lits) where
  abbrev p : ProblemState
  p = e.problem

  in-bounds : place < length p.bounds
  in-bounds = slice_get_within p.bounds place w.bound w.there

  is-bound : get_or p.bounds place w.bound ≡ w.bound
  is-bound = get_or_from_slice_get p.bounds place w.bound w.bound w.there

  in-terms : w.bound.term < length p.terms
  in-terms = slice_get_within p.terms w.bound.term w.term w.is_term

  is-term : get_or p.terms w.bound.term w.term ≡ w.term
  is-term = get_or_from_slice_get p.terms w.bound.term w.term w.term w.is_term

  abbrev OfBound : Lit → Type 0
  OfBound l = (w.bound.out.var.0 ≡ l.var.0) ⊎ Any (λ (u : Part). u.lit.var.0 ≡ l.var.0) w.term.parts

  lit-of-bound : (l : Lit) → OfBound l → IsLitOf p.vars l
  lit-of-bound l way = ⊎_elim
      (λ (same : w.bound.out.var.0 ≡ l.var.0). lit-of p.vars l w.bound.out same
      (subst (λ (b : TermBound). IsLitOf p.vars b.out) is-bound (h.engine.problem.bounds place w.bound in-bounds).0))
      (λ (u : Any (λ (u : Part). u.lit.var.0 ≡ l.var.0) w.term.parts). lit-of p.vars l u.1.lit u.4
      (subst (λ (q : Part). IsLitOf p.vars q.lit) u.3 ((subst (λ (t : GroundTerm). All
      (λ (q : Part). IsLitOf p.vars q.lit) t.parts) is-term (h.engine.problem.terms w.bound.term w.term in-terms))
      u.0 u.1 u.2)))
      way

  -- a clause of its variables that the bound implies
  explained-by : (k : List Lit) → All OfBound k → ((v : ℕ → Bool) → Holds v w.term w.bound → IsSatisfied v k)
      → IsExplained p k
  explained-by k all implied = record {
    within = All-weaker OfBound (IsLitOf p.vars) lit-of-bound k all;
    occurs = All-weaker OfBound (Occurs p) (λ l way. ⊎_elim
        (λ same. inr (inr (inl (place, w.bound, in-bounds, is-bound, same))))
        (λ u. inr (inr (inr (inl (w.bound.term, w.term, in-terms, is-term, u)))))
        way) k all;
    constraint = inr (inl (
      place,
      w.bound,
      in-bounds,
      is-bound,
      λ v holds. implied v (bound-held p.terms p.bounds
          e.store.trail.values place w.bound w.term w.there w.is_term v holds),
    ));
  }

  pub forced-explained : AreExplained p c lits
  forced-explained = All-weaker (IsForced w.term w.bound e.store.trail.values c) (λ l. IsExplained p (l ∷ c))
      (λ l f. explained-by (l ∷ c) (All-cons OfBound l c (inr f.within) w.by.within) f.implied) lits w.by.forced
