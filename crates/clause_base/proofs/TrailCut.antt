-- The loop that takes steps off a trail.
use Rattle.std.proofs.Common.{◌≡◌, ℕ, ◌<◌, ◌≤◌, ◌+◌, Bool, Option, Some, None, List, [], ◌∷◌, ◌++◌, length, take, refl}
use Rattle.std.proofs.Common.{sym, ap, ◌∙◌, ⊎_elim, arith, slice_get, slice_set, vec_capacity, subst}
use Rattle.std.proofs.lemmas.Option.{slice_get_within, same_Some}
use Rattle.std.proofs.lemmas.List.{length-set, length_push, take_all}
use Rattle.std.proofs.lemmas.Bool.{cases_eq}
use Rattle.clause_base.specs.declared.trail.Step.{Step}
use Rattle.clause_base.specs.TrailState.{TrailState}
use Rattle.clause_base.specs.TrailLaws.{IsCoherent, IsDense, HasDecisions, lits_of, CutsAt}
use Rattle.clause_base.specs.TrailFields.{HasPlaces, IsKept, IsBeingCut, state_of}
use Rattle.clause_base.specs.declared.trail.Trail.TheInside.{Inside}
use Rattle.clause_base.proofs.ListFacts.{take-front, last-of}
use Rattle.clause_base.proofs.TrailFacts.{coherent-pop, places-pop, dense-pop, dense-lower, decisions-pop}
use Rattle.clause_base.proofs.TrailFacts.{decisions-lower}

pub cut-start : (a : Inside) (level : ℕ) → IsKept a → level ≤ a.level → IsBeingCut (state_of a) level a
cut-start a level h le = record {
  size = refl;
  coherent = h.laws.coherent;
  dense = dense-lower a.steps.items a.level level le h.laws.dense;
  decisions = decisions-lower a.steps.items a.level level le h.laws.decisions;
  lits = h.lits;
  sized = h.sized;
  places = h.places;
  room_steps = h.room_steps;
  room_lits = h.room_lits;
  kept = sym (take_all (length a.steps.items) a.steps.items (omega arith));
  above = λ k t past e. let lt : k < length a.steps.items = slice_get_within a.steps.items k t e in
      absurd (omega arith);
}

pub cut-step : (s : TrailState) (level : ℕ) (a b : Inside) (t : Step) → IsBeingCut s level a
    → a.steps.items ≡ b.steps.items ++ t ∷ [] → level < t.level → b.assignment ≡ slice_set a.assignment t.lit.var.0 None
    → b.lits.items ≡ lits_of b.steps.items → b.places ≡ a.places → vec_capacity a.steps ≤ vec_capacity b.steps
    → vec_capacity a.lits ≤ vec_capacity b.lits → IsBeingCut s level b
cut-step s level a b t h steps above values lits places room_steps room_lits =
    let coherent : IsCoherent a.assignment (b.steps.items ++ t ∷ []) =
    subst (λ (xs : List Step). IsCoherent a.assignment xs) steps h.coherent in
    let dense : IsDense (b.steps.items ++ t ∷ []) level = subst (λ (xs : List Step). IsDense xs level) steps h.dense in
    let kept : b.steps.items ++ t ∷ [] ≡ take (length (b.steps.items ++ t ∷ [])) s.steps =
    subst (λ (xs : List Step). xs ≡ take (length xs) s.steps) steps h.kept in
    let front = take-front s.steps b.steps.items t kept in
    let size : length b.assignment ≡ length a.assignment = ap length values
    ∙ length-set a.assignment t.lit.var.0 None in
    record {
      size = size ∙ h.size;
      coherent = subst (λ (v : List (Option Bool)). IsCoherent v b.steps.items) (sym values)
          (coherent-pop a.assignment b.steps.items t coherent);
      dense = dense-pop b.steps.items t level above dense;
      decisions = decisions-pop b.steps.items t level above (subst (λ (xs : List Step). HasDecisions xs level) steps
          h.decisions);
      lits = lits;
      sized = let kept : length a.assignment ≤ length a.places.items = h.sized in let same : length b.places.items
          ≡ length a.places.items = ap (λ v. length v.items) places in omega arith;
      places = rw places (places-pop a.assignment b.steps.items t coherent a.places.items
          (subst (λ (xs : List Step). HasPlaces a.places.items xs) steps h.places));
      room_steps = let r : length a.assignment ≤ vec_capacity a.steps = h.room_steps in omega arith;
      room_lits = let r : length a.assignment ≤ vec_capacity a.lits = h.room_lits in omega arith;
      kept = front.0;
      above = λ k u past e. ⊎_elim
          (λ same. let here : Some t ≡ Some u = sym front.1 ∙ ap (slice_get s.steps) (sym same) ∙ e in
          subst (λ (x : Step). level < x.level) (same_Some t u here) above)
          (λ ne. let len : length a.steps.items ≡ length b.steps.items + 1 = ap length steps
          ∙ length_push b.steps.items t in h.above k u (omega arith) e)
          (cases_eq k (length b.steps.items));
    }

-- at the end: the last step, if any, is at the level or below it
pub cut-end : (s : TrailState) (level : ℕ) (a : Inside) → IsBeingCut s level a
    → ((k : ℕ) (t : Step) → slice_get a.steps.items k ≡ Some t → k + 1 ≡ length a.steps.items → t.level ≤ level)
    → (k : ℕ) (t : Step) → slice_get a.steps.items k ≡ Some t → t.level ≤ level
cut-end s level a h last k t e =
    let lt : k < length a.steps.items = slice_get_within a.steps.items k t e in
    let l = last-of a.steps.items k t e in
    let top : l.1.level ≤ level = last l.0 l.1 l.2 l.3 in
    let rise : t.level ≤ l.1.level = h.coherent.rising k l.0 t l.1 (omega (arith, l.3)) e l.2 in
    omega arith

-- the fields when nothing is left to take off, with the level set
module _ (s : TrailState) (level : ℕ) (a b : Inside) (h : IsBeingCut s level a) (below : (k : ℕ) (t : Step)
    → slice_get a.steps.items k ≡ Some t → t.level ≤ level) (steps : b.steps.items ≡ a.steps.items)
    (values : b.assignment ≡ a.assignment) (lits : b.lits.items ≡ lits_of b.steps.items) (places : b.places ≡ a.places)
    (level_is : b.level ≡ level) where
  pub cut-kept : vec_capacity a.steps ≤ vec_capacity b.steps → vec_capacity a.lits ≤ vec_capacity b.lits → IsKept b
  cut-kept room_steps room_lits = record {
    laws = record {
      coherent = rw (steps, values) h.coherent;
      top = rw (steps, level_is) below;
      dense = rw (steps, level_is) h.dense;
      decisions = rw (steps, level_is) h.decisions;
    };
    lits = lits;
    sized = rw (places, values) h.sized;
    places = rw (places, steps) h.places;
    room_steps = let r : length a.assignment ≤ vec_capacity a.steps = h.room_steps in rw values (omega arith);
    room_lits = let r : length a.assignment ≤ vec_capacity a.lits = h.room_lits in rw values (omega arith);
  }

  pub cut-cuts : CutsAt level s (state_of b)
  cut-cuts = record {
    level_is = level_is;
    size = rw values h.size;
    kept = rw steps h.kept;
    below = rw steps below;
    above = rw steps h.above;
  }
