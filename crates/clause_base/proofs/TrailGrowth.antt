-- The fields of a trail as they get wider, and as they are emptied.
use Rattle.std.proofs.Common.{◌≡◌, ℕ, ◌≤◌, Bool, Option, Some, None, List, [], ◌∷◌, ◌++◌, length, set, replicate, refl}
use Rattle.std.proofs.Common.{sym, ap, ◌∙◌, arith, slice_get, subst, vec_capacity, is_some, count_by}
use Rattle.std.proofs.lemmas.List.{length-set}
use Rattle.clause_base.specs.declared.trail.Step.{Step}
use Rattle.clause_base.specs.TrailState.{TrailState}
use Rattle.clause_base.specs.TrailLaws.{IsTrail, IsCoherent, lits_of, cleared}
use Rattle.clause_base.specs.TrailFields.{IsKept, IsBeingCleared, state_of}
use Rattle.clause_base.specs.declared.trail.Trail.TheInside.{Inside}
use Rattle.clause_base.proofs.TrailFacts.{trail-more, trail-cleared, coherent-pop, all-unassigned}

-- more room, more places and unassigned variables at the end
module _ (a b : Inside) (n : ℕ) (h : IsKept a) (values : b.assignment ≡ a.assignment ++ replicate n None)
    (steps : b.steps.items ≡ a.steps.items) (lits : b.lits.items ≡ a.lits.items) (level : b.level ≡ a.level) where
  pub laws-wider : IsTrail (state_of b)
  laws-wider =
      let l = trail-more (state_of a) n h.laws in
      record {
        coherent = rw (values, steps) l.coherent;
        top = rw (steps, level) l.top;
        dense =
            rw (steps, level) l.dense;
        decisions = rw (steps, level) l.decisions;
      }

  pub kept-wider : ((v k : ℕ) → slice_get a.places.items v ≡ Some k → slice_get b.places.items v ≡ Some k)
      → length b.assignment ≤ length b.places.items → length b.assignment ≤ vec_capacity b.steps → length b.assignment
      ≤ vec_capacity b.lits → IsKept b
  kept-wider places sized room_steps room_lits = record {
    laws = laws-wider;
    lits = lits ∙ h.lits ∙ sym (ap lits_of steps);
    sized = sized;
    places = λ k t e. places t.lit.var.0 k (h.places k t (subst (λ (xs : List Step). slice_get xs k ≡ Some t) steps e));
    room_steps = room_steps;
    room_lits = room_lits;
  }

pub clears-start : (a : Inside) → IsKept a → IsBeingCleared (state_of a) a
clears-start a h = record {
  size = refl;
  coherent = h.laws.coherent;
  sized = h.sized;
  room_steps = h.room_steps;
  room_lits = h.room_lits;
}

pub clears-step : (s : TrailState) (a b : Inside) (t : Step) → IsBeingCleared s a → a.steps.items ≡ b.steps.items ++ t ∷
    [] → b.assignment ≡ set a.assignment t.lit.var.0 None → b.places ≡ a.places → b.lits ≡ a.lits → vec_capacity a.steps
    ≤ vec_capacity b.steps → IsBeingCleared s b
clears-step s a b t h steps values places lits room =
    let coherent : IsCoherent a.assignment (b.steps.items ++ t ∷ []) =
    subst (λ (xs : List Step). IsCoherent a.assignment xs) steps h.coherent in
    let size : length b.assignment ≡ length a.assignment = ap length values
    ∙ length-set a.assignment t.lit.var.0 None in
    record {
      size = size ∙ h.size;
      coherent = subst (λ (v : List (Option Bool)). IsCoherent v b.steps.items) (sym values)
          (coherent-pop a.assignment b.steps.items t coherent);
      sized = let k : length a.assignment ≤ length a.places.items = h.sized in rw places (omega arith);
      room_steps = let k : length a.assignment ≤ vec_capacity a.steps = h.room_steps in omega arith;
      room_lits = let k : length a.assignment ≤ vec_capacity a.lits = h.room_lits in rw lits (omega arith);
    }

-- when no step is left
module _ (s : TrailState) (a b : Inside) (h : IsBeingCleared s a) (none : a.steps.items ≡ [])
    (steps : b.steps.items ≡ []) (values : b.assignment ≡ a.assignment) (lits : b.lits.items ≡ [])
    (level : b.level ≡ 0) where
  pub clears-state : state_of b ≡ cleared s
  clears-state =
      let count : count_by is_some a.assignment ≡ 0 = h.coherent.once ∙ ap length none in
      let all : b.assignment ≡ replicate (length s.values) None = values ∙ all-unassigned a.assignment count
      ∙ ap (λ n. replicate n None) h.size in
      let make : List (Option Bool) → List Step → ℕ → TrailState = λ v xs n. record {
        values = v;
        steps = xs;
        level = n;
      } in
      ap (λ v. make v b.steps.items b.level) all ∙ ap (λ xs. make (replicate (length s.values) None) xs b.level) steps
      ∙ ap (λ n. make (replicate (length s.values) None) [] n) level

  pub clears-kept : b.places ≡ a.places → vec_capacity a.steps ≤ vec_capacity b.steps → vec_capacity a.lits
      ≤ vec_capacity b.lits → IsKept b
  clears-kept places room_steps room_lits = record {
    laws = subst IsTrail (sym clears-state) (trail-cleared s);
    lits = lits ∙ sym (ap lits_of steps);
    sized = rw (values, places) h.sized;
    places = λ k t e. (let x : slice_get [] k ≡ Some t = subst (λ (xs : List Step). slice_get xs k ≡ Some t) steps e in
        cc);
    room_steps = let k : length a.assignment ≤ vec_capacity a.steps = h.room_steps in rw values (omega arith);
    room_lits = let k : length a.assignment ≤ vec_capacity a.lits = h.room_lits in rw values (omega arith);
  }
