-- What the fields of a trail keep.
use Rattle.std.specs.Prelude.{◌≡◌, ℕ, ◌<◌, ◌≤◌, Some, List, length, take, slice_get, vec_capacity}
use Rattle.clause_base.specs.declared.trail.Step.{Step}
use Rattle.clause_base.specs.TrailState.{TrailState}
use Rattle.clause_base.specs.TrailLaws.{IsTrail, IsCoherent, IsDense, HasDecisions, lits_of}
use Rattle.clause_base.specs.declared.trail.Trail.TheInside.{Inside}

abbrev pub state_of : Inside → TrailState
state_of a = record { values = a.assignment; steps = a.steps.items; level = a.level }

-- the places of the variables are those of their steps
abbrev pub HasPlaces : List ℕ → List Step → Type 0
HasPlaces places steps = (k : ℕ) (t : Step) → slice_get steps k ≡ Some t → slice_get places t.lit.var.0 ≡ Some k

-- what holds of the fields while steps above a level are taken off
pub record IsBeingCut (start : TrailState) (level : ℕ) (a : Inside) : Type 0 where
  pub size : length a.assignment ≡ length start.values
  pub coherent : IsCoherent a.assignment a.steps.items
  pub dense : IsDense a.steps.items level
  pub decisions : HasDecisions a.steps.items level
  pub lits : a.lits.items ≡ lits_of a.steps.items
  pub sized : length a.assignment ≤ length a.places.items
  pub places : HasPlaces a.places.items a.steps.items
  pub room_steps : length a.assignment ≤ vec_capacity a.steps
  pub room_lits : length a.assignment ≤ vec_capacity a.lits
  pub kept : a.steps.items ≡ take (length a.steps.items) start.steps
  pub above : (k : ℕ) (t : Step) → length a.steps.items ≤ k → slice_get start.steps k ≡ Some t → level < t.level

pub record IsKept (a : Inside) : Type 0 where
  pub laws : IsTrail (state_of a)
  pub lits : a.lits.items ≡ lits_of a.steps.items
  pub sized : length a.assignment ≤ length a.places.items
  pub places : HasPlaces a.places.items a.steps.items
  pub room_steps : length a.assignment ≤ vec_capacity a.steps
  pub room_lits : length a.assignment ≤ vec_capacity a.lits

-- what holds of the fields while all steps are taken off
pub record IsBeingCleared (start : TrailState) (a : Inside) : Type 0 where
  pub size : length a.assignment ≡ length start.values
  pub coherent : IsCoherent a.assignment a.steps.items
  pub sized : length a.assignment ≤ length a.places.items
  pub room_steps : length a.assignment ≤ vec_capacity a.steps
  pub room_lits : length a.assignment ≤ vec_capacity a.lits
