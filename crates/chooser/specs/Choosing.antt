-- Which of several scores is chosen.
use Rattle.std.specs.Prelude.{ℕ, ◌<◌, ◌≤◌, List, length, slice_index_or}

-- no score is greater than one before it
abbrev pub DoNotRise : List ℕ → Type 0
DoNotRise scores = (i j : ℕ) → i < j → j < length scores → slice_index_or scores j 0 ≤ slice_index_or scores i 0

-- no score is greater than the one at this place, and each before it is less
pub record IsFirstGreatest (scores : List ℕ) (place : ℕ) : Type 0 where
  pub within : place < length scores
  pub greatest : (k : ℕ) → k < length scores → slice_index_or scores k 0 ≤ slice_index_or scores place 0
  pub first : (k : ℕ) → k < place → slice_index_or scores k 0 < slice_index_or scores place 0
