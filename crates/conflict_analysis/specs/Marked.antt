-- Sets of places, as the list of them by rising place.
use Rattle.std.specs.Prelude.{◌≡◌, ℕ, ◌<◌, ◌≤◌, List, [], ◌∷◌, ◌++◌, Contains, ◌⊎◌}

-- the last of these places was taken off
pub record PopsLast (old : List ℕ) (place : ℕ) (new : List ℕ) : Type 0 where
  pub split : old ≡ new ++ place ∷ []
  pub below : (k : ℕ) → Contains new k → k < place

-- the last of these places
pub record HasAsLast (places : List ℕ) (place : ℕ) : Type 0 where
  pub has : Contains places place
  pub most : (k : ℕ) → Contains places k → k ≤ place

-- the place was added
pub record Inserts (old : List ℕ) (place : ℕ) (new : List ℕ) : Type 0 where
  pub kept : (k : ℕ) → Contains old k → Contains new k
  pub has : Contains new place
  pub from : (k : ℕ) → Contains new k → Contains old k ⊎ (place ≡ k)

-- the first of these places have marks, and the others do not
pub record AreApart (near far : List ℕ) : Type 0 where
  pub low : (k : ℕ) → Contains near k → k < 65536
  pub high : (k : ℕ) → Contains far k → 65536 ≤ k
