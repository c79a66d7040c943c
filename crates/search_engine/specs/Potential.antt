-- Numbers that bound the conflicts of a search, and its turns.
use Rattle.std.specs.Prelude.{◌≡◌, ℕ, zero, suc, ◌+◌, ◌*◌, ◌^◌, ◌≤◌, ◌<◌, ◌⊎◌, Bool, true, false, is_some, List, []}
use Rattle.std.specs.Prelude.{◌∷◌, length, map}
use Rattle.clause_store.specs.declared.trails.Step.{Step}

-- of v variables those on the trail in order, true for one that follows by a clause: 2^(v-1-p) for each of these, p its
-- place
abbrev pub potential : ℕ → List Bool → ℕ
potential v [] = 0
potential zero (b ∷ bs) = 0
potential (suc v) (true ∷ bs) = 2 ^ v + potential v bs
potential (suc v) (false ∷ bs) = potential v bs

-- digits to base 3: 0 where nothing stands yet, 1 for a decision, 2 for what follows by a clause
abbrev pub progress : ℕ → List Bool → ℕ
progress v [] = 0
progress zero (b ∷ bs) = 0
progress (suc v) (true ∷ bs) = 2 * 3 ^ v + progress v bs
progress (suc v) (false ∷ bs) = 3 ^ v + progress v bs

-- for each step whether its literal followed by a clause
abbrev pub implied_of : List Step → List Bool
implied_of steps = map (λ (t : Step). is_some t.reason) steps

-- the conflicts so far are paid by the trail, and its progress is at least this much
pub record Ahead (v : ℕ) (bs : List Bool) (conflicts goal : ℕ) : Type 0 where
  pub room : ℕ
  pub fits : length bs + room ≡ v
  pub paid : conflicts ≤ potential v bs
  pub gone : goal ≤ progress v bs

-- the same once one more literal follows by a clause, and then the progress is more
pub record Behind (v : ℕ) (bs : List Bool) (conflicts goal : ℕ) : Type 0 where
  pub room : ℕ
  pub fits : length bs + suc room ≡ v
  pub paid : conflicts ≤ potential v bs + 2 ^ room
  pub gone : goal < progress v bs + 2 * 3 ^ room

-- one of the two
abbrev pub Stands : ℕ → List Bool → ℕ → ℕ → Type 0
Stands v bs conflicts goal = Ahead v bs conflicts goal ⊎ Behind v bs conflicts goal
