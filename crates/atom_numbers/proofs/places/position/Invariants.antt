use Rattle.std.proofs.Common.{◌≡◌, ℕ, ◌≤◌, ◌<◌, ◌-◌, length, get_or}
use Rattle.atom_numbers.proofs.places.position.Given as goal

abbrev pub invariant-loop-place : goal.invariant-loop-place
invariant-loop-place l = (k : ℕ) × (l.place ≤ k) × (k < length l.domain) × (get_or l.domain k l.elem ≡ l.elem)

abbrev pub decreases-loop-place : goal.decreases-loop-place
decreases-loop-place l = length l.domain - l.place
