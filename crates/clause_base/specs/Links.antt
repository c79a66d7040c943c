-- Lists of nodes that are linked by numbers: 0 for the end, and one more than the next node's number.
use Rattle.std.specs.Prelude.{◌≡◌, ℕ, zero, suc, ◌<◌, ◌+◌, Option, Some, None, List, [], ◌∷◌, length, slice_index}
use Rattle.std.specs.Prelude.{Contains}

-- the node that a link leads to
abbrev pub node_of : ℕ → Option ℕ
node_of zero = None
node_of (suc n) = Some n

abbrev pub first_of : List ℕ → Option ℕ
first_of [] = None
first_of (n ∷ ns) = Some n

abbrev pub last_of : List ℕ → Option ℕ
last_of [] = None
last_of (n ∷ []) = Some n
last_of (n ∷ m ∷ ns) = last_of (m ∷ ns)

-- the links lead through these nodes to an end
abbrev pub IsLinked : List ℕ → ℕ → List ℕ → Type 0
IsLinked links link [] = link ≡ 0
IsLinked links link (n ∷ ns) = (link ≡ n + 1) × (n < length links) × IsLinked links (slice_index links n) ns

-- the nodes that the links lead through, at most so many
abbrev pub follow : List ℕ → ℕ → ℕ → List ℕ
follow links zero link = []
follow links (suc most) zero = []
follow links (suc most) (suc n) = n ∷ follow links most (slice_index links n)

-- no node stands twice
abbrev pub IsOnce : List ℕ → Type 0
IsOnce [] = Unit {0}
IsOnce (n ∷ ns) = (Contains ns n → ⊥) × IsOnce ns
