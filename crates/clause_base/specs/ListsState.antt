-- Numbered lists of numbered nodes.
use Rattle.std.specs.Prelude.{◌≡◌, ℕ, ◌<◌, ◌^◌, length, List, [], slice_index_or, Contains}
use Rattle.clause_base.specs.Links.{IsOnce}

-- what is written on each node, and the nodes of each list
pub record ListsState : Type 0 where
  pub labels : List ℕ
  pub lists : List (List ℕ)

-- the nodes of the list with this number
abbrev pub nodes_of : ListsState → ℕ → List ℕ
nodes_of s j = slice_index_or s.lists j []

-- a node is in at most one list, and there once; lists can be numbered, and nodes in 32 bits
pub record HasLaws (s : ListsState) : Type 0 where
  pub once : (j : ℕ) → IsOnce (nodes_of s j)
  pub apart : (i j n : ℕ) → Contains (nodes_of s i) n → Contains (nodes_of s j) n → i ≡ j
  pub small : length s.lists < 2 ^ 64
  pub few : length s.labels < 2 ^ 32
  pub within : (j n : ℕ) → Contains (nodes_of s j) n → n < length s.labels
