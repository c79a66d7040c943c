-- What the fields of linked lists keep.
use Rattle.std.specs.Prelude.{◌≡◌, ℕ, ◌<◌, ◌^◌, List, [], length, map, slice_index, slice_index_or, Contains}
use Rattle.clause_base.specs.Links.{IsLinked, IsOnce, follow}
use Rattle.clause_base.specs.ListsState.{ListsState}
use Rattle.clause_base.specs.declared.watch_lists.Node.{Node}
use Rattle.clause_base.specs.declared.watch_lists.LinkedLists.TheInside.{Inside}

abbrev pub links_of : List Node → List ℕ
links_of nodes = map (λ (n : Node). n.next) nodes

abbrev pub labels_of : List Node → List ℕ
labels_of nodes = map (λ (n : Node). n.label) nodes

-- the links of the lists and of the nodes
pub record Linkage : Type 0 where
  pub heads : List ℕ
  pub links : List ℕ

-- the nodes that a link leads through
abbrev pub nodes_from : Linkage → ℕ → List ℕ
nodes_from a link = follow a.links (length a.links) link

-- the nodes of the list with this number
abbrev pub list_at : Linkage → ℕ → List ℕ
list_at a j = nodes_from a (slice_index a.heads j)

-- and as it stands among all lists
abbrev pub listed_at : Linkage → ℕ → List ℕ
listed_at a j = slice_index_or (map (nodes_from a) a.heads) j []

pub record IsLinkage (a : Linkage) : Type 0 where
  pub linked : (j : ℕ) → IsLinked a.links (slice_index a.heads j) (list_at a j)
  pub once : (j : ℕ) → IsOnce (list_at a j)
  pub apart : (i j n : ℕ) → Contains (list_at a i) n → Contains (list_at a j) n → i ≡ j

abbrev pub linkage_of : Inside → Linkage
linkage_of a = record { heads = a.heads.items; links = links_of a.nodes.items }

abbrev pub state_of : Inside → ListsState
state_of a = record { labels = labels_of a.nodes.items; lists = map (nodes_from (linkage_of a)) a.heads.items }

pub record IsKept (a : Inside) : Type 0 where
  pub linkage : IsLinkage (linkage_of a)
  pub small : length a.nodes.items < 2 ^ 32
