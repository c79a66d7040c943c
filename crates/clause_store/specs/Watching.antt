-- What the watches of the clauses keep.
use Rattle.std.specs.Prelude.{◌≡◌, ◌≢◌, ℕ, ◌<◌, ◌≤◌, ◌+◌, ◌*◌, ◌^◌, Bool, true, false, Some, List, length, slice_get}
use Rattle.std.specs.Prelude.{Contains, ◌⊎◌}
use Rattle.lit_core.specs.declared.literals.Lit.{Lit}
use Rattle.lit_core.specs.Literals.{negated}
use Rattle.lit_core.specs.Packing.{number_of}
use Rattle.clause_base.specs.declared.trail.Step.{Step}
use Rattle.clause_store.specs.declared.watched.Watch.{Watch}
use Rattle.clause_store.specs.declared.watched.Watcher.{Watcher}
use Rattle.clause_base.specs.ListsState.{HasLaws, nodes_of}
use Rattle.clause_base.specs.ShortState.{IsPacked, IsShort}
use Rattle.clause_base.specs.StoreState.{StoreState, IsStore, IsHeld}

abbrev pub store_of : Watcher → StoreState
store_of e = record { clauses = e.held.clauses; trail = e.trail; spare = e.held.spare }

-- the number of the list of a literal
abbrev pub code_of : Lit → ℕ
code_of l = number_of l

-- a clause has two nodes
abbrev pub IsNodeOf : ℕ → ℕ → Type 0
IsNodeOf node id = (node ≡ 2 * id) ⊎ (node ≡ 2 * id + 1)

-- if one of the first q steps made the literal a false, then b is true, and was so at that level, unless levels are
-- passed over
abbrev pub Guards : List Step → ℕ → Bool → Lit → Lit → Type 0
Guards steps q stale a b = (k : ℕ) (t : Step) → k < q → slice_get steps k ≡ Some t → t.lit ≡ negated a
    → (j : ℕ) × (u : Step) × (slice_get steps j ≡ Some u) × (u.lit ≡ b) × ((stale ≡ true) ⊎ (u.level ≤ t.level))

-- a literal of the clause is true at level 0
abbrev pub IsGood : List Step → Bool → List Lit → Type 0
IsGood steps stale c = (j : ℕ) × (u : Step) × (slice_get steps j ≡ Some u) × Contains c u.lit
    × ((stale ≡ true) ⊎ (u.level ≡ 0))

-- the clause watches these literals: each of its two nodes is labelled with the number of the other one's literal
pub record HasWatch (labels : List ℕ) (id : ℕ) (w : Watch) : Type 0 where
  pub first : slice_get labels (2 * id + 1) ≡ Some (code_of w.first)
  pub second : slice_get labels (2 * id) ≡ Some (code_of w.second)

-- two literals watch each other
pub record IsPair (steps : List Step) (q : ℕ) (stale : Bool) (a b : Lit) : Type 0 where
  pub distinct : a ≢ b
  pub first : Guards steps q stale a b
  pub second : Guards steps q stale b a

-- the clause is watched over the first q steps
pub record IsWatched (steps : List Step) (q : ℕ) (stale : Bool) (c : List Lit) (w : Watch) : Type 0 where
  pub has_first : Contains c w.first
  pub has_second : Contains c w.second
  pub ways : IsGood steps stale c ⊎ IsPair steps q stale w.first w.second

abbrev pub Guarded : Watcher → ℕ → ℕ → List Lit → Type 0
Guarded e q id c = (w : Watch) × HasWatch e.lists.labels id w × IsWatched e.trail.steps q e.stale c w

-- if all literals of the clause but this one became false by the first q steps, at levels of at most this one, then it
-- is true, and was so at a level of at most this one, unless levels are passed over
abbrev pub Follows : List Step → ℕ → Bool → List Lit → Lit → ℕ → Type 0
Follows steps q stale c m level = ((l : Lit) → Contains c l → l ≢ m → (k : ℕ) × (t : Step) × (k < q)
    × (slice_get steps k ≡ Some t) × (t.lit ≡ negated l) × (t.level ≤ level))
    → (j : ℕ) × (u : Step) × (slice_get steps j ≡ Some u) × (u.lit ≡ m) × ((stale ≡ true) ⊎ (u.level ≤ level))

-- each literal of the clause follows
abbrev pub IsClosed : List Step → ℕ → Bool → List Lit → Type 0
IsClosed steps q stale c = (m : Lit) → Contains c m → (level : ℕ) → Follows steps q stale c m level

-- each literal of the short clauses that are listed follows
abbrev pub AreClosed : Watcher → ℕ → Type 0
AreClosed e q = (id : ℕ) (c : List Lit) → id < e.short.packed → IsHeld (store_of e) id c → IsShort c
    → IsClosed e.trail.steps q e.stale c

-- the clause is one of those that are watched: it has two literals or more, and is not listed with the short ones
abbrev pub IsLong : Watcher → ℕ → List Lit → Type 0
IsLong e id c = (2 ≤ length c) × (id < e.short.packed → IsShort c → ⊥)

-- the nodes of the clause link in the lists of its watched literals
pub record IsListed (e : Watcher) (id : ℕ) : Type 0 where
  pub watch : Watch
  pub is_watch : HasWatch e.lists.labels id watch
  pub first : Contains (nodes_of e.lists (code_of watch.first)) (2 * id)
  pub second : Contains (nodes_of e.lists (code_of watch.second)) (2 * id + 1)

-- the clause of a node that enlists is one of those that are watched, by literals of the store
pub record IsWatchNode (e : Watcher) (node : ℕ) : Type 0 where
  pub id : ℕ
  pub of : IsNodeOf node id
  pub checked : id < e.checked
  pub long : (c : List Lit) → IsHeld (store_of e) id c → IsLong e id c
  pub watch : Watch
  pub is_watch : HasWatch e.lists.labels id watch
  pub first : watch.first.var.0 < length e.trail.values
  pub second : watch.second.var.0 < length e.trail.values

pub record IsWatcher (e : Watcher) : Type 0 where
  pub store : IsStore (store_of e)
  pub lists : HasLaws e.lists
  pub queue : e.queue ≤ length e.trail.steps
  pub checked : e.checked ≤ length e.held.clauses
  pub nodes : 2 * length e.held.clauses ≤ length e.lists.labels
  pub count : 2 * length e.trail.values ≤ length e.lists.lists
  -- the numbers of literals fit in 32 bits
  pub small : length e.trail.values ≤ 2 ^ 31
  -- room for the nodes of the next clause
  pub room : 0 < e.held.spare → 2 * length e.held.clauses + 2 ≤ length e.lists.labels
  -- where short clauses are listed, there is a list for each literal
  pub shorts : 0 < e.short.packed → 2 * length e.trail.values ≤ length e.short.lists
  -- the short clauses that are listed are closed over what is propagated, a clause of one literal is true at level 0,
  -- and the others are watched
  pub short : IsPacked e.held.clauses (length e.trail.values) e.short
  pub closed : AreClosed e e.queue
  pub single : (id : ℕ) (c : List Lit) → id < e.checked → IsHeld (store_of e) id c → length c ≤ 1
      → IsGood e.trail.steps e.stale c
  pub guarded : (id : ℕ) (c : List Lit) → id < e.checked → IsHeld (store_of e) id c → IsLong e id c
      → Guarded e e.queue id c
  -- while levels are not passed over, what is not yet propagated is of the current level
  pub current : e.stale ≡ false → (k : ℕ) (t : Step) → e.queue ≤ k → slice_get e.trail.steps k ≡ Some t
      → t.level ≡ e.trail.level
  pub listed : (id : ℕ) (c : List Lit) → id < e.checked → IsHeld (store_of e) id c → IsLong e id c → IsListed e id
  pub owned : (j node : ℕ) → Contains (nodes_of e.lists j) node → IsWatchNode e node
