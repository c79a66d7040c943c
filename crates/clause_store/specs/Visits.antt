-- What a visit of a clause leaves.
use Rattle.std.specs.Prelude.{◌≡◌, ◌≢◌, ℕ, ◌<◌, ◌≤◌, ◌+◌, ◌*◌, ◌^◌, Bool, true, false, Option, Some, None, List, ◌∷◌}
use Rattle.std.specs.Prelude.{◌++◌, length, slice_get, All, Contains, ◌⊎◌}
use Rattle.lit_core.specs.declared.literals.Lit.{Lit}
use Rattle.lit_core.specs.Literals.{value_in, negated}
use Rattle.lit_core.specs.Truth.{IsFalsified}
use Rattle.clause_store.specs.declared.propagation.Visit.{Visit}
use Rattle.clause_store.specs.declared.propagation.Visit.TheVariants.{Conflict, Done}
use Rattle.clause_store.specs.declared.propagation.Look.{Look}
use Rattle.clause_store.specs.declared.propagation.Look.TheVariants.{Satisfied, Unsatisfied}
use Rattle.clause_store.specs.declared.propagation.Replacement.{Replacement}
use Rattle.clause_store.specs.declared.propagation.Replacement.TheVariants.{Deleted, Literal, Unit as UnitLeft}
use Rattle.clause_store.specs.declared.propagation.Replacement.TheVariants.{Conflict as AllFalse}
use Rattle.clause_store.specs.declared.attachment.WatchChoice.{WatchChoice}
use Rattle.clause_store.specs.declared.attachment.WatchChoice.TheVariants.{Unwatched, Single, Two, One}
use Rattle.clause_store.specs.declared.attachment.WatchChoice.TheVariants.{Conflict as NoChoice}
use Rattle.clause_store.specs.declared.watched.Watch.{Watch}
use Rattle.clause_store.specs.declared.watched.Watcher.{Watcher}
use Rattle.clause_base.specs.declared.trail.Step.{Step}
use Rattle.clause_base.specs.Links.{last_of}
use Rattle.clause_base.specs.ListsState.{ListsState, nodes_of}
use Rattle.clause_base.specs.ShortState.{IsShort}
use Rattle.clause_base.specs.StoreState.{IsHeld, IsConflict}
use Rattle.clause_base.specs.declared.occurrences.Occurrence.{Occurrence}
use Rattle.clause_store.specs.Watching.{code_of, AreClosed, Guarded, HasWatch, IsClosed, IsGood, IsLong, IsNodeOf}
use Rattle.clause_store.specs.Watching.{IsPair, IsWatched, store_of}

-- the literal at this place may stand in for a watched one beside the other, or no literal may
abbrev pub ReplacesAt : List (Option Bool) → List Lit → Lit → Option ℕ → Type 0
ReplacesAt a c other None = All (λ m. (m ≡ other) ⊎ (value_in a m ≡ Some false)) c
ReplacesAt a c other (Some place) = (l : Lit) × (slice_get c place ≡ Some l) × (l ≢ other) × (value_in a l ≢ Some false)

-- the literal became false by the first step that is not yet propagated
abbrev pub IsNext : Watcher → Lit → Type 0
IsNext e f = (t : Step) × (slice_get e.trail.steps e.queue ≡ Some t) × (f ≡ negated t.lit)

-- the node stands in the list right after this one
abbrev pub IsAt : ListsState → ℕ → Option ℕ → ℕ → Type 0
IsAt s j before node = (front : List ℕ) × (back : List ℕ) × (nodes_of s j ≡ front ++ node ∷ back)
    × (last_of front ≡ before)

-- the clause watches a literal that is false, and another that is not true
pub record IsLoose (e : Watcher) (node id : ℕ) (f other : Lit) (c : List Lit) : Type 0 where
  pub held : IsHeld (store_of e) id c
  pub long : IsLong e id c
  pub has_false : Contains c f
  pub has_other : Contains c other
  pub untrue : value_in e.trail.values other ≢ Some true
  pub ways : IsGood e.trail.steps e.stale c ⊎ IsPair e.trail.steps e.queue e.stale f other
  pub watch : Watch
  pub is_watch : HasWatch e.lists.labels id watch
  pub sides : ((node ≡ 2 * id) × (watch.first ≡ f) × (watch.second ≡ other))
      ⊎ ((node ≡ 2 * id + 1) × (watch.first ≡ other) × (watch.second ≡ f))

-- the clause of the node is watched over one step more by its other watched literal, or that literal is not true
abbrev pub LookGives : Watcher → ℕ → Lit → Look → Type 0
LookGives e node f Satisfied = (id : ℕ) (c : List Lit) → IsNodeOf node id → IsHeld (store_of e) id c
    → Guarded e (e.queue + 1) id c
LookGives e node f (Unsatisfied other) = (other.var.0 < length e.trail.values) × ((id : ℕ) → IsNodeOf node id
    → (id < e.checked) × ((c : List Lit) → IsHeld (store_of e) id c → IsLoose e node id f other c))

-- the literal may be watched in place of the false one
pub record CanMove (e : Watcher) (node : ℕ) (f l : Lit) : Type 0 where
  pub id : ℕ
  pub of : IsNodeOf node id
  pub checked : id < e.checked
  pub clause : List Lit
  pub other : Lit
  pub loose : IsLoose e node id f other clause
  pub member : Contains clause l
  pub distinct : l ≢ other
  pub unfalse : value_in e.trail.values l ≢ Some false

-- the other watched literal is the only one that is not false
pub record CanImply (e : Watcher) (node : ℕ) (f other : Lit) : Type 0 where
  pub id : ℕ
  pub of : IsNodeOf node id
  pub checked : id < e.checked
  pub clause : List Lit
  pub loose : IsLoose e node id f other clause
  pub unassigned : value_in e.trail.values other ≡ None
  pub others : All (λ m. (m ≡ other) ⊎ (value_in e.trail.values m ≡ Some false)) clause

-- the clause was removed; or this literal may be watched in place of the false one; or the other watched literal is the
-- last that is not false; or none is
abbrev pub ReplacementGives : Watcher → ℕ → Lit → Replacement → Type 0
ReplacementGives e id other Deleted = (c : List Lit) → IsHeld (store_of e) id c → ⊥
ReplacementGives e id other (Literal l place) = (c : List Lit) × IsHeld (store_of e) id c × Contains c l × (l ≢ other)
    × (value_in e.trail.values l ≢ Some false) × (place < 2 ^ 32)
ReplacementGives e id other UnitLeft = (value_in e.trail.values other ≡ None)
    × ((c : List Lit) × IsHeld (store_of e) id c × All (λ m. (m ≡ other) ⊎ (value_in e.trail.values m ≡ Some false)) c)
ReplacementGives e id other AllFalse = (c : List Lit) × IsHeld (store_of e) id c
    × ((value_in e.trail.values other ≡ Some true) ⊎ IsFalsified e.trail.values c)

-- clauses of other nodes stay watched
pub record Keeps (old new : Watcher) (node : ℕ) : Type 0 where
  pub held : new.held ≡ old.held
  pub short : new.short ≡ old.short
  pub queue : new.queue ≡ old.queue
  pub checked : new.checked ≡ old.checked
  pub stale : new.stale ≡ old.stale
  pub others : (q i : ℕ) (c : List Lit) → (IsNodeOf node i → ⊥) → q ≤ length old.trail.steps → Guarded old q i c
      → Guarded new q i c

-- nothing but the trail changes
pub record KeepsLists (old new : Watcher) : Type 0 where
  pub held : new.held ≡ old.held
  pub short : new.short ≡ old.short
  pub lists : new.lists ≡ old.lists
  pub queue : new.queue ≡ old.queue
  pub checked : new.checked ≡ old.checked
  pub stale : new.stale ≡ old.stale

-- the occurrence stands in the list of the literal
abbrev pub OccursUnder : Watcher → Lit → Occurrence → Type 0
OccursUnder e f o = (os : List Occurrence) × (slice_get e.short.lists (code_of f) ≡ Some os) × Contains os o

-- the clause of the occurrence, if it was listed with the short ones, is closed over one step more; or this clause is
-- false
abbrev pub OccurrenceGives : Watcher → Occurrence → Option ℕ → Type 0
OccurrenceGives new o None = (c : List Lit) → o.id < new.short.packed → IsHeld (store_of new) o.id c
    → IsClosed new.trail.steps (new.queue + 1) new.stale c
OccurrenceGives new o (Some id) = IsConflict (store_of new) id

-- the short clauses that are listed are closed over one step more, or this clause is false
abbrev pub ShortGives : Watcher → Option ℕ → Type 0
ShortGives new None = AreClosed new (new.queue + 1)
ShortGives new (Some id) = IsConflict (store_of new) id

-- the rest of the list stays, after the last of these nodes
abbrev pub Passes : Watcher → Watcher → ℕ → Lit → Option ℕ → Option ℕ → Type 0
Passes old new node f before last = (front rest : List ℕ) → nodes_of old.lists (code_of f) ≡ front ++ node ∷ rest
    → last_of front ≡ before → (passed : List ℕ) × (nodes_of new.lists (code_of f) ≡ passed ++ rest)
    × (last_of passed ≡ last)

-- the clause of the node is false; or it is watched over one step more, and the rest of the list stays
abbrev pub VisitGives : Watcher → Watcher → ℕ → Lit → Option ℕ → Visit → Type 0
VisitGives old new node f before Conflict = (id : ℕ) → IsNodeOf node id → IsConflict (store_of new) id
VisitGives old new node f before (Done last) = Passes old new node f before last × ((id : ℕ) (c : List Lit)
    → IsNodeOf node id → IsHeld (store_of new) id c → Guarded new (new.queue + 1) id c)

-- one step more is propagated, or a clause is false
abbrev pub OneGives : Watcher → Watcher → Option ℕ → Type 0
OneGives old new None = (new.queue ≡ old.queue + 1) × (new.checked ≡ old.checked)
OneGives old new (Some id) = IsConflict (store_of new) id

-- a step without a reason comes where all is propagated, or levels are passed over
abbrev pub MayAssign : Watcher → Option ℕ → Type 0
MayAssign e None = (e.stale ≡ true) ⊎ (length e.trail.steps ≤ e.queue)
MayAssign e (Some id) = Unit {0}

-- the next clause is one of those that are watched, and may be watched so
abbrev pub CanAttach : Watcher → Watch → Type 0
CanAttach e w = (c : List Lit) → IsHeld (store_of e) e.checked c → IsLong e e.checked c
    × IsWatched e.trail.steps e.queue e.stale c w

-- the literal is one of the clause that is not false, or all are false
abbrev pub OpensAt : List (Option Bool) → List Lit → Option Lit → Type 0
OpensAt a c None = All (λ m. value_in a m ≡ Some false) c
OpensAt a c (Some l) = Contains c l × (value_in a l ≢ Some false)

-- the literal is the last one of the clause that is not false
pub record IsLast (e : Watcher) (id : ℕ) (l : Lit) (c : List Lit) : Type 0 where
  pub held : IsHeld (store_of e) id c
  pub member : Contains c l
  pub unfalse : value_in e.trail.values l ≢ Some false
  pub others : All (λ m. (m ≡ l) ⊎ (value_in e.trail.values m ≡ Some false)) c

-- the clause is listed with the short ones, or has one literal, which is true at level 0
abbrev pub NeedsNoWatch : Watcher → ℕ → List Lit → Type 0
NeedsNoWatch e id c = ((id < e.short.packed) × IsShort c) ⊎ ((length c ≤ 1) × IsGood e.trail.steps e.stale c)

-- which literals of the clause with this number are not false: two at least, or one alone, or none, or the only one
-- that it has; or the clause was removed or is listed with the short ones
abbrev pub WatchChoiceGives : Watcher → ℕ → WatchChoice → Type 0
WatchChoiceGives e id Unwatched = (c : List Lit) → IsHeld (store_of e) id c → (id < e.short.packed) × IsShort c
WatchChoiceGives e id (Single l) = (c : List Lit) × IsLast e id l c × (length c ≤ 1)
WatchChoiceGives e id (Two w) = (c : List Lit) × IsHeld (store_of e) id c × Contains c w.first × Contains c w.second
    × (w.second ≢ w.first) × (value_in e.trail.values w.first ≢ Some false)
    × (value_in e.trail.values w.second ≢ Some false) × IsLong e id c
WatchChoiceGives e id (One l) = (c : List Lit) × IsLast e id l c × IsLong e id c
WatchChoiceGives e id NoChoice = IsConflict (store_of e) id

-- another literal of the clause, which became false at no lower level than this one became true
pub record IsPartner (e : Watcher) (id : ℕ) (l m : Lit) : Type 0 where
  pub member : (c : List Lit) → IsHeld (store_of e) id c → Contains c m
  pub distinct : l ≢ m
  pub at : ℕ
  pub step : Step
  pub is_step : slice_get e.trail.steps at ≡ Some step
  pub made : step.lit ≡ l
  pub later : (k : ℕ) (t : Step) → slice_get e.trail.steps k ≡ Some t → t.lit ≡ negated m → step.level ≤ t.level

-- one clause more needs no watch or is watched, or a clause is false
abbrev pub AttachGives : Watcher → Watcher → Option ℕ → Type 0
AttachGives old new None = new.checked ≡ old.checked + 1
AttachGives old new (Some id) = IsConflict (store_of new) id
