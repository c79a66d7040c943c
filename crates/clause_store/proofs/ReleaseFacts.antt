-- A clause of which no literal is true is removed, and its nodes leave their lists.
use Rattle.std.proofs.Common.{◌≡◌, ℕ, ◌≤◌, ◌+◌, ◌*◌, Option, Some, None, List, ◌∷◌, ◌++◌, length, set, refl, sym}
use Rattle.std.proofs.Common.{ap, ◌∙◌, inl, inr, ⊎_elim, arith, subst, Contains}
use Rattle.std.proofs.lemmas.Bool.{cases_eq}
use Rattle.std.proofs.lemmas.List.{length-set}
use Rattle.lit_core.specs.declared.literals.Lit.{Lit}
use Rattle.clause_store.specs.declared.propagation.Visit.TheVariants.{Done}
use Rattle.clause_store.specs.declared.watched.Watcher.{Watcher}
use Rattle.clause_base.specs.ClauseDbState.{ClauseDbState}
use Rattle.clause_base.specs.ListsState.{ListsState, HasLaws, nodes_of}
use Rattle.clause_base.specs.StoreState.{StoreState, IsHeld, IsStore, Propagates, without_clause}
use Rattle.clause_store.specs.Releasing.{HasTrue}
use Rattle.clause_store.specs.Watching.{code_of, store_of, HasWatch, IsWatcher, IsNodeOf}
use Rattle.clause_store.specs.Visits.{IsAt, Keeps, VisitGives}
use Rattle.clause_base.proofs.LinkFacts.{contains-cut, cut-contains}
use Rattle.clause_base.proofs.ListFacts.{slice_get-set_cases, slice_get-set_other}
use Rattle.clause_base.proofs.PropagateFacts.{propagates-refl}
use Rattle.clause_base.proofs.ShortFacts.{packed-remove}
use Rattle.clause_store.proofs.GrowthFacts.{watcher-held}

-- such a clause is the reason for nothing
pub store-released : (s : StoreState) (id : ℕ) → IsStore s → (HasTrue s id → ⊥) → IsStore (without_clause s id)
store-released s id h none = record {
  trail = h.trail;
  in_range = λ i c held. h.in_range i c (was i c held);
  once = λ i c held. h.once i c (was i c held);
  reasons = λ k t i e f.
      let r = h.reasons k t i e f in
      let other : i ≡ id → ⊥ = λ same. none (
        r.0,
        t.lit,
        subst (λ (n : ℕ). IsHeld s n r.0) same r.1,
        r.2.member,
        h.trail.coherent.are_true k t e,
      ) in
      (r.0, slice_get-set_other s.clauses id i None other ∙ r.1, r.2);
  unopposed = λ l f i c held has. h.unopposed l f i c (was i c held) has;
}
  where
    was : (i : ℕ) (c : List Lit) → IsHeld (without_clause s id) i c → IsHeld s i c
    was i c held = slice_get-set_cases s.clauses id None i (Some c) held (λ e. cc)

-- the watcher with other clauses
abbrev pub with_held : Watcher → ClauseDbState → Watcher
with_held e x = record {
  held = x;
  short = e.short;
  lists = e.lists;
  trail = e.trail;
  queue = e.queue;
  checked = e.checked;
  stale = e.stale;
}

-- a removed clause needs no watch
pub watcher-without : (e : Watcher) (id : ℕ) → IsWatcher e → IsStore (without_clause (store_of e) id)
    → IsWatcher (with_held e (record { clauses = set e.held.clauses id None; spare = e.held.spare }))
watcher-without e id h store =
    let none : Option (List Lit) = None in
    let left : ClauseDbState = record { clauses = set e.held.clauses id none; spare = e.held.spare } in
    let size : length (set e.held.clauses id none) ≡ length e.held.clauses = length-set e.held.clauses id none in
    let a : e.checked ≤ length e.held.clauses = h.checked in
    let n : 2 * length e.held.clauses ≤ length e.lists.labels = h.nodes in
    watcher-held e (with_held e left) h store refl refl refl refl refl
    (packed-remove e.held.clauses id (length e.trail.values) e.short h.short)
    (omega arith) (omega arith)
    (λ pos. let r : 2 * length e.held.clauses + 2 ≤ length e.lists.labels = h.room pos in omega arith)
    (λ i d lt held. slice_get-set_cases e.held.clauses id none i (Some d) held (λ x. cc))
    (λ i x at. at) h.lists (omega arith) (λ j. refl)

-- the node of a removed clause was taken out of its list
module _ (e : Watcher) (h : IsWatcher e) (f : Lit) (node : ℕ) (before : Option ℕ)
    (at : IsAt e.lists (code_of f) before node) (removed : (id : ℕ) (c : List Lit) → IsNodeOf node id
    → IsHeld (store_of e) id c → ⊥) (lists : ListsState) (laws : HasLaws lists)
    (labels : lists.labels ≡ e.lists.labels) (count : length lists.lists ≡ length e.lists.lists)
    (cut : (front back : List ℕ) → nodes_of e.lists (code_of f) ≡ front ++ node ∷ back
    → nodes_of lists (code_of f) ≡ front ++ back)
    (stay : (j : ℕ) → (j ≡ code_of f → ⊥) → nodes_of lists j ≡ nodes_of e.lists j) where
  abbrev after-unlist : Watcher
  after-unlist = record {
    held = e.held;
    short = e.short;
    lists = lists;
    trail = e.trail;
    queue = e.queue;
    checked = e.checked;
    stale = e.stale;
  }

  still : (j m : ℕ) → Contains (nodes_of e.lists j) m → (m ≡ node → ⊥) → Contains (nodes_of lists j) m
  still j m has ne = ⊎_elim
      (λ s. subst (λ (k : ℕ). Contains (nodes_of lists k) m) (sym s)
      (subst (λ (xs : List ℕ). Contains xs m) (sym (cut at.0 at.1 at.2))
      (contains-cut at.0 node at.1 m (subst (λ (xs : List ℕ). Contains xs m) (ap (nodes_of e.lists) s
      ∙ at.2) has) ne)))
      (λ other. subst (λ (xs : List ℕ). Contains xs m) (sym (stay j other)) has)
      (cases_eq j (code_of f))

  was : (j m : ℕ) → Contains (nodes_of lists j) m → Contains (nodes_of e.lists j) m
  was j m has = ⊎_elim
      (λ s. subst (λ (k : ℕ). Contains (nodes_of e.lists k) m) (sym s) (subst (λ (xs : List ℕ). Contains xs m)
      (sym at.2) (cut-contains at.0 node at.1 m (subst (λ (xs : List ℕ). Contains xs m) (ap (nodes_of lists) s
      ∙ cut at.0 at.1 at.2) has))))
      (λ other. subst (λ (xs : List ℕ). Contains xs m) (stay j other) has)
      (cases_eq j (code_of f))

  -- a held clause has other nodes
  held-other : (i n : ℕ) (c : List Lit) → IsHeld (store_of e) i c → IsNodeOf n i → n ≡ node → ⊥
  held-other i n c held of same = removed i c (subst (λ (x : ℕ). IsNodeOf x i) same of) held

  pub unlist-watcher : IsWatcher after-unlist
  unlist-watcher = record {
    store = h.store;
    lists = laws;
    queue = h.queue;
    checked = h.checked;
    nodes = let k : 2 * length e.held.clauses ≤ length e.lists.labels = h.nodes in let n : length lists.labels
        ≡ length e.lists.labels = ap length labels in omega arith;
    count = let k : 2 * length e.trail.values ≤ length e.lists.lists = h.count in omega arith;
    small = h.small;
    room = λ spare. let k : 2 * length e.held.clauses + 2 ≤ length e.lists.labels = h.room spare in
        let n : length lists.labels ≡ length e.lists.labels = ap length labels in omega arith;
    shorts = h.shorts;
    short = h.short;
    single = h.single;
    closed = h.closed;
    guarded = λ i c lt held long. let g = h.guarded i c lt held long in
        (g.0, subst (λ (ls : List ℕ). HasWatch ls i g.0) (sym labels) g.1, g.2);
    current = h.current;
    listed = λ i c lt held long. let g = h.listed i c lt held long in record {
      watch = g.watch;
      is_watch = subst (λ (ls : List ℕ). HasWatch ls i g.watch) (sym labels) g.is_watch;
      first = still (code_of g.watch.first) (2 * i) g.first (held-other i (2 * i) c held (inl refl));
      second = still (code_of g.watch.second) (2 * i + 1) g.second (held-other i (2 * i + 1) c held (inr refl));
    };
    owned = λ j n has. let g = h.owned j n (was j n has) in record {
      id = g.id;
      of = g.of;
      checked = g.checked;
      long = g.long;
      watch = g.watch;
      is_watch = subst (λ (ls : List ℕ). HasWatch ls g.id g.watch) (sym labels) g.is_watch;
      first = g.first;
      second = g.second;
    };
  }

  pub unlist-same : Propagates (store_of e) (store_of after-unlist)
  unlist-same = propagates-refl (store_of e)

  pub unlist-keeps : Keeps e after-unlist node
  unlist-keeps = record {
    held = refl;
    short = refl;
    queue = refl;
    checked = refl;
    stale = refl;
    others = λ q i c other le g. (g.0, subst (λ (ls : List ℕ). HasWatch ls i g.0) (sym labels) g.1, g.2);
  }

  pub unlist-done : VisitGives e after-unlist node f before (Done before)
  unlist-done = (
    λ front rest is last. (front, cut front rest is, last),
    λ i c of held. absurd (removed i c of held),
  )
