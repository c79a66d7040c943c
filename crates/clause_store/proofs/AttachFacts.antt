-- One more clause is watched.
use Rattle.std.proofs.Common.{◌≡◌, ℕ, ◌<◌, ◌≤◌, ◌+◌, ◌*◌, true, false, Some, List, ◌∷◌, length, sym, ap, ◌∙◌, ◌⊎◌, inl}
use Rattle.std.proofs.Common.{inr, ⊎_elim, arith, subst, Contains}
use Rattle.std.proofs.lemmas.Bool.{cases_eq, cases_lt}
use Rattle.lit_core.specs.declared.literals.Lit.{Lit}
use Rattle.lit_core.specs.Literals.{value_in}
use Rattle.lit_core.proofs.LiteralFacts.{Contains-cons_cases, Contains-head, Contains-tail}
use Rattle.clause_store.specs.declared.watched.Watch.{Watch}
use Rattle.clause_store.specs.declared.watched.Watcher.{Watcher}
use Rattle.clause_store.specs.declared.attachment.WatchChoice.TheVariants.{Two}
use Rattle.clause_base.specs.ListsState.{ListsState, HasLaws, nodes_of}
use Rattle.clause_base.specs.StoreState.{IsHeld}
use Rattle.clause_base.specs.TrailLaws.{IsMade}
use Rattle.clause_store.specs.Watching.{code_of, store_of, HasWatch, IsGood, IsLong, IsWatcher, IsWatchNode, IsListed}
use Rattle.clause_store.specs.Watching.{IsNodeOf, IsWatched}
use Rattle.clause_store.specs.Visits.{CanAttach, IsPartner, NeedsNoWatch, WatchChoiceGives}
use Rattle.clause_store.proofs.WatchFacts.{guards-unfalse, same-held}
use Rattle.clause_store.proofs.NodeFacts.{same-node}

-- a node of the next clause enlists nowhere
pub next-free : (e : Watcher) → IsWatcher e → (n : ℕ) → IsNodeOf n e.checked → (j : ℕ)
    → Contains (nodes_of e.lists j) n → ⊥
next-free e h n of j has =
    let w = h.owned j n has in
    let same : w.id ≡ e.checked = same-node n w.id e.checked w.of of in
    let lt : w.id < e.checked = w.checked in
    omega arith

-- a node was listed at the head of a list
pub record Enlists (old new : ListsState) (to node : ℕ) : Type 0 where
  pub there : Contains (nodes_of new to) node
  pub kept : (j m : ℕ) → Contains (nodes_of old j) m → Contains (nodes_of new j) m
  pub was : (j m : ℕ) → Contains (nodes_of new j) m → (m ≡ node) ⊎ Contains (nodes_of old j) m

pub enlists : (old new : ListsState) (to node : ℕ) → nodes_of new to ≡ node ∷ nodes_of old to
    → ((j : ℕ) → (j ≡ to → ⊥) → nodes_of new j ≡ nodes_of old j) → Enlists old new to node
enlists old new to node here rest = record {
  there = subst (λ (xs : List ℕ). Contains xs node) (sym here) (Contains-head node (nodes_of old to));
  kept = λ j m has. ⊎_elim
      (λ e. subst (λ (k : ℕ). Contains (nodes_of new k) m) (sym e) (subst (λ (xs : List ℕ). Contains xs m) (sym here)
      (Contains-tail node (nodes_of old to) m (subst (λ (k : ℕ). Contains (nodes_of old k) m) e has))))
      (λ ne. subst (λ (xs : List ℕ). Contains xs m) (sym (rest j ne)) has)
      (cases_eq j to);
  was = λ j m has. ⊎_elim
      (λ e. ⊎_elim
      (λ is. inl (sym is))
      (λ old_one. inr (subst (λ (k : ℕ). Contains (nodes_of old k) m) (sym e) old_one))
      (Contains-cons_cases node (nodes_of old to) m (subst (λ (xs : List ℕ). Contains xs m) (ap (nodes_of new) e
      ∙ here) has)))
      (λ ne. inr (subst (λ (xs : List ℕ). Contains xs m) (rest j ne) has))
      (cases_eq j to);
}

module _ (e : Watcher) (h : IsWatcher e) (more : e.checked < length e.held.clauses) (w : Watch) (mid lists : ListsState)
    (mine : HasWatch lists.labels e.checked w) (theirs : (i : ℕ) (v : Watch) → (i ≡ e.checked → ⊥)
    → HasWatch e.lists.labels i v → HasWatch lists.labels i v) (first : Enlists e.lists mid (code_of w.first)
    (2 * e.checked)) (second : Enlists mid lists (code_of w.second) (2 * e.checked + 1)) where
  abbrev after-attach : Watcher
  after-attach = record {
    held = e.held;
    short = e.short;
    lists = lists;
    trail = e.trail;
    queue = e.queue;
    checked = e.checked + 1;
    stale = e.stale;
  }

  listed-next : IsListed after-attach e.checked
  listed-next = record {
    watch = w;
    is_watch = mine;
    first = second.kept (code_of w.first) (2 * e.checked) first.there;
    second = second.there;
  }

  listed-before : (i : ℕ) → (i ≡ e.checked → ⊥) → IsListed e i → IsListed after-attach i
  listed-before i ne g = record {
    watch = g.watch;
    is_watch = theirs i g.watch ne g.is_watch;
    first = second.kept (code_of g.watch.first) (2 * i) (first.kept (code_of g.watch.first) (2 * i) g.first);
    second = second.kept (code_of g.watch.second) (2 * i + 1) (first.kept (code_of g.watch.second)
        (2 * i + 1) g.second);
  }

  pub attach-watcher : HasLaws lists → length lists.labels ≡ length e.lists.labels → length lists.lists
      ≡ length e.lists.lists → w.first.var.0 < length e.trail.values → w.second.var.0 < length e.trail.values
      → CanAttach e w → IsWatcher after-attach
  attach-watcher laws nodes count in_first in_second can =
      let owned-next : (n : ℕ) → IsNodeOf n e.checked → IsWatchNode after-attach n =
      λ n of. record {
        id = e.checked;
        of = of;
        checked = omega arith;
        long = λ c held. (can c held).0;
        watch = w;
        is_watch = mine;
        first = in_first;
        second = in_second;
      } in
      let owned-before : (j n : ℕ) → Contains (nodes_of e.lists j) n → IsWatchNode after-attach n = λ j n has. (
      let g = h.owned j n has in
      let lt : g.id < e.checked = g.checked in
      record {
        id = g.id;
        of = g.of;
        checked = omega arith;
        long = g.long;
        watch = g.watch;
        is_watch =
            theirs g.id g.watch (λ x. let y : g.id ≡ e.checked = x in omega arith) g.is_watch;
        first = g.first;
        second =
            g.second;
      }) in
      record {
        store = h.store;
        lists = laws;
        queue = h.queue;
        checked = omega arith;
        nodes = let k : 2 * length e.held.clauses ≤ length e.lists.labels = h.nodes in omega arith;
        count = let k : 2 * length e.trail.values ≤ length e.lists.lists = h.count in omega arith;
        small = h.small;
        room = λ spare. let k : 2 * length e.held.clauses + 2 ≤ length e.lists.labels = h.room spare in omega arith;
        shorts = h.shorts;
        short = h.short;
        closed = h.closed;
        single = λ i c lt held few. ⊎_elim
            (λ same.
            let many : 2 ≤ length c = (can c (subst (λ (n : ℕ). IsHeld (store_of e) n c) same held)).0.0 in
            absurd (omega arith))
            (λ ne. h.single i c (omega arith) held few)
            (cases_eq i e.checked);
        guarded = λ i c lt held long. ⊎_elim
            (λ same. (
              w,
              subst (λ (n : ℕ). HasWatch lists.labels n w) (sym same) mine,
              (can c (subst (λ (n : ℕ). IsHeld (store_of e) n c) same held)).1,
            ))
            (λ ne. let g = h.guarded i c (omega arith) held long in (g.0, theirs i g.0 ne g.1, g.2))
            (cases_eq i e.checked);
        current = h.current;
        listed = λ i c lt held long. ⊎_elim
            (λ same. subst (IsListed after-attach) (sym same) listed-next)
            (λ ne. listed-before i ne (h.listed i c (omega arith) held long))
            (cases_eq i e.checked);
        owned = λ j n has. ⊎_elim
            (λ is. owned-next n (inr is))
            (λ rest. ⊎_elim (λ is. owned-next n (inl is)) (λ old. owned-before j n old) (first.was j n rest))
            (second.was j n has);
      }

-- a clause that needs no watch is not one of those that are watched
unwatched : (e : Watcher) (id : ℕ) (c : List Lit) → NeedsNoWatch e id c → IsLong e id c → ⊥
unwatched e id c none long = ⊎_elim
    (λ listed. long.1 listed.0 listed.1)
    (λ few. let many : 2 ≤ length c = long.0 in let one : length c ≤ 1 = few.0 in omega arith)
    none

-- ... and if it has no two literals, one is true at level 0
passed-good : (e : Watcher) (id : ℕ) (c : List Lit) → NeedsNoWatch e id c → length c ≤ 1
    → IsGood e.trail.steps e.stale c
passed-good e id c none few = ⊎_elim
    (λ listed. let many : 2 ≤ length c = listed.1.0 in absurd (omega arith))
    (λ good. good.1)
    none

-- such a clause is passed over
pub skip-watcher : (e : Watcher) → IsWatcher e → e.checked < length e.held.clauses
    → ((c : List Lit) → IsHeld (store_of e) e.checked c → NeedsNoWatch e e.checked c) → IsWatcher
    (record {
      held = e.held;
      short = e.short;
      lists = e.lists;
      trail = e.trail;
      queue = e.queue;
      checked = e.checked + 1;
      stale = e.stale;
    })
skip-watcher e h more passed = record {
  store = h.store;
  lists = h.lists;
  queue = h.queue;
  checked = omega arith;
  nodes = h.nodes;
  count = h.count;
  small = h.small;
  room = h.room;
  shorts = h.shorts;
  short = h.short;
  closed = h.closed;
  single = λ i c lt held few. ⊎_elim
      (λ same. passed-good e e.checked c (passed c (subst (λ (n : ℕ). IsHeld (store_of e) n c) same held)) few)
      (λ ne. h.single i c (omega arith) held few)
      (cases_eq i e.checked);
  guarded = λ i c lt held long. ⊎_elim
      (λ same. absurd (unwatched e e.checked c (passed c (subst (λ (n : ℕ). IsHeld (store_of e) n c) same held))
      (subst (λ (n : ℕ). IsLong e n c) same long)))
      (λ ne. h.guarded i c (omega arith) held long)
      (cases_eq i e.checked);
  current = h.current;
  listed = λ i c lt held long. ⊎_elim
      (λ same. absurd (unwatched e e.checked c (passed c (subst (λ (n : ℕ). IsHeld (store_of e) n c) same held))
      (subst (λ (n : ℕ). IsLong e n c) same long)))
      (λ ne. let g = h.listed i c (omega arith) held long in record {
        watch = g.watch;
        is_watch = g.is_watch;
        first =
            g.first;
        second = g.second;
      })
      (cases_eq i e.checked);
  owned = λ j n has. let g = h.owned j n has in let lt : g.id < e.checked = g.checked in
      record {
        id = g.id;
        of = g.of;
        checked = omega arith;
        long = g.long;
        watch = g.watch;
        is_watch = g.is_watch;
        first = g.first;
        second = g.second;
      };
}

-- the rest of the clauses, all removed, is passed over
pub rest-watcher : (e : Watcher) (n : ℕ) → IsWatcher e → n ≡ length e.held.clauses
    → ((id : ℕ) (c : List Lit) → e.checked ≤ id → IsHeld (store_of e) id c → ⊥)
    → IsWatcher (record {
      held = e.held;
      short = e.short;
      lists = e.lists;
      trail = e.trail;
      queue = e.queue;
      checked = n;
      stale = e.stale;
    })
rest-watcher e n h all gone =
    let most : e.checked ≤ length e.held.clauses = h.checked in
    record {
      store = h.store;
      lists = h.lists;
      queue = h.queue;
      checked = omega arith;
      nodes = h.nodes;
      count = h.count;
      small = h.small;
      room = h.room;
      shorts = h.shorts;
      short = h.short;
      closed = h.closed;
      single = λ i c lt held few. ⊎_elim (λ before. h.single i c before held few)
          (λ ge. absurd (gone i c ge held)) (cases_lt i e.checked);
      guarded = λ i c lt held long. ⊎_elim (λ before. h.guarded i c before held long)
          (λ ge. absurd (gone i c ge held)) (cases_lt i e.checked);
      current = h.current;
      listed = λ i c lt held long. ⊎_elim
          (λ before. let g = h.listed i c before held long in record {
            watch = g.watch;
            is_watch = g.is_watch;
            first =
                g.first;
            second = g.second;
          })
          (λ ge. absurd (gone i c ge held))
          (cases_lt i e.checked);
      owned = λ j k has. let g = h.owned j k has in let lt : g.id < e.checked = g.checked in
          record {
            id = g.id;
            of = g.of;
            checked = omega arith;
            long = g.long;
            watch = g.watch;
            is_watch = g.is_watch;
            first = g.first;
            second = g.second;
          };
    }

-- two literals that are not false may be watched
pub two-attach : (e : Watcher) (w : Watch) → IsWatcher e → WatchChoiceGives e e.checked (Two w) → CanAttach e w
two-attach e w h p c held =
    let same : p.0 ≡ c = same-held (store_of e) e.checked p.0 c p.1 held in (
      subst (IsLong e e.checked) same p.7,
      subst (λ (x : List Lit). IsWatched e.trail.steps e.queue e.stale x w) same (record {
        has_first = p.2;
        has_second = p.3;
        ways = inr (record {
          distinct = λ y. p.4 (sym y);
          first = guards-unfalse e.trail.values e.trail.steps e.queue e.stale w.first w.second
              h.store.trail.coherent p.5;
          second = guards-unfalse e.trail.values e.trail.steps e.queue e.stale w.second w.first
              h.store.trail.coherent p.6;
        });
      }),
    )

-- a true literal may be watched with one that became false at no lower level
pub pair-attach : (e : Watcher) (l m : Lit) (c : List Lit) → IsWatcher e → IsHeld (store_of e) e.checked c
    → IsLong e e.checked c → Contains c l → value_in e.trail.values l ≡ Some true → IsPartner e e.checked l m
    → CanAttach e (record { first = l; second = m })
pair-attach e l m c h held long has t p d k =
    let w : Watch = record { first = l; second = m } in
    let same : c ≡ d = same-held (store_of e) e.checked c d held k in (
      subst (IsLong e e.checked) same long,
      subst (λ (x : List Lit). IsWatched e.trail.steps e.queue e.stale x w) same (record {
        has_first = has;
        has_second = p.member c held;
        ways = inr (record {
          distinct = p.distinct;
          first = guards-unfalse e.trail.values e.trail.steps e.queue e.stale l m h.store.trail.coherent
              (λ f. let y : Some true ≡ Some false = sym t ∙ f in cc);
          second = λ i u lt eu is. (p.at, p.step, p.is_step, p.made, inr (p.later i u eu is));
        });
      }),
    )

-- a clause with a true literal may be watched by it, at level 0 or where levels are passed over
pub one-attach : (e : Watcher) (l : Lit) (c : List Lit) → IsWatcher e → IsHeld (store_of e) e.checked c
    → IsLong e e.checked c → Contains c l → value_in e.trail.values l ≡ Some true
    → ((e.stale ≡ true) ⊎ (e.trail.level ≡ 0)) → CanAttach e (record { first = l; second = l })
one-attach e l c h held long has t low d k =
    let m : IsMade e.trail.steps l = h.store.trail.coherent.was_made l t in
    let w : Watch = record { first = l; second = l } in
    let top : m.1.level ≤ e.trail.level = h.store.trail.top m.0 m.1 m.2 in
    let same : c ≡ d = same-held (store_of e) e.checked c d held k in (
      subst (IsLong e e.checked) same long,
      subst (λ (x : List Lit). IsWatched e.trail.steps e.queue e.stale x w) same (record {
        has_first = has;
        has_second = has;
        ways = inl (m.0, m.1, m.2, subst (Contains c) (sym m.3) has, ⊎_elim (λ s. inl s) (λ z. inr (omega arith)) low);
      }),
    )

-- a clause of one literal, which is true at level 0 or where levels are passed over, needs no watch
pub single-passed : (e : Watcher) (l : Lit) (c : List Lit) → IsWatcher e → IsHeld (store_of e) e.checked c
    → length c ≤ 1 → Contains c l → value_in e.trail.values l ≡ Some true
    → ((e.stale ≡ true) ⊎ (e.trail.level ≡ 0)) → (d : List Lit) → IsHeld (store_of e) e.checked d
    → NeedsNoWatch e e.checked d
single-passed e l c h held few has t low d k =
    let m : IsMade e.trail.steps l = h.store.trail.coherent.was_made l t in
    let top : m.1.level ≤ e.trail.level = h.store.trail.top m.0 m.1 m.2 in
    subst (NeedsNoWatch e e.checked) (same-held (store_of e) e.checked c d held k) (inr (
      few,
      (m.0, m.1, m.2, subst (Contains c) (sym m.3) has, ⊎_elim (λ s. inl s) (λ z. inr (omega arith)) low),
    ))
