-- The watcher after an assignment, a backtrack, and other calls.
use Rattle.std.proofs.Common.{◌≡◌, ℕ, ◌<◌, ◌≤◌, ◌+◌, ◌*◌, ◌^◌, min, Bool, true, false, Option, Some, None, List, []}
use Rattle.std.proofs.Common.{◌∷◌, ◌++◌, length, refl, sym, ap, ◌∙◌, inl, inr, ⊎_elim, arith, slice_get, subst}
use Rattle.std.proofs.Common.{Contains}
use Rattle.std.specs.Option.{ForSome}
use Rattle.std.proofs.lemmas.Option.{slice_get_within}
use Rattle.std.proofs.lemmas.List.{length-set, length_push, length-replicate}
use Rattle.std.proofs.lemmas.Bool.{cases_lt, both_ways}
use Rattle.lit_core.specs.declared.literals.Lit.{Lit}
use Rattle.lit_core.specs.Literals.{value_in, negated}
use Rattle.lit_core.proofs.LiteralFacts.{nothing_in_none}
use Rattle.clause_base.specs.declared.trail.Step.{Step}
use Rattle.clause_base.specs.TrailState.{TrailState}
use Rattle.clause_base.specs.TrailLaws.{IsTrail, with_step, level_after, cleared, CutsAt}
use Rattle.clause_base.specs.ListsState.{ListsState, HasLaws, nodes_of}
use Rattle.clause_base.specs.StoreState.{IsStore, IsHeld, Implies, with_trail}
use Rattle.clause_store.specs.declared.watched.Watch.{Watch}
use Rattle.clause_store.specs.declared.watched.Watcher.{Watcher}
use Rattle.clause_store.specs.Watching.{store_of, Guards, IsClosed, IsGood, IsWatched, IsWatcher}
use Rattle.clause_store.specs.Visits.{MayAssign}
use Rattle.clause_base.proofs.ListFacts.{slice_get-push_cases, slice_get-take, slice_get-take-below}
use Rattle.clause_base.proofs.StoreFacts.{store-assign, store-cut, store-cleared, store-fix}
use Rattle.clause_store.proofs.WatchFacts.{good-push, watched-push}
use Rattle.clause_store.proofs.ClosedFacts.{closed-none, closed-push, closed-stale}
use Rattle.clause_store.proofs.ImplyFacts.{owned-sized}

guards-stale : (steps : List Step) (q : ℕ) (stale : Bool) (a b : Lit) → Guards steps q stale a b
    → Guards steps q true a b
guards-stale steps q stale a b g k t lt e is = let w = g k t lt e is in (w.0, w.1, w.2, w.3, inl refl)

good-stale : (steps : List Step) (stale : Bool) (c : List Lit) → IsGood steps stale c → IsGood steps true c
good-stale steps stale c g = (g.0, g.1, g.2, g.3, inl refl)

pub watched-stale : (steps : List Step) (q : ℕ) (stale : Bool) (c : List Lit) (w : Watch) → IsWatched steps q stale c w
    → IsWatched steps q true c w
watched-stale steps q stale c w h = record {
  has_first = h.has_first;
  has_second = h.has_second;
  ways = ⊎_elim (λ g. inl (good-stale steps stale c g)) (λ p.
      inr (record {
        distinct = p.distinct;
        first = guards-stale steps q stale w.first w.second p.first;
        second =
            guards-stale steps q stale w.second w.first p.second;
      })) h.ways;
}

pub watcher-stale : (e : Watcher) → IsWatcher e → IsWatcher (record {
  held = e.held;
  short = e.short;
  lists = e.lists;
  trail = e.trail;
  queue = e.queue;
  checked = e.checked;
  stale = true;
})
watcher-stale e h = record {
  store = h.store;
  lists = h.lists;
  queue = h.queue;
  checked = h.checked;
  nodes = h.nodes;
  count = h.count;
  small = h.small;
  room = h.room;
  shorts = h.shorts;
  short = h.short;
  single = λ id c lt held few. good-stale e.trail.steps e.stale c (h.single id c lt held few);
  closed = λ id c lt held short. closed-stale e.trail.steps e.queue e.stale c (h.closed id c lt held short);
  guarded = λ id c lt held long. let g = h.guarded id c lt held long in
      (g.0, g.1, watched-stale e.trail.steps e.queue e.stale c g.0 g.2);
  current = λ n. cc;
  listed = λ i c lt held long. let g = h.listed i c lt held long in record {
    watch = g.watch;
    is_watch = g.is_watch;
    first =
        g.first;
    second = g.second;
  };
  owned = λ j n has. let g = h.owned j n has in record {
    id = g.id;
    of = g.of;
    checked = g.checked;
    long = g.long;
    watch = g.watch;
    is_watch = g.is_watch;
    first = g.first;
    second = g.second;
  };
}

-- one more step, which is of the current level where what is not yet propagated is
pub watcher-step : (e : Watcher) (t : Step) → IsWatcher e → IsStore (with_trail (store_of e) (with_step e.trail t))
    → (e.stale ≡ false → (k : ℕ) (u : Step) → e.queue ≤ k → slice_get e.trail.steps k ≡ Some u → u.level ≡ t.level)
    → IsWatcher (record {
      held = e.held;
      short = e.short;
      lists = e.lists;
      trail = with_step e.trail t;
      queue = e.queue;
      checked =
          e.checked;
      stale = e.stale;
    })
watcher-step e t h store current =
    let len : length (e.trail.steps ++ t ∷ []) ≡ length e.trail.steps + 1 = length_push e.trail.steps t in
    let q : e.queue ≤ length e.trail.steps = h.queue in
    record {
      store = store;
      lists = h.lists;
      queue = omega arith;
      checked = h.checked;
      nodes = h.nodes;
      count = rw length-set h.count;
      small = rw length-set h.small;
      room = h.room;
      shorts = rw length-set h.shorts;
      short = rw length-set h.short;
      single = λ i c lt held few. good-push e.trail.steps t e.stale c (h.single i c lt held few);
      closed = λ i c lt held short. closed-push e.trail.steps t e.queue e.stale c h.queue (h.closed i c lt held short);
      guarded = λ i c lt held long. let g = h.guarded i c lt held long in
          (g.0, g.1, watched-push e.trail.steps t e.queue e.stale c g.0 h.queue g.2);
      current = λ n k u le eu. ⊎_elim (λ o. current n k u le o) (λ x. ap (λ (y : Step). y.level) x.1)
          (slice_get-push_cases e.trail.steps t k u eu);
      listed = λ i c lt held long. let g = h.listed i c lt held long in record {
        watch = g.watch;
        is_watch = g.is_watch;
        first =
            g.first;
        second = g.second;
      };
      owned = λ j n has. owned-sized e t n (h.owned j n has);
    }

pub watcher-assign : (e : Watcher) (l : Lit) (r : Option ℕ) → IsWatcher e → l.var.0 < length e.trail.values
    → value_in e.trail.values l ≡ None → ForSome r (λ id. Implies (store_of e) id l) → MayAssign e r
    → IsWatcher (record {
      held = e.held;
      short = e.short;
      lists = e.lists;
      trail =
          with_step e.trail (record { lit = l; level = level_after e.trail.level r; reason = r });
      queue = e.queue;
      checked =
          e.checked;
      stale = e.stale;
    })
watcher-assign e l r h within free reason may =
    watcher-step e (record { lit = l; level = level_after e.trail.level r; reason = r }) h
    (store-assign (store_of e) l r h.store within free reason) (by_reason r may)
  where
    by_reason : (o : Option ℕ) → MayAssign e o → e.stale ≡ false → (k : ℕ) (u : Step) → e.queue ≤ k
        → slice_get e.trail.steps k ≡ Some u → u.level ≡ level_after e.trail.level o
    by_reason None m n k u le eu = ⊎_elim (λ s. absurd (both_ways e.stale n s))
        (λ all. let lt : k < length e.trail.steps = slice_get_within e.trail.steps k u eu in absurd (omega arith)) m
    by_reason (Some id) m n k u le eu = h.current n k u le eu

pub watcher-fix : (e : Watcher) (l : Lit) → IsWatcher e → e.trail.level ≡ 0 → l.var.0 < length e.trail.values
    → value_in e.trail.values l ≡ None → ((id : ℕ) (c : List Lit) → IsHeld (store_of e) id c → Contains c (negated l)
    → ⊥) → IsWatcher (record {
      held = e.held;
      short = e.short;
      lists = e.lists;
      trail =
          with_step e.trail (record { lit = l; level = 0; reason = None });
      queue = e.queue;
      checked = e.checked;
      stale = e.stale;
    })
watcher-fix e l h level within free unopposed =
    watcher-step e (record { lit = l; level = 0; reason = None }) h
    (store-fix (store_of e) l h.store level within free unopposed) (λ n k u le eu. h.current n k u le eu ∙ level)

-- the lists were emptied: all is to be looked at again
pub watcher-emptied : (e : Watcher) (lists : ListsState) (t : TrailState) (stale : Bool) → IsWatcher e
    → IsStore (with_trail (store_of e) t) → length t.values ≡ length e.trail.values → HasLaws lists
    → lists.labels ≡ e.lists.labels → length lists.lists ≡ length e.lists.lists → ((j : ℕ) → nodes_of lists j ≡ [])
    → (stale ≡ false → t.level ≡ 0) → IsWatcher (record {
      held = e.held;
      short = e.short;
      lists = lists;
      trail = t;
      queue = 0;
      checked =
          0;
      stale = stale;
    })
watcher-emptied e lists t stale h store size laws nodes count empty low = record {
  store = store;
  lists = laws;
  queue = omega arith;
  checked = omega arith;
  nodes = let k : 2 * length e.held.clauses ≤ length e.lists.labels = h.nodes in let n : length lists.labels
      ≡ length e.lists.labels = ap length nodes in omega arith;
  count = let k : 2 * length e.trail.values ≤ length e.lists.lists = h.count in omega arith;
  small = let k : length e.trail.values ≤ 2 ^ 31 = h.small in omega arith;
  room = λ spare. let k : 2 * length e.held.clauses + 2 ≤ length e.lists.labels = h.room spare in
      let n : length lists.labels ≡ length e.lists.labels = ap length nodes in omega arith;
  shorts = λ some. let k : 2 * length e.trail.values ≤ length e.short.lists = h.shorts some in omega arith;
  short = rw size h.short;
  single = λ i c lt held few. absurd (omega arith);
  closed = λ i c lt held short. closed-none t.steps stale c short (store.once i c held);
  guarded = λ i c lt held long. absurd (omega arith);
  current = λ n k u le eu. let a : u.level ≤ t.level = store.trail.top k u eu in let z : t.level ≡ 0 =
      low n in omega arith;
  listed = λ i c lt held long. absurd (omega arith);
  owned = λ j n has. absurd (nothing_in_none n (subst (λ (xs : List ℕ). Contains xs n) (empty j) has));
}

pub watcher-reset : (e : Watcher) (level : ℕ) (lists : ListsState) (t : TrailState) (stale : Bool) → IsWatcher e
    → CutsAt level e.trail t → IsTrail t → HasLaws lists → lists.labels ≡ e.lists.labels → length lists.lists
    ≡ length e.lists.lists → ((j : ℕ) → nodes_of lists j ≡ []) → (stale ≡ false → level ≡ 0)
    → IsWatcher (record {
      held = e.held;
      short = e.short;
      lists = lists;
      trail = t;
      queue = 0;
      checked = 0;
      stale = stale;
    })
watcher-reset e level lists t stale h cut trail laws nodes count empty low =
    watcher-emptied e lists t stale h (store-cut (store_of e) level t h.store cut trail) cut.size laws nodes count empty
    (λ n. cut.level_is ∙ low n)

pub watcher-cleared : (e : Watcher) (lists : ListsState) (t : TrailState) → IsWatcher e → t ≡ cleared e.trail
    → HasLaws lists → lists.labels ≡ e.lists.labels → length lists.lists ≡ length e.lists.lists
    → ((j : ℕ) → nodes_of lists j ≡ []) → IsWatcher (record {
      held = e.held;
      short = e.short;
      lists = lists;
      trail = t;
      queue = 0;
      checked = 0;
      stale = false;
    })
watcher-cleared e lists t h is laws nodes count empty =
    watcher-emptied e lists t false h
    (subst (λ (x : TrailState). IsStore (with_trail (store_of e) x)) (sym is) (store-cleared (store_of e) h.store))
    (ap (λ (x : TrailState). length x.values) is ∙ length-replicate (length e.trail.values) None)
    laws nodes count empty (λ n. ap (λ (x : TrailState). x.level) is)

-- a backtrack, where no level was passed over
module _ (e : Watcher) (level : ℕ) (t : TrailState) (h : IsWatcher e) (fresh : e.stale ≡ false)
    (le : level ≤ e.trail.level) (cut : CutsAt level e.trail t) (laws : IsTrail t) where
  -- a step of a kept level is kept
  kept-low : (j : ℕ) (u : Step) → slice_get e.trail.steps j ≡ Some u → u.level ≤ level → slice_get t.steps j ≡ Some u
  kept-low j u eu low = ⊎_elim
      (λ lt. ap (λ (xs : List Step). slice_get xs j) cut.kept ∙ slice_get-take-below (length t.steps) e.trail.steps j lt
      ∙ eu)
      (λ ge. let up : level < u.level = cut.above j u ge eu in absurd (omega arith))
      (cases_lt j (length t.steps))

  was : (k : ℕ) (u : Step) → slice_get t.steps k ≡ Some u → slice_get e.trail.steps k ≡ Some u
  was k u eu = (slice_get-take (length t.steps) e.trail.steps k u (ap (λ (xs : List Step). slice_get xs k)
      (sym cut.kept) ∙ eu)).0

  guards-cut : (a b : Lit) (q : ℕ) → q ≤ e.queue → Guards e.trail.steps e.queue e.stale a b
      → Guards t.steps q e.stale a b
  guards-cut a b q qle g k u lt eu is =
      let w = g k u (omega arith) (was k u eu) is in
      let low : u.level ≤ level = cut.below k u eu in
      ⊎_elim
      (λ s. absurd (both_ways e.stale fresh s))
      (λ l. (w.0, w.1, kept-low w.0 w.1 w.2 (omega arith), w.3, inr l))
      w.4

  good-cut : (c : List Lit) → IsGood e.trail.steps e.stale c → IsGood t.steps e.stale c
  good-cut c g = ⊎_elim
      (λ s. absurd (both_ways e.stale fresh s))
      (λ z. (g.0, g.1, kept-low g.0 g.1 g.2 (omega arith), g.3, inr z))
      g.4

  watched-cut : (c : List Lit) (w : Watch) (q : ℕ) → q ≤ e.queue → IsWatched e.trail.steps e.queue e.stale c w
      → IsWatched t.steps q e.stale c w
  watched-cut c w q qle p = record {
    has_first = p.has_first;
    has_second = p.has_second;
    ways = ⊎_elim
        (λ g. inl (good-cut c g))
        (λ r. inr (record {
          distinct = r.distinct;
          first = guards-cut w.first w.second q qle r.first;
          second =
              guards-cut w.second w.first q qle r.second;
        }))
        p.ways;
  }

  closed-cut : (c : List Lit) (q : ℕ) → q ≤ e.queue → IsClosed e.trail.steps e.queue e.stale c
      → IsClosed t.steps q e.stale c
  closed-cut c q qle p m has top others =
      let w = p m has (min top level) (λ l member ne.
      let o = others l member ne in
      let lt : o.0 < q = o.2 in
      let high : o.1.level ≤ top = o.5 in
      let low : o.1.level ≤ level = cut.below o.0 o.1 o.3 in
      (o.0, o.1, omega arith, was o.0 o.1 o.3, o.4, omega arith)) in
      ⊎_elim
      (λ s. absurd (both_ways e.stale fresh s))
      (λ le. let both : w.1.level ≤ min top level = le in
      (w.0, w.1, kept-low w.0 w.1 w.2 (omega arith), w.3, inr (omega arith)))
      w.4

  pub watcher-cut : (q : ℕ) → q ≡ min e.queue (length t.steps)
      → IsWatcher (record {
        held = e.held;
        short = e.short;
        lists = e.lists;
        trail = t;
        queue = q;
        checked = e.checked;
        stale = e.stale;
      })
  watcher-cut q is = record {
    store = store-cut (store_of e) level t h.store cut laws;
    lists = h.lists;
    queue = omega arith;
    checked = h.checked;
    nodes = h.nodes;
    count = rw cut.size h.count;
    small = rw cut.size h.small;
    room = h.room;
    shorts = rw cut.size h.shorts;
    short = rw cut.size h.short;
    single = λ i c lt held few. good-cut c (h.single i c lt held few);
    closed = λ i c lt held short. closed-cut c q (omega arith) (h.closed i c lt held short);
    guarded = λ i c lt held long. let g = h.guarded i c lt held long in
        (g.0, g.1, watched-cut c g.0 q (omega arith) g.2);
    current = λ n k u kle eu.
        let within : k < length t.steps = slice_get_within t.steps k u eu in
        let old : u.level ≡ e.trail.level = h.current n k u (omega arith) (was k u eu) in
        let low : u.level ≤ level = cut.below k u eu in
        let lv : t.level ≡ level = cut.level_is in
        omega arith;
    listed = λ i c lt held long. let g = h.listed i c lt held long in record {
      watch = g.watch;
      is_watch = g.is_watch;
      first =
          g.first;
      second = g.second;
    };
    owned = λ j n has. let g = h.owned j n has in record {
      id = g.id;
      of = g.of;
      checked = g.checked;
      long = g.long;
      watch = g.watch;
      is_watch = g.is_watch;
      first = rw cut.size g.first;
      second = rw cut.size g.second;
    };
  }
