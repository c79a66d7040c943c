-- The watcher with more room, more variables, and other clauses.
use Rattle.std.proofs.Common.{◌≡◌, ℕ, ◌<◌, ◌≤◌, ◌+◌, ◌*◌, ◌^◌, Some, List, [], length, sym, ap, ◌∙◌, arith, slice_get}
use Rattle.std.proofs.Common.{subst, Contains}
use Rattle.std.proofs.lemmas.List.Elements.{All-weaker}
use Rattle.lit_core.specs.declared.literals.Lit.{Lit}
use Rattle.lit_core.proofs.LiteralFacts.{nothing_in_none}
use Rattle.clause_base.specs.TrailState.{TrailState}
use Rattle.clause_base.specs.TrailLaws.{IsTrail, empty_trail}
use Rattle.clause_base.specs.ListsState.{ListsState, HasLaws, nodes_of}
use Rattle.clause_base.specs.ShortState.{ShortState, HaveLists, IsPacked}
use Rattle.clause_base.specs.StoreState.{IsStore, IsHeld}
use Rattle.clause_base.specs.declared.trail.Step.{Step}
use Rattle.clause_store.specs.declared.watched.Watch.{Watch}
use Rattle.clause_store.specs.declared.watched.Watcher.{Watcher}
use Rattle.clause_store.specs.Watching.{code_of, store_of, HasWatch, IsClosed, IsGood, IsLong, IsWatcher, IsWatched}
use Rattle.clause_base.proofs.ShortFacts.{packed-empty}
use Rattle.clause_base.proofs.StoreFacts.{store-longer}
use Rattle.clause_store.proofs.ClosedFacts.{closed-none}
use Rattle.clause_store.proofs.NodeFacts.{code-le}

-- what is written on nodes stays where there are more of them
pub watch-kept : (labels more : List ℕ) → ((k x : ℕ) → slice_get labels k ≡ Some x → slice_get more k ≡ Some x)
    → (id : ℕ) (w : Watch) → HasWatch labels id w → HasWatch more id w
watch-kept labels more kept id w h = record {
  first = kept (2 * id + 1) (code_of w.first) h.first;
  second =
      kept (2 * id) (code_of w.second) h.second;
}

-- what is watched is so beside the same lists of short clauses
abbrev long-same : (e b : Watcher) → e.short ≡ b.short → (id : ℕ) (c : List Lit) → IsLong e id c → IsLong b id c
long-same e b same id c long =
    (long.0, λ below short. long.1 (subst (λ (s : ShortState). id < s.packed) (sym same) below) short)

-- more nodes and other clauses, of which those that are watched were held before
pub watcher-held : (e : Watcher) (b : Watcher) → IsWatcher e → IsStore (store_of b) → b.trail ≡ e.trail
    → b.queue ≡ e.queue → b.checked ≡ e.checked → b.stale ≡ e.stale → b.short ≡ e.short
    → IsPacked b.held.clauses (length e.trail.values) e.short → e.checked ≤ length b.held.clauses
    → 2 * length b.held.clauses ≤ length b.lists.labels → (0 < b.held.spare → 2 * length b.held.clauses + 2
    ≤ length b.lists.labels) → ((id : ℕ) (c : List Lit) → id < length e.held.clauses → IsHeld (store_of b) id c
    → IsHeld (store_of e) id c) → ((k x : ℕ) → slice_get e.lists.labels k ≡ Some x → slice_get b.lists.labels k
    ≡ Some x) → HasLaws b.lists → length e.lists.lists ≤ length b.lists.lists
    → ((j : ℕ) → nodes_of b.lists j ≡ nodes_of e.lists j) → IsWatcher b
watcher-held e b h store trail queue checked stale short packed shorter nodes room was kept laws count lists =
    let all : e.checked ≤ length e.held.clauses = h.checked in
    let some : e.short.packed ≤ length e.held.clauses = h.short.within in
    let was_long : (id : ℕ) (c : List Lit) → IsLong b id c → IsLong e id c =
    λ id c long. long-same b e short id c long in
    record {
      store = store;
      lists = laws;
      queue = rw (queue, trail) h.queue;
      checked = rw checked shorter;
      nodes = nodes;
      count = let k : 2 * length e.trail.values ≤ length e.lists.lists = h.count in rw trail (omega arith);
      small = rw trail h.small;
      room = room;
      shorts = rw (trail, short) h.shorts;
      short = rw (trail, short) packed;
      single = λ id c lt held few. rw (trail, stale) (h.single id c (omega arith) (was id c (omega arith) held) few);
      closed = λ id c lt held small.
          let same : b.short.packed ≡ e.short.packed = ap (λ (s : ShortState). s.packed) short in
          rw (trail, queue, stale) (h.closed id c (omega arith) (was id c (omega arith) held) small);
      guarded = λ id c lt held long.
          let lto : id < e.checked = omega arith in
          let g = h.guarded id c lto (was id c (omega arith) held) (was_long id c long) in
          (g.0, watch-kept e.lists.labels b.lists.labels kept id g.0 g.1, rw (trail, queue, stale) g.2);
      current = rw (trail, queue, stale) h.current;
      listed = λ id c lt held long.
          let lto : id < e.checked = omega arith in
          let g = h.listed id c lto (was id c (omega arith) held) (was_long id c long) in
          record {
            watch = g.watch;
            is_watch = watch-kept e.lists.labels b.lists.labels kept id g.watch g.is_watch;
            first = subst (λ (xs : List ℕ). Contains xs (2 * id)) (sym (lists (code_of g.watch.first))) g.first;
            second = subst (λ (xs : List ℕ). Contains xs (2 * id + 1)) (sym (lists (code_of g.watch.second))) g.second;
          };
      owned = λ j n has.
          let g = h.owned j n (subst (λ (xs : List ℕ). Contains xs n) (lists j) has) in
          record {
            id = g.id;
            of = g.of;
            checked = rw checked g.checked;
            long = λ c held.
                let lt : g.id < e.checked = g.checked in
                long-same e b (sym short) g.id c (g.long c (was g.id c (omega arith) held));
            watch = g.watch;
            is_watch = watch-kept e.lists.labels b.lists.labels kept g.id g.watch g.is_watch;
            first = rw trail g.first;
            second = rw trail g.second;
          };
    }

-- more variables, and more lists
pub watcher-longer : (e : Watcher) (lists : ListsState) (short : ShortState) (t : TrailState) → IsWatcher e
    → IsPacked e.held.clauses (length t.values) short → (0 < short.packed → 2 * length t.values ≤ length short.lists)
    → short.packed ≡ e.short.packed → t.steps ≡ e.trail.steps
    → t.level ≡ e.trail.level → length e.trail.values ≤ length t.values → IsTrail t → HasLaws lists
    → lists.labels ≡ e.lists.labels → 2 * length t.values ≤ length lists.lists → length t.values ≤ 2 ^ 31
    → ((j : ℕ) → nodes_of lists j ≡ nodes_of e.lists j) → IsWatcher (record {
      held = e.held;
      short = short;
      lists = lists;
      trail = t;
      queue = e.queue;
      checked = e.checked;
      stale = e.stale;
    })
watcher-longer e lists short t h packed shorts below steps level longer trail laws nodes count small same =
    record {
      store = store-longer (store_of e) t h.store steps longer trail;
      lists = laws;
      queue = rw steps h.queue;
      checked = h.checked;
      nodes = let k : 2 * length e.held.clauses ≤ length e.lists.labels = h.nodes in let n : length lists.labels
          ≡ length e.lists.labels = ap length nodes in omega arith;
      count = count;
      small = small;
      room = λ spare. let k : 2 * length e.held.clauses + 2 ≤ length e.lists.labels = h.room spare in
          let n : length lists.labels ≡ length e.lists.labels = ap length nodes in omega arith;
      shorts = shorts;
      short = packed;
      single = λ id c lt held few. subst (λ (xs : List Step). IsGood xs e.stale c) (sym steps)
          (h.single id c lt held few);
      closed = λ id c lt held small. subst (λ (xs : List Step). IsClosed xs e.queue e.stale c) (sym steps)
          (h.closed id c (omega arith) held small);
      guarded = λ id c lt held long. let g = h.guarded id c lt held (long.0, λ p s. long.1 (omega arith) s) in (
        g.0,
        subst (λ (ls : List ℕ). HasWatch ls id g.0) (sym nodes) g.1,
        subst (λ (xs : List Step). IsWatched xs e.queue e.stale c g.0) (sym steps) g.2,
      );
      current = λ n k u le eu. h.current n k u le (subst (λ (xs : List Step). slice_get xs k ≡ Some u) steps eu)
          ∙ sym level;
      listed = λ id c lt held long.
          let g = h.listed id c lt held (long.0, λ p s. long.1 (omega arith) s) in
          record {
            watch = g.watch;
            is_watch = subst (λ (ls : List ℕ). HasWatch ls id g.watch) (sym nodes) g.is_watch;
            first = subst (λ (xs : List ℕ). Contains xs (2 * id)) (sym (same (code_of g.watch.first))) g.first;
            second = subst (λ (xs : List ℕ). Contains xs (2 * id + 1)) (sym (same (code_of g.watch.second))) g.second;
          };
      owned = λ j n has.
          let g = h.owned j n (subst (λ (xs : List ℕ). Contains xs n) (same j) has) in
          let a : g.watch.first.var.0 < length e.trail.values = g.first in
          let b : g.watch.second.var.0 < length e.trail.values = g.second in
          record {
            id = g.id;
            of = g.of;
            checked = g.checked;
            long = λ c held. let was = g.long c held in (was.0, λ p s. was.1 (omega arith) s);
            watch = g.watch;
            is_watch =
                subst (λ (ls : List ℕ). HasWatch ls g.id g.watch) (sym nodes) g.is_watch;
            first = omega arith;
            second =
                omega arith;
          };
    }

-- so many lists of short clauses are one for each literal of the clauses
pub have-lists : (e : Watcher) → IsWatcher e → (n : ℕ) → 2 * length e.trail.values ≤ n → HaveLists n e.held.clauses
have-lists e h n all id c held = All-weaker (λ l. l.var.0 < length e.trail.values) (λ l. code_of l < n)
    (λ l lt. let le : code_of l ≤ 2 * l.var.0 + 1 = code-le l in omega arith) c (h.store.in_range id c held)

-- nothing is assigned and no clause is watched, and more short clauses may be listed
pub watcher-packed : (e : Watcher) (lists : ListsState) (short : ShortState) → IsWatcher e → e.trail.steps ≡ []
    → HasLaws lists → lists.labels ≡ e.lists.labels → length lists.lists ≡ length e.lists.lists
    → ((j : ℕ) → nodes_of lists j ≡ []) → IsPacked e.held.clauses (length e.trail.values) short
    → (0 < short.packed → 2 * length e.trail.values ≤ length short.lists) → IsWatcher (record {
      held = e.held;
      short = short;
      lists = lists;
      trail = e.trail;
      queue = e.queue;
      checked = 0;
      stale = e.stale;
    })
watcher-packed e lists short h none laws nodes count empty packed shorts =
    let q : e.queue ≤ length e.trail.steps = h.queue in
    let zero_steps : length e.trail.steps ≡ 0 = ap length none in
    let start : e.queue ≡ 0 = omega arith in
    record {
      store = h.store;
      lists = laws;
      queue = h.queue;
      checked = omega arith;
      nodes = let k : 2 * length e.held.clauses ≤ length e.lists.labels = h.nodes in let n : length lists.labels
          ≡ length e.lists.labels = ap length nodes in omega arith;
      count = let k : 2 * length e.trail.values ≤ length e.lists.lists = h.count in omega arith;
      small = h.small;
      room = λ spare. let k : 2 * length e.held.clauses + 2 ≤ length e.lists.labels = h.room spare in
          let n : length lists.labels ≡ length e.lists.labels = ap length nodes in omega arith;
      shorts = shorts;
      short = packed;
      single = λ i c lt held few. absurd (omega arith);
      closed = λ i c lt held small. rw start (closed-none e.trail.steps e.stale c small (h.store.once i c held));
      guarded = λ i c lt held long. absurd (omega arith);
      current = h.current;
      listed = λ i c lt held long. absurd (omega arith);
      owned = λ j n has. absurd (nothing_in_none n (subst (λ (xs : List ℕ). Contains xs n) (empty j) has));
    }

pub watcher-empty : (e : Watcher) → IsStore (store_of e) → e.held.clauses ≡ [] → e.held.spare ≡ 0
    → e.trail ≡ empty_trail → e.queue ≡ 0 → e.checked ≡ 0 → e.short ≡ record { lists = []; packed = 0 }
    → HasLaws e.lists → ((j : ℕ) → nodes_of e.lists j ≡ [])
    → IsWatcher e
watcher-empty e store clauses spare trail queue checked short laws empty =
    let none : length e.held.clauses ≡ 0 = ap length clauses in
    let no_values : length e.trail.values ≡ 0 = ap (λ (t : TrailState). length t.values) trail in
    record {
      store = store;
      lists = laws;
      queue = omega arith;
      checked = omega arith;
      nodes = omega arith;
      count = omega arith;
      small = omega arith;
      room = λ pos. absurd (omega arith);
      shorts = λ some. let z : e.short.packed ≡ 0 = ap (λ (s : ShortState). s.packed) short in absurd (omega arith);
      short = rw (clauses, short, no_values) packed-empty;
      single = λ id c lt held few. absurd (omega arith);
      closed = λ id c lt held small. let z : e.short.packed ≡ 0 = ap (λ (s : ShortState). s.packed) short in
          absurd (omega arith);
      guarded = λ id c lt held long. absurd (omega arith);
      current = λ n k t le et. (let x : slice_get [] k ≡ Some t =
          subst (λ (y : TrailState). slice_get y.steps k ≡ Some t) trail et in cc);
      listed = λ id c lt held long. absurd (omega arith);
      owned = λ j n has. absurd (nothing_in_none n (subst (λ (xs : List ℕ). Contains xs n) (empty j) has));
    }
