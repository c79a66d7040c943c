use Rattle.std.proofs.Common.{◌≡◌, ◌≤◌, ◌+◌, ◌*◌, length, List, Option, Some, refl, sym, ap, subst, arith, slice_get}
use Rattle.lit_core.specs.declared.literals.Lit.{Lit}
use Rattle.clause_base.specs.ShortState.{IsPacked}
use Rattle.clause_store.specs.declared.watched.Watcher.{Watcher}
use Rattle.clause_store.specs.Watching.{store_of}
use Rattle.clause_store.proofs.GrowthFacts.{watcher-held}
use Rattle.clause_base.proofs.StoreFacts.{store-same}
use Rattle.clause_store.proofs.watched.Watcher.reserve_clause.Goals as goal

pub returns-in_err-add_nodes-clause-watcher : goal.returns-in_err-add_nodes-clause-watcher
returns-in_err-add_nodes-clause-watcher c =
    let e : Watcher = c.args.self.now in
    let h = c.requires.watcher in
    let b : Watcher = record {
      held = e.held;
      short = e.short;
      lists = c.add_nodes.new.self;
      trail = e.trail;
      queue = e.queue;
      checked =
          e.checked;
      stale = e.stale;
    } in
    let more : length e.lists.labels ≤ length c.add_nodes.new.self.labels = c.add_nodes.ensures.longer in
    let count : length c.add_nodes.new.self.lists ≡ length e.lists.lists = c.add_nodes.ensures.count in
    let n : 2 * length e.held.clauses ≤ length e.lists.labels = h.nodes in
    watcher-held e b h h.store refl refl refl refl refl h.short h.checked (omega arith)
    (λ pos. let r : 2 * length e.held.clauses + 2 ≤ length e.lists.labels = h.room pos in omega arith)
    (λ id d lt held. held) c.add_nodes.ensures.kept c.add_nodes.ensures.laws (omega arith) c.add_nodes.ensures.lists

pub returns-clause-watcher : goal.returns-clause-watcher
returns-clause-watcher c =
    let e : Watcher = c.args.self.now in
    let h = c.requires.watcher in
    let b : Watcher = record {
      held = c.reserve.new.self;
      short = e.short;
      lists = c.add_nodes.new.self;
      trail = e.trail;
      queue =
          e.queue;
      checked = e.checked;
      stale = e.stale;
    } in
    let same : c.reserve.new.self.clauses ≡ e.held.clauses = c.reserve.ensures.clauses in
    let size : length c.reserve.new.self.clauses ≡ length e.held.clauses = ap length same in
    let len : c.len-count.result ≡ length e.held.clauses = c.len-count.ensures in
    let nodes : 2 * (c.len-count.result + 1) ≤ length c.add_nodes.new.self.labels = c.in_ok-add_nodes.ensures.enough in
    let count : length c.add_nodes.new.self.lists ≡ length e.lists.lists = c.add_nodes.ensures.count in
    let a : e.checked ≤ length e.held.clauses = h.checked in
    let packed : IsPacked c.reserve.new.self.clauses (length e.trail.values) e.short =
    subst (λ (xs : List (Option (List Lit))). IsPacked xs (length e.trail.values) e.short) (sym same) h.short in
    watcher-held e b h (store-same (store_of e) (store_of b) same refl h.store) refl refl refl refl refl packed
    (omega arith) (omega arith)
    (λ pos. omega arith)
    (λ id d lt held. subst (λ (xs : List (Option (List Lit))). slice_get xs id ≡ Some (Some d)) same held)
    c.add_nodes.ensures.kept c.add_nodes.ensures.laws (omega arith) c.add_nodes.ensures.lists
