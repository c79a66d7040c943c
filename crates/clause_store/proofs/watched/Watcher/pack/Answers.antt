use Rattle.std.proofs.Common.{◌≡◌, ◌<◌, ◌≤◌, ◌*◌, length, ap, arith}
use Rattle.clause_store.specs.declared.watched.Watcher.{Watcher}
use Rattle.clause_store.proofs.GrowthFacts.{have-lists, watcher-packed}
use Rattle.clause_store.proofs.watched.Watcher.pack.Goals as goal

pub pack-requires : goal.pack-requires
pack-requires c =
    let count : length c.assignment.result.now ≡ length c.args.self.now.trail.values =
    ap length c.assignment.ensures.value in
    let enough = c.in_ok-add_lists.ensures.enough in
    let len = c.len.ensures in
    have-lists c.args.self.now c.requires.watcher (length c.add_lists.new.self.lists)
    (omega (arith, enough, len, count))

pub returns-in_err-add_lists-clause-watcher : goal.returns-in_err-add_lists-clause-watcher
returns-in_err-add_lists-clause-watcher c =
    let e : Watcher = c.args.self.now in
    let h = c.requires.watcher in
    let s = c.add_lists.ensures in
    watcher-packed e c.clear.new.self c.add_lists.new.self h c.requires.unassigned c.clear.ensures.laws
    c.clear.ensures.labels c.clear.ensures.count c.clear.ensures.empty
    (s.kept e.held.clauses (length e.trail.values) h.short)
    (λ (some : 0 < c.add_lists.new.self.packed).
    let still : c.add_lists.new.self.packed ≡ e.short.packed = s.packed in
    let was : 2 * length e.trail.values ≤ length e.short.lists = h.shorts (omega arith) in
    let more : length e.short.lists ≤ length c.add_lists.new.self.lists = s.longer in
    omega arith)

pub returns-clause-watcher : goal.returns-clause-watcher
returns-clause-watcher c =
    let e : Watcher = c.args.self.now in
    let h = c.requires.watcher in
    let count : length c.assignment.result.now ≡ length e.trail.values = ap length c.assignment.ensures.value in
    let enough = c.in_ok-add_lists.ensures.enough in
    let len = c.len.ensures in
    let same = c.pack.ensures.lists in
    watcher-packed e c.clear.new.self c.pack.new.self h c.requires.unassigned c.clear.ensures.laws
    c.clear.ensures.labels c.clear.ensures.count c.clear.ensures.empty
    (c.pack.ensures.kept (length e.trail.values)
    (c.add_lists.ensures.kept e.held.clauses (length e.trail.values) h.short) h.store.in_range)
    (λ some. omega (arith, enough, len, count, same))
