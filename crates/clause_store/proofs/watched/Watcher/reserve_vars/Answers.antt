use Rattle.std.proofs.Common.{◌≡◌, ◌≤◌, ◌*◌, ◌^◌, max, length, refl, arith}
use Rattle.clause_store.specs.declared.watched.Watcher.{Watcher}
use Rattle.clause_base.proofs.ShortFacts.{packed-grow}
use Rattle.clause_store.proofs.GrowthFacts.{watcher-longer}
use Rattle.clause_store.proofs.watched.Watcher.reserve_vars.Goals as goal

pub returns-in_err-add_lists-clause-watcher : goal.returns-in_err-add_lists-clause-watcher
returns-in_err-add_lists-clause-watcher c =
    let e : Watcher = c.args.self.now in
    let h = c.requires.watcher in
    let l = c.add_lists.ensures in
    let longer : length e.lists.lists ≤ length c.add_lists.new.self.lists = l.longer in
    let all : 2 * length e.trail.values ≤ length e.lists.lists = h.count in
    watcher-longer e c.add_lists.new.self e.short e.trail h h.short h.shorts refl refl refl (omega arith) h.store.trail l.laws
    l.labels (omega arith) h.small l.lists

pub returns-in_err-grow_lists-clause-watcher : goal.returns-in_err-grow_lists-clause-watcher
returns-in_err-grow_lists-clause-watcher c =
    let e : Watcher = c.args.self.now in
    let h = c.requires.watcher in
    let l = c.add_lists.ensures in
    let s = c.grow_lists.ensures in
    let more : length e.short.lists ≤ length c.grow_lists.new.self.lists = s.longer in
    let still : c.grow_lists.new.self.packed ≡ e.short.packed = s.packed in
    let longer : length e.lists.lists ≤ length c.add_lists.new.self.lists = l.longer in
    let all : 2 * length e.trail.values ≤ length e.lists.lists = h.count in
    watcher-longer e c.add_lists.new.self c.grow_lists.new.self e.trail h
    (s.kept e.held.clauses (length e.trail.values) h.short)
    (λ some. let was : 2 * length e.trail.values ≤ length e.short.lists = h.shorts (omega arith) in omega arith) s.packed refl refl (omega arith) h.store.trail l.laws
    l.labels (omega arith) h.small l.lists

pub returns-clause-watcher : goal.returns-clause-watcher
returns-clause-watcher c =
    let e : Watcher = c.args.self.now in
    let h = c.requires.watcher in
    let l = c.add_lists.ensures in
    let g = c.grow.ensures in
    let longer : length e.lists.lists ≤ length c.add_lists.new.self.lists = l.longer in
    let all : 2 * length e.trail.values ≤ length e.lists.lists = h.count in
    let most : length c.grow.new.self.values ≤ max (length e.trail.values) c.args.n = g.bounded in
    let enough : 2 * c.args.n ≤ length c.add_lists.new.self.lists = c.in_ok-add_lists.ensures.enough in
    let small : length e.trail.values ≤ 2 ^ 31 = h.small in
    let s = c.grow_lists.ensures in
    let more : length e.short.lists ≤ length c.grow_lists.new.self.lists = s.longer in
    let still : c.grow_lists.new.self.packed ≡ e.short.packed = s.packed in
    let packed = s.kept e.held.clauses (length e.trail.values) h.short in
    watcher-longer e c.add_lists.new.self c.grow_lists.new.self c.grow.new.self h
    (packed-grow e.held.clauses (length e.trail.values) (length c.grow.new.self.values) c.grow_lists.new.self packed
    g.longer)
    (λ some.
    let was : 2 * length e.trail.values ≤ length e.short.lists = h.shorts (omega arith) in
    let fits : 2 * c.args.n ≤ length c.grow_lists.new.self.lists = c.in_ok-grow_lists.ensures.enough (omega arith) in
    omega arith) s.packed g.steps g.level g.longer g.laws l.laws l.labels
    (omega arith) (omega (arith, c.if-n-gt2147483648.false)) l.lists
