use Rattle.std.proofs.Common.{arith}
use Rattle.std.proofs.lemmas.Grind.{elements}
use Rattle.std.proofs.Common.{◌≡◌, length, List, Some, slice_get, sym, ap, ◌∙◌}
use Rattle.std.proofs.lemmas.Option.{same_Some, slice_get_read}
use Rattle.clause_base.specs.declared.occurrences.Occurrence.{Occurrence}
use Rattle.clause_base.specs.ShortState.{ShortState}
use Rattle.clause_base.proofs.PropagateFacts.{propagates-trans}
use Rattle.clause_store.specs.declared.watched.Watcher.{Watcher}
use Rattle.clause_store.specs.Watching.{code_of, store_of}
use Rattle.clause_store.proofs.ShortWalk.{meets-end, meets-start, meets-step}
use Rattle.clause_store.proofs.watched.Watcher.visit_short.Goals as goal

pub loop-place-init : goal.loop-place-init
loop-place-init c = meets-start c.args.self.now c.requires.watcher c.args.falsified c.requires.falsified

pub returns-in-Some-clause-same : goal.returns-in-Some-clause-same
returns-in-Some-clause-same c = propagates-trans (store_of c.args.self.now) (store_of c.loop-place.self)
    (store_of c.meet.new.self) c.loop-place.invariant.same c.meet.ensures.same

pub loop-place-preserved : goal.loop-place-preserved
loop-place-preserved c =
    let e : Watcher = c.loop-place.self in
    let os : List Occurrence = c.of.result.now in
    let h = c.loop-place.invariant in
    let list : slice_get e.short.lists (code_of c.args.falsified) ≡ Some c.of-count.result.now =
    ap (λ (s : ShortState). slice_get s.lists (code_of c.args.falsified)) h.keeps.short ∙ c.of-count.ensures in
    let same : os ≡ c.of-count.result.now = same_Some os c.of-count.result.now (sym c.of.ensures ∙ list) in
    let at : slice_get os c.loop-place.place ≡ Some c.index-of-place.result = slice_get_read os
    (length c.of-count.result.now) c.loop-place.place c.index-of-place.result (sym (ap length same))
    c.loop-place-test.true c.index-of-place.is in
    meets-step c.args.self.now e c.meet.new.self c.args.falsified c.loop-place.place os c.index-of-place.result h
    c.of.ensures at c.meet.ensures.watcher c.meet.ensures.same c.meet.ensures.keeps c.in_default.ensures.visit

pub returns-clause-visits : goal.returns-clause-visits
returns-clause-visits c =
    let e : Watcher = c.loop-place.self in
    let h = c.loop-place.invariant in
    let list : slice_get e.short.lists (code_of c.args.falsified) ≡ Some c.of-count.result.now =
    ap (λ (s : ShortState). slice_get s.lists (code_of c.args.falsified)) h.keeps.short ∙ c.of-count.ensures in
    meets-end c.args.self.now e c.args.falsified c.loop-place.place c.of-count.result.now h list c.loop-place-test.false

pub returns-then-packed-eq0-clause-same : goal.returns-then-packed-eq0-clause-same
returns-then-packed-eq0-clause-same c = grind (arith, elements)
