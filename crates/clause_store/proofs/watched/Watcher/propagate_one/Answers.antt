use Rattle.std.proofs.Common.{arith}
use Rattle.std.proofs.lemmas.Grind.{common_steps}
use Rattle.std.proofs.Common.{◌≡◌, ℕ, ◌<◌, ◌++◌, ◌∷◌, List, Option, Some, None, false, sym, ap, ◌∙◌, subst}
use Rattle.lit_core.specs.declared.literals.Lit.{Lit}
use Rattle.clause_store.specs.declared.watched.Watcher.{Watcher}
use Rattle.clause_base.specs.Links.{first_of}
use Rattle.clause_base.specs.ListsState.{nodes_of}
use Rattle.clause_store.specs.Watching.{code_of, store_of}
use Rattle.clause_store.proofs.NodeFacts.{code-fits, code-within}
use Rattle.clause_base.proofs.PropagateFacts.{propagates-trans}
use Rattle.clause_store.proofs.WalkFacts.{Walks, left, walk-start, walk-step, walk-smaller, walk-watcher, next-of}
use Rattle.clause_store.proofs.WalkFacts.{next-in-range}
use Rattle.clause_store.proofs.WatchFacts.{next-grown}
use Rattle.clause_store.proofs.watched.Watcher.propagate_one.Goals as goal

abbrev some_literal : Lit
some_literal = record { var = record { 0 = 0 }; positive = false }

pub list_of-requires : goal.list_of-requires
list_of-requires c =
    let e : Watcher = c.args.self.now in
    let next = next-of e some_literal c.lits.result.now c.negated-falsified.result c.requires.more c.lits.ensures
    c.negated-falsified.ensures in
    code-fits e c.requires.watcher c.negated-falsified.result (next-in-range e c.requires.watcher
    c.negated-falsified.result next)

pub first-at-requires : goal.first-at-requires
first-at-requires c =
    let e : Watcher = c.args.self.now in
    let next = next-of e some_literal c.lits.result.now c.negated-falsified.result c.requires.more c.lits.ensures
    c.negated-falsified.ensures in
    rw (c.list_of.ensures, c.visit_short.ensures.keeps.lists) (code-within e c.requires.watcher
    c.negated-falsified.result (next-in-range e c.requires.watcher c.negated-falsified.result next))

pub loop-at-init : goal.loop-at-init
loop-at-init c =
    let old : Watcher = c.args.self.now in
    let e : Watcher = c.visit_short.new.self in
    let f = c.negated-falsified.result in
    let v = c.visit_short.ensures in
    let next = next-of old some_literal c.lits.result.now f c.requires.more c.lits.ensures
    c.negated-falsified.ensures in
    walk-start old e v.watcher v.same v.keeps.queue v.keeps.checked f
    (next-grown old e f c.requires.watcher next v.same v.keeps.queue) c.in_default.ensures.visits c.first-at.result
    (c.first-at.ensures ∙ ap (λ j. first_of (nodes_of e.lists j)) c.list_of.ensures)

pub visit_short-requires-clause-falsified : goal.visit_short-requires-clause-falsified
visit_short-requires-clause-falsified c = next-of c.args.self.now some_literal c.lits.result.now
    c.negated-falsified.result c.requires.more c.lits.ensures c.negated-falsified.ensures

pub returns-in-Conflict-clause-same : goal.returns-in-Conflict-clause-same
returns-in-Conflict-clause-same c = propagates-trans (store_of c.args.self.now) (store_of c.loop-at.self)
    (store_of c.visit.new.self) c.loop-at.invariant.same c.visit.ensures.same

pub loop-at-smaller : goal.loop-at-smaller
loop-at-smaller c =
    let old : Watcher = c.args.self.now in
    let e : Watcher = c.loop-at.self in
    let new : Watcher = c.visit.new.self in
    let f = c.negated-falsified.result in
    let n = c.in-Some-at.node in
    let w : Walks old e f (Some n) c.loop-at.before = subst (λ (o : Option ℕ). Walks old e f o c.loop-at.before)
    c.in-Some-at.is c.loop-at.invariant in
    let after : (front back : List ℕ) → nodes_of e.lists (code_of f) ≡ front ++ n ∷ back
    → c.after-at.result ≡ first_of back = λ front back is. c.after-at.ensures (code_of f) front back is in
    let less = walk-smaller old e new f n c.after-at.result c.loop-at.before c.in-Done.last w after
    c.visit.ensures.watcher c.visit.ensures.same c.visit.ensures.keeps c.in-Done.ensures.visit in
    subst (λ (o : Option ℕ). left (nodes_of new.lists (code_of f)) c.after-at.result
    < left (nodes_of e.lists (code_of f)) o) (sym c.in-Some-at.is) less

pub loop-at-preserved : goal.loop-at-preserved
loop-at-preserved c =
    let old : Watcher = c.args.self.now in
    let e : Watcher = c.loop-at.self in
    let new : Watcher = c.visit.new.self in
    let f = c.negated-falsified.result in
    let n = c.in-Some-at.node in
    let w : Walks old e f (Some n) c.loop-at.before = subst (λ (o : Option ℕ). Walks old e f o c.loop-at.before)
    c.in-Some-at.is c.loop-at.invariant in
    let after : (front back : List ℕ) → nodes_of e.lists (code_of f) ≡ front ++ n ∷ back
    → c.after-at.result ≡ first_of back = λ front back is. c.after-at.ensures (code_of f) front back is in
    walk-step old e new f n c.after-at.result c.loop-at.before c.in-Done.last w after c.visit.ensures.watcher
    c.visit.ensures.same c.visit.ensures.keeps c.in-Done.ensures.visit

pub returns-clause-watcher : goal.returns-clause-watcher
returns-clause-watcher c =
    let f = c.negated-falsified.result in
    let w : Walks c.args.self.now c.loop-at.self f None c.loop-at.before =
    subst (λ (o : Option ℕ). Walks c.args.self.now c.loop-at.self f o c.loop-at.before) c.in_default-at.is
    c.loop-at.invariant in
    walk-watcher c.args.self.now c.loop-at.self f c.loop-at.before w

pub offset_bounds-lits-self : goal.offset_bounds-lits-self
offset_bounds-lits-self c = grind (arith, common_steps)

pub bounds-lits-self : goal.bounds-lits-self
bounds-lits-self c = grind (arith, common_steps)

pub overflow_add-self : goal.overflow_add-self
overflow_add-self c = grind (arith, common_steps)
