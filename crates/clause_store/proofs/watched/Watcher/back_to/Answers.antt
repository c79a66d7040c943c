use Rattle.std.proofs.Common.{◌≡◌, ◌≤◌, length, ap, ◌∙◌, arith, min, nat_lt}
use Rattle.std.proofs.lemmas.List.{length-map}
use Rattle.std.proofs.lemmas.Bool.{ltb-false}
use Rattle.clause_base.specs.declared.trail.Step.{Step}
use Rattle.clause_store.proofs.ChangeFacts.{watcher-reset, watcher-cut}
use Rattle.clause_store.proofs.watched.Watcher.back_to.Goals as goal

pub returns-then-self-clause-watcher : goal.returns-then-self-clause-watcher
returns-then-self-clause-watcher c =
    watcher-reset c.args.self.now c.args.level c.clear.new.self c.back_to.new.self (nat_lt 0 c.args.level)
    c.requires.watcher c.back_to.ensures.cut c.back_to.ensures.laws
    c.clear.ensures.laws c.clear.ensures.labels c.clear.ensures.count c.clear.ensures.empty
    (λ e. let a : c.args.level ≤ 0 = ltb-false 0 c.args.level e in omega arith)

pub returns-else-self-clause-watcher : goal.returns-else-self-clause-watcher
returns-else-self-clause-watcher c =
    let t = c.back_to.new.self in
    let len : length c.lits-len.result.now ≡ length t.steps = ap length c.lits-len.ensures
    ∙ length-map t.steps (λ (u : Step). u.lit) in
    let is : c.min-self.result ≡ min c.args.self.now.queue (length t.steps) = c.min-self.ensures
    ∙ ap (min c.args.self.now.queue) len in
    watcher-cut c.args.self.now c.args.level t c.requires.watcher c.if-self.false c.requires.level c.back_to.ensures.cut
    c.back_to.ensures.laws c.min-self.result is
