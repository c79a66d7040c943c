use Rattle.std.proofs.Common.{◌≡◌, ◌∙◌, refl, ap}
use Rattle.std.proofs.lemmas.Bool.{OnFalse_at, OnFalse_from, OnTrue_at}
use Rattle.std.proofs.lemmas.Result.{err_from_is_err_and}
use Rattle.consult_base.specs.Opened.{base_of}
use Rattle.consultation.proofs.Accepting.{keeps-none, keeps-more, breaks-later, fresh-up-to, up-to}
use Rattle.consultation.proofs.Accepting.{accepted-whole, accepted-early}
use Rattle.consultation.proofs.Ending.{began, goes_on, ends_done, ends_early, takes_some}
use Rattle.consultation.proofs.consultant.Consultant.answer_all.Goals as goal

pub returns-in_err-answer_next-clause-ends : goal.returns-in_err-answer_next-clause-ends
returns-in_err-answer_next-clause-ends g c =
    let p = err_from_is_err_and c.from_residual.result c.from_residual.ensures.1 in
    rw (p.1, p.2) (ends_early c.in_err-answer_next.field-0.0 _ _ _ _ _ _ _ _ _ _ _ _ _
    c.loop.invariant.logs (ap base_of c.loop.invariant.kb) c.loop.invariant.so_far c.in_err-answer_next.ensures.turn)

pub returns-in_err-answer_next-clause-accepted : goal.returns-in_err-answer_next-clause-accepted
returns-in_err-answer_next-clause-accepted g c =
    let p = err_from_is_err_and c.from_residual.result c.from_residual.ensures.1 in
    rw (p.1, p.2, c.requires.checks)
    (accepted-early (base_of c.args.self.now.kb) c.in_err-answer_next.field-0.0 _ _ _ c.requires.fresh
    (breaks-later _ _ _ _ _ _ _ c.loop.invariant.steps c.in_err-answer_next.ensures.breaks))

pub loop-smaller : goal.loop-smaller
loop-smaller g c =
    let turn = rw c.if-branch.true at c.in_ok-answer_next.ensures.turn in
    takes_some turn.1.0 c.loop.self.lines c.answer_next.new.self.lines _ _ c.loop.invariant.so_far.within turn.1.1

pub returns-clause-ends : goal.returns-clause-ends
returns-clause-ends g c =
    let turn = rw c.if-branch.false at c.in_ok-answer_next.ensures.turn in
    ends_done _ _ _ _ _ _ c.answer_next.new.self.state _ _ _ _ _ _
    c.loop.invariant.logs (ap base_of c.loop.invariant.kb) c.loop.invariant.so_far turn

pub returns-clause-accepted : goal.returns-clause-accepted
returns-clause-accepted g c =
    rw (c.requires.checks) (accepted-whole (base_of c.args.self.now.kb) _ _ _ _ _ c.requires.fresh
    (keeps-more _ _ _ _ _ _ _ _ c.loop.invariant.steps c.in_ok-answer_next.ensures.steps))

pub loop-init : goal.loop-init
loop-init g c = record {
  kb = refl;
  logs = refl;
  none = OnFalse_from c.args.self.now.logs (c.args.log.now ≡ c.args.log.now) (λ e. refl);
  so_far = began c.args.self.now _ c.requires;
  over = fresh-up-to (base_of c.args.self.now.kb) c.args.self.now.number c.args.self.now.checker c.requires.fresh;
  steps = keeps-none (base_of c.args.self.now.kb) c.args.self.now.number c.args.self.now.checker _
      (fresh-up-to (base_of c.args.self.now.kb) c.args.self.now.number c.args.self.now.checker c.requires.fresh);
}

pub loop-preserved : goal.loop-preserved
loop-preserved g c =
    let ensures = c.in_ok-answer_next.ensures in
    let before = c.loop.invariant in
    let turn = rw c.if-branch.true at ensures.turn in
    record {
      kb = ensures.kb ∙ before.kb;
      logs = ensures.logs ∙ before.logs;
      none = OnFalse_from c.args.self.now.logs (c.answer_next.new.log ≡ c.args.log.now)
          (λ e. OnFalse_at (before.logs ∙ e) ensures.none ∙ OnFalse_at e before.none);
      so_far = goes_on _ _ _ _ _ _ _ _ _ _ _ _ _ _ before.logs (ap base_of before.kb)
          (OnTrue_at c.if-branch.true ensures.number) before.so_far turn;
      over = up-to (base_of c.args.self.now.kb) c.loop.self.number c.answer_next.new.self.number c.loop.self.checker
          c.answer_next.new.self.checker _ _ before.over ensures.steps;
      steps = keeps-more _ _ _ _ _ _ _ _ before.steps ensures.steps;
    }
