use Rattle.std.proofs.Common.{◌≡◌, length, refl, ap, ◌∙◌, arith}
use Rattle.std.proofs.lemmas.List.{length-map}
use Rattle.clause_store.specs.declared.trails.Step.{Step}
use Rattle.search_engine.specs.declared.engine.Engine.{Engine}
use Rattle.search_engine.proofs.DecideFacts.{with_store}
use Rattle.search_engine.proofs.GrowFacts.{resting-same, same-itself}
use Rattle.search_engine.proofs.Beginning.{resting-propagated, rest-refuted, retired-follow}
use Rattle.search_engine.proofs.engine.Engine.begin.Goals as goal

pub returns-in-None-clause-resting : goal.returns-in-None-clause-resting
returns-in-None-clause-resting c =
    let h = resting-propagated c.close_retired.new.self c.propagate-conflict.new.self c.close_retired.ensures.resting
    c.propagate-conflict.ensures.same c.propagate-conflict.ensures.laws in
    let mid : Engine = with_store c.close_retired.new.self c.propagate-conflict.new.self in
    resting-same mid _ h (record { same = same-itself mid _ refl refl refl refl refl; ids = refl; closed = refl }) refl
    refl refl c.propagate-conflict.ensures.laws

pub returns-in-None-clause-begun : goal.returns-in-None-clause-begun
returns-in-None-clause-begun c =
    let rest : Engine = c.close_retired.new.self in
    let h = resting-propagated rest c.propagate-conflict.new.self c.close_retired.ensures.resting
    c.propagate-conflict.ensures.same c.propagate-conflict.ensures.laws in
    let all = c.in_ok-close_retired.ensures.closed in
    let few = retired-follow (with_store rest c.propagate-conflict.new.self) h c.in-None.ensures.quiet all
    c.vars-vars.ensures.retired in
    let long : length c.trail.result.now ≡ length c.propagate-conflict.new.self.trail.steps =
    ap length c.trail.ensures.value ∙ length-map c.propagate-conflict.new.self.trail.steps (λ (t : Step). t.lit) in
    (c.in-None.ensures.quiet, long, all, omega (arith, few, long))

pub note_refuted-requires-clause-conflict : goal.note_refuted-requires-clause-conflict
note_refuted-requires-clause-conflict c = c.in-Some.ensures.conflict

pub note_refuted-requires-clause-level : goal.note_refuted-requires-clause-level
note_refuted-requires-clause-level c = c.propagate-conflict.ensures.same.level ∙ c.close_retired.ensures.resting.level

pub returns-in_err-note_refuted-in-Some-clause-resting : goal.returns-in_err-note_refuted-in-Some-clause-resting
returns-in_err-note_refuted-in-Some-clause-resting c =
    let h = resting-propagated c.close_retired.new.self c.propagate-conflict.new.self c.close_retired.ensures.resting
    c.propagate-conflict.ensures.same c.propagate-conflict.ensures.laws in
    let mid : Engine = with_store c.close_retired.new.self c.propagate-conflict.new.self in
    resting-same mid _ h (record { same = same-itself mid _ refl refl refl refl refl; ids = refl; closed = refl }) refl
    refl refl c.propagate-conflict.ensures.laws

pub returns-in_ok-note_refuted-in-Some-clause-resting : goal.returns-in_ok-note_refuted-in-Some-clause-resting
returns-in_ok-note_refuted-in-Some-clause-resting c =
    let h = resting-propagated c.close_retired.new.self c.propagate-conflict.new.self c.close_retired.ensures.resting
    c.propagate-conflict.ensures.same c.propagate-conflict.ensures.laws in
    let mid : Engine = with_store c.close_retired.new.self c.propagate-conflict.new.self in
    resting-same mid _ h (record { same = same-itself mid _ refl refl refl refl refl; ids = refl; closed = refl }) refl
    refl refl c.propagate-conflict.ensures.laws

pub returns-in_ok-note_refuted-in-Some-clause-begun : goal.returns-in_ok-note_refuted-in-Some-clause-begun
returns-in_ok-note_refuted-in-Some-clause-begun c =
    let rest : Engine = c.close_retired.new.self in
    let h = resting-propagated rest c.propagate-conflict.new.self c.close_retired.ensures.resting
    c.propagate-conflict.ensures.same c.propagate-conflict.ensures.laws in
    rest-refuted (with_store rest c.propagate-conflict.new.self) c.in-Some.conflict h c.in-Some.ensures.conflict
