use Rattle.std.proofs.Common.{◌≡◌, Some, sym, ◌∙◌, subst, inr}
use Rattle.search_engine.specs.declared.engine.Engine.{Engine}
use Rattle.search_engine.specs.Searching.{Extends, IsFirstAssigned, IsLesson, LessonGives}
use Rattle.search_engine.proofs.DecideFacts.{with_store, same-but}
use Rattle.search_engine.proofs.TrailChange.{extends-assumed, extends-propagates, extends-trans}
use Rattle.search_engine.proofs.TurnFacts.{lesson-follows, prop-lesson, prop-search, prop-stands}
use Rattle.search_engine.proofs.engine.Engine.handle_conflict.Goals as goal

pub returns-in-Some-propagate-clause-search : goal.returns-in-Some-propagate-clause-search
returns-in-Some-propagate-clause-search c = let m : Engine = c.learn_from.new.self in
    prop-search m (with_store m c.propagate.new.self) (same-but m c.propagate.new.self) c.learn_from.ensures.search
    c.propagate.ensures.same c.propagate.ensures.laws

pub returns-in-Some-propagate-clause-decisions : goal.returns-in-Some-propagate-clause-decisions
returns-in-Some-propagate-clause-decisions c assume h = let m : Engine = c.learn_from.new.self in
    extends-assumed m.store.trail.steps c.propagate.new.self.trail.steps
    (extends-propagates m.store c.propagate.new.self c.propagate.ensures.same) assume
    (c.learn_from.ensures.decisions assume h)

pub returns-in-Some-propagate-clause-turn : goal.returns-in-Some-propagate-clause-turn
returns-in-Some-propagate-clause-turn c =
    let m : Engine = c.learn_from.new.self in
    let lesson : LessonGives c.args.self.now m (Some c.in-Some.analysis.clause.items) =
    rw c.in-Some.is at c.in_ok-analysis.ensures.lesson in
    let level : c.propagate.new.self.trail.level ≡ m.store.trail.level = c.propagate.ensures.same.level in (
      lesson.0,
      c.in-Some-propagate.ensures.conflict,
      rw level lesson.3,
      λ goal-of s. prop-stands m (with_store m c.propagate.new.self) (same-but m c.propagate.new.self)
          c.learn_from.ensures.search c.propagate.ensures.same c.propagate.ensures.laws goal-of
          (inr (lesson.4 goal-of s)),
      c.learn_from.ensures.learnt,
    )

pub learn_if_open-requires-clause-search : goal.learn_if_open-requires-clause-search
learn_if_open-requires-clause-search c = let m : Engine = c.learn_from.new.self in
    prop-search m (with_store m c.propagate.new.self) (same-but m c.propagate.new.self) c.learn_from.ensures.search
    c.propagate.ensures.same c.propagate.ensures.laws

pub learn_if_open-requires-clause-lesson : goal.learn_if_open-requires-clause-lesson
learn_if_open-requires-clause-lesson c =
    let m : Engine = c.learn_from.new.self in
    let lesson : LessonGives c.args.self.now m (Some c.in-Some.analysis.clause.items) =
    rw c.in-Some.is at c.in_ok-analysis.ensures.lesson in
    let here : IsLesson (with_store m c.propagate.new.self) c.in-Some.analysis.clause.items =
    prop-lesson m (with_store m c.propagate.new.self) (same-but m c.propagate.new.self) c.learn_from.ensures.search
    c.propagate.ensures.same c.propagate.ensures.laws c.in-Some.analysis.clause.items lesson.1 in
    subst (IsLesson (with_store m c.propagate.new.self)) (sym c.deref.ensures.value) here

pub returns-in_err-learn_if_open-in-None-clause-decisions : goal.returns-in_err-learn_if_open-in-None-clause-decisions
returns-in_err-learn_if_open-in-None-clause-decisions c assume h =
    let m : Engine = c.learn_from.new.self in
    let grown : Extends m.store.trail.steps c.propagate.new.self.trail.steps =
    extends-propagates m.store c.propagate.new.self c.propagate.ensures.same in
    extends-assumed m.store.trail.steps c.learn_if_open.new.self.store.trail.steps
    (extends-trans m.store.trail.steps c.propagate.new.self.trail.steps c.learn_if_open.new.self.store.trail.steps
    grown c.learn_if_open.ensures.steps) assume (c.learn_from.ensures.decisions assume h)

pub returns-clause-decisions : goal.returns-clause-decisions
returns-clause-decisions c assume h =
    let m : Engine = c.learn_from.new.self in
    let grown : Extends m.store.trail.steps c.propagate.new.self.trail.steps =
    extends-propagates m.store c.propagate.new.self c.propagate.ensures.same in
    extends-assumed m.store.trail.steps c.learn_if_open.new.self.store.trail.steps
    (extends-trans m.store.trail.steps c.propagate.new.self.trail.steps c.learn_if_open.new.self.store.trail.steps
    grown c.learn_if_open.ensures.steps) assume (c.learn_from.ensures.decisions assume h)

pub returns-clause-turn : goal.returns-clause-turn
returns-clause-turn c =
    let m : Engine = c.learn_from.new.self in
    let f : Engine = c.learn_if_open.new.self in
    let lesson : LessonGives c.args.self.now m (Some c.in-Some.analysis.clause.items) =
    rw c.in-Some.is at c.in_ok-analysis.ensures.lesson in
    let grown : Extends m.store.trail.steps c.propagate.new.self.trail.steps =
    extends-propagates m.store c.propagate.new.self c.propagate.ensures.same in
    let all : Extends m.store.trail.steps f.store.trail.steps =
    extends-trans m.store.trail.steps c.propagate.new.self.trail.steps f.store.trail.steps grown
    c.learn_if_open.ensures.steps in
    let assigned : IsFirstAssigned f.store.trail.values c.in-Some.analysis.clause.items =
    subst (IsFirstAssigned f.store.trail.values) c.deref.ensures.value
    c.in_ok-learn_if_open-in-None.ensures.first in (
      c.learn_if_open.ensures.counts.root_conflicts ∙ lesson.0,
      λ goal-of s. lesson-follows m f c.learn_from.ensures.search c.learn_if_open.ensures.search
          c.learn_if_open.ensures.same.problem c.learn_if_open.ensures.counts.conflicts
          c.learn_if_open.ensures.same.base
          all c.in-Some.analysis.clause.items lesson.2 assigned goal-of (lesson.4 goal-of s),
    )
