use Rattle.std.proofs.Common.{subst, Bool, List, Option}
use Rattle.clause_base.specs.declared.occurrences.Rest.TheVariants.{Open, Unit as OnlyOne, False as NoneTrue}
use Rattle.clause_base.specs.ShortState.{RestIs}
use Rattle.clause_base.proofs.PropagateFacts.{propagates-refl}
use Rattle.clause_store.specs.Watching.{store_of}
use Rattle.clause_store.proofs.MeetFacts.{id-within, other-within, meet-last, meet-open, meet-same, meet-unit}
use Rattle.clause_store.proofs.MeetFacts.{meet-watcher}
use Rattle.clause_store.proofs.watched.Watcher.meet.Goals as goal

pub look-requires : goal.look-requires
look-requires c = rw c.assignment.ensures.value (other-within c.args.self.now c.requires.watcher c.args.falsified
    c.args.occurrence c.requires.occurs)

pub held_id-requires : goal.held_id-requires
held_id-requires c = id-within c.args.self.now c.requires.watcher c.args.falsified c.args.occurrence c.requires.occurs

pub held_id-requires-in-False : goal.held_id-requires-in-False
held_id-requires-in-False c = id-within c.args.self.now c.requires.watcher c.args.falsified c.args.occurrence
    c.requires.occurs

pub assign-requires-clause-in_range : goal.assign-requires-clause-in_range
assign-requires-clause-in_range c = other-within c.args.self.now c.requires.watcher c.args.falsified
    c.args.occurrence c.requires.occurs c.in-Unit.lit c.in-Unit.ensures.0

pub returns-in-Open-clause-same : goal.returns-in-Open-clause-same
returns-in-Open-clause-same c = propagates-refl (store_of c.args.self.now)

pub returns-in-Open-clause-visit : goal.returns-in-Open-clause-visit
returns-in-Open-clause-visit c = meet-open c.args.self.now c.requires.watcher c.args.falsified c.args.occurrence
    c.requires.occurs c.requires.falsified
    (subst (λ (values : List (Option Bool)). RestIs values c.args.occurrence Open) c.assignment.ensures.value
    c.in-Open.ensures)

module _ (c : goal.After-assign) where
  unit : RestIs c.args.self.now.trail.values c.args.occurrence (OnlyOne c.in-Unit.lit)
  unit = subst (λ (values : List (Option Bool)). RestIs values c.args.occurrence (OnlyOne c.in-Unit.lit))
      c.assignment.ensures.value c.in-Unit.ensures

pub returns-in-Some-clause-watcher : goal.returns-in-Some-clause-watcher
returns-in-Some-clause-watcher c = rw (c.assign.ensures.step, c.in-Some.ensures.0) (meet-watcher c.args.self.now
    c.requires.watcher c.args.falsified c.args.occurrence c.requires.occurs c.requires.falsified c.in-Unit.lit (unit c)
    c.in-Some.ensures.1.0 c.in-Some.ensures.1.1)

pub returns-in-Some-clause-same : goal.returns-in-Some-clause-same
returns-in-Some-clause-same c = rw (c.assign.ensures.step, c.in-Some.ensures.0) (meet-same c.args.self.now
    c.requires.watcher c.args.falsified c.args.occurrence c.requires.occurs c.requires.falsified c.in-Unit.lit (unit c)
    c.in-Some.ensures.1.0 c.in-Some.ensures.1.1)

pub returns-in-Some-clause-visit : goal.returns-in-Some-clause-visit
returns-in-Some-clause-visit c = rw (c.assign.ensures.step, c.in-Some.ensures.0) (meet-unit c.args.self.now
    c.requires.watcher c.args.falsified c.args.occurrence c.requires.occurs c.requires.falsified c.in-Unit.lit (unit c)
    c.in-Some.ensures.1.0 c.in-Some.ensures.1.1)

pub returns-in_default-clause-same : goal.returns-in_default-clause-same
returns-in_default-clause-same c = propagates-refl (store_of c.args.self.now)

pub returns-in-False-clause-same : goal.returns-in-False-clause-same
returns-in-False-clause-same c = propagates-refl (store_of c.args.self.now)

pub returns-in-False-clause-visit : goal.returns-in-False-clause-visit
returns-in-False-clause-visit c = meet-last c.args.self.now c.requires.watcher c.args.falsified c.args.occurrence
    c.requires.occurs c.requires.falsified
    (subst (λ (values : List (Option Bool)). RestIs values c.args.occurrence NoneTrue) c.assignment.ensures.value
    c.in-False.ensures) c.held_id-in-False.result c.held_id-in-False.ensures
