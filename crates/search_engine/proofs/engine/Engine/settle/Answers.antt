use Rattle.std.proofs.Common.{◌∙◌}
use Rattle.search_engine.specs.declared.engine.Turn.TheVariants.{Conflict}
use Rattle.search_engine.specs.Searching.{TurnGives}
use Rattle.search_engine.proofs.SearchFacts.{continues-trans}
use Rattle.search_engine.proofs.engine.Engine.settle.Goals as goal

pub returns-in_err-handle_conflict-clause-decisions : goal.returns-in_err-handle_conflict-clause-decisions
returns-in_err-handle_conflict-clause-decisions c assume h = c.handle_conflict.ensures.decisions assume
    (c.loop-next.invariant.decisions assume h)

pub returns-in-Refuted-clause-decisions : goal.returns-in-Refuted-clause-decisions
returns-in-Refuted-clause-decisions c assume h = c.handle_conflict.ensures.decisions assume
    (c.loop-next.invariant.decisions assume h)

pub loop-next-preserved : goal.loop-next-preserved
loop-next-preserved c =
    let turn : TurnGives c.loop-next.self c.handle_conflict.new.self (Conflict c.in-Conflict.next) =
    rw c.in-Conflict.is at c.in_ok-handle_conflict.ensures.turn in
    record {
      search = c.handle_conflict.ensures.search;
      same = continues-trans c.args.self.now c.loop-next.self c.handle_conflict.new.self c.loop-next.invariant.same
          c.handle_conflict.ensures.same;
      decisions = λ assume h. c.handle_conflict.ensures.decisions assume (c.loop-next.invariant.decisions assume h);
      conflict = turn.1;
      unrefuted = turn.0;
      learnt = turn.4 ∙ c.loop-next.invariant.learnt;
      stands = λ goal-of s. turn.3 goal-of (c.loop-next.invariant.stands goal-of s);
    }

pub returns-in-Follows-clause-decisions : goal.returns-in-Follows-clause-decisions
returns-in-Follows-clause-decisions c assume h = c.handle_conflict.ensures.decisions assume
    (c.loop-next.invariant.decisions assume h)
