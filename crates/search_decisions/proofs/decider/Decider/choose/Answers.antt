use Rattle.search_decisions.specs.declared.scores.Scores.{Scores}
use Rattle.search_decisions.proofs.ScoreFacts.{first-values}
use Rattle.search_decisions.proofs.decider.Decider.choose.Goals as goal

pub returns-then-is_empty : goal.returns-then-is_empty
returns-then-is_empty g c =
    let s : Scores = c.list.new.self.scores in
    record {
      found = first-values c.args.self.now.scores.scores.items c.args.assignment.now c.args.first c.args.end s
          c.in_ok-list.ensures.lists (c.is_empty.ensures.0 c.if-is_empty.true);
      phases = c.list.ensures.phases;
    }
