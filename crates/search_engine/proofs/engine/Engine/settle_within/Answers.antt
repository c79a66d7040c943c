use Rattle.search_engine.proofs.TurnFacts.{turn-reset}
use Rattle.search_engine.proofs.engine.Engine.settle_within.Goals as goal

pub returns-in_err-settle-clause-turn : goal.returns-in_err-settle-clause-turn
returns-in_err-settle-clause-turn c = λ assume t. turn-reset assume c.settle.new.self
    (c.settle.ensures.decisions assume t.decisions) c.settle.ensures.assumed

pub returns-then-branch-clause-turn : goal.returns-then-branch-clause-turn
returns-then-branch-clause-turn c = λ assume t. turn-reset assume c.settle.new.self
    (c.settle.ensures.decisions assume t.decisions) c.settle.ensures.assumed

pub returns-else-branch-clause-turn : goal.returns-else-branch-clause-turn
returns-else-branch-clause-turn c = λ assume t. turn-reset assume c.settle.new.self
    (c.settle.ensures.decisions assume t.decisions) c.settle.ensures.assumed
