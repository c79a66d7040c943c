use Rattle.search_engine.proofs.SearchFacts.{continues-trans}
use Rattle.search_engine.proofs.engine.Engine.step.Goals as goal

pub returns-in-Ok-Open-clause-same : goal.returns-in-Ok-Open-clause-same
returns-in-Ok-Open-clause-same g c = continues-trans c.args.self.now c.turn.new.self c.proceed.new.self
    c.turn.ensures.same c.proceed.ensures.same
