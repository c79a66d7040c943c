use Rattle.search_engine.proofs.Beginning.{resting-propagated}
use Rattle.search_engine.proofs.engine.Engine.watch.Goals as goal

pub returns-clause-resting : goal.returns-clause-resting
returns-clause-resting c = resting-propagated c.args.self.now c.propagate.new.self c.requires
    c.propagate.ensures.same c.propagate.ensures.laws
