use Rattle.std.proofs.Common.{refl, ⊎_elim}
use Rattle.lit_core.proofs.LiteralFacts.{decide_member}
use Rattle.search_engine.specs.declared.engine.Engine.{Engine}
use Rattle.search_engine.proofs.GrowFacts.{resting-same, resting-retired, same-itself}
use Rattle.ground_core.proofs.SelectorFacts.{few}
use Rattle.search_engine.proofs.engine.Engine.retire.Goals as goal

pub returns-clause-resting : goal.returns-clause-resting
returns-clause-resting c =
    let e : Engine = c.args.self.now in
    ⊎_elim
    (λ has. resting-same e _ c.requires.resting (record {
      same = same-itself e _ refl refl refl refl refl;
      ids = refl;
      closed = refl;
    }) (c.retire.ensures.already has) refl refl c.requires.resting.engine.store)
    (λ not. resting-retired e _ c.args.selector c.requires.resting
    (record { same = same-itself e _ refl refl refl refl refl; ids = refl; closed = refl })
    c.requires.selector.within refl (c.retire.ensures.retired not))
    (decide_member e.problem.retired c.args.selector)

pub returns-clause-few : goal.returns-clause-few
returns-clause-few c = let q = c.retire.new.self in few q.retired q.vars c.vars-vars.ensures.retired.once
    c.vars-vars.ensures.laws.retired
