use Rattle.std.proofs.Common.{List, refl}
use Rattle.std.proofs.lemmas.Result.{IfOk-weaker}
use Rattle.lit_core.specs.declared.literals.Lit.{Lit}
use Rattle.search_engine.specs.declared.engine.Engine.{Engine}
use Rattle.search_engine.specs.declared.searching.Outcome.{Outcome}
use Rattle.search_engine.specs.Searching.{TurnEnds}
use Rattle.search_engine.proofs.LogFacts.{search-logged, turn-logged, with_log}
use Rattle.search_engine.proofs.TurnFacts.{settled-from}
use Rattle.search_engine.proofs.engine.Engine.follow_by.Goals as goal

pub follow-requires-clause-search : goal.follow-requires-clause-search
follow-requires-clause-search c = search-logged c.args.self.now c.implied.new.self c.requires.search

pub returns-clause-turn : goal.returns-clause-turn
returns-clause-turn c = λ assume t. c.follow.ensures.turn assume
    (turn-logged c.args.self.now c.implied.new.self assume t)

pub returns-clause-answer : goal.returns-clause-answer
returns-clause-answer c =
    let e : Engine = c.args.self.now in
    let m : Engine = with_log e c.implied.new.self in
    let f : Engine = c.follow.new.self in
    let most = c.args.most in
    IfOk-weaker c.follow.result (λ (x : Outcome). (assume : List Lit) → TurnEnds assume most m f x)
    (λ (x : Outcome). (assume : List Lit) → TurnEnds assume most e f x)
    (λ x h assume. settled-from assume most e m f x refl (λ goal-of a. a) (h assume)) c.follow.ensures.answer
