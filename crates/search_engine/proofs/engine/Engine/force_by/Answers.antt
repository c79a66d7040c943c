use Rattle.std.proofs.Common.{◌≡◌, ◌∷◌, List, sym, ◌∙◌, subst}
use Rattle.lit_core.specs.declared.literals.Lit.{Lit}
use Rattle.lit_core.specs.Truth.{IsUnitAt}
use Rattle.search_engine.specs.declared.engine.Engine.{Engine}
use Rattle.search_engine.specs.Searching.{IsExplained}
use Rattle.search_engine.proofs.BoundingFacts.{first-left}
use Rattle.search_engine.proofs.LogFacts.{search-logged, turn-logged}
use Rattle.search_engine.proofs.engine.Engine.force_by.Goals as goal

pub force-requires-clause-search : goal.force-requires-clause-search
force-requires-clause-search c = search-logged c.args.self.now c.implied.new.self c.requires.search

pub force-requires-clause-explained : goal.force-requires-clause-explained
force-requires-clause-explained c =
    let e : Engine = c.args.self.now in
    let all : c.as_slice-lits.result.now ≡ c.args.lit ∷ c.args.reasons.now = c.as_slice-lits.ensures.value
    ∙ c.in_ok-clause.ensures in
    subst (λ (k : List Lit). IsExplained e.problem k) (sym all) c.requires.explained

pub force-requires-clause-unit : goal.force-requires-clause-unit
force-requires-clause-unit c =
    let e : Engine = c.args.self.now in
    let all : c.as_slice-lits.result.now ≡ c.args.lit ∷ c.args.reasons.now = c.as_slice-lits.ensures.value
    ∙ c.in_ok-clause.ensures in
    subst (λ (k : List Lit). IsUnitAt e.store.trail.values k c.args.lit) (sym all) (first-left e.store.trail.values
    c.args.lit c.args.reasons.now c.requires.unset c.requires.falsified)

pub returns-clause-turn : goal.returns-clause-turn
returns-clause-turn c = λ assume t. c.force.ensures.turn assume (turn-logged c.args.self.now c.implied.new.self assume t)
