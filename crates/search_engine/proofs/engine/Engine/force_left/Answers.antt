use Rattle.std.proofs.Common.{◌<◌, Bool, Option, List, All, length, sym, subst}
use Rattle.lit_core.specs.declared.literals.Lit.{Lit}
use Rattle.lit_core.specs.Truth.{IsUnitAt}
use Rattle.search_engine.specs.declared.engine.Engine.{Engine}
use Rattle.search_engine.specs.Searching.{IsExplained}
use Rattle.search_engine.proofs.Explained.{explained-range}
use Rattle.search_engine.proofs.LogFacts.{search-logged, turn-logged}
use Rattle.search_engine.proofs.SumFacts.{at-place}
use Rattle.search_engine.proofs.engine.Engine.force_left.Goals as goal

pub left_of-requires : goal.left_of-requires
left_of-requires c =
    let e : Engine = c.args.self.now in
    let lits : List Lit = c.as_slice-lits.result.now in
    let why : IsExplained e.problem lits = subst (IsExplained e.problem) (sym c.as_slice-lits.ensures)
    (at-place (IsExplained e.problem) c.args.clauses.now c.args.place c.in_ok-clause.clause c.requires.explained
    c.in_ok-clause.ensures) in
    subst (λ (xs : List (Option Bool)). All (λ (l : Lit). l.var.0 < length xs) lits) (sym c.assignment.ensures.value)
    (explained-range e c.requires.search lits why)

pub force-requires-clause-search : goal.force-requires-clause-search
force-requires-clause-search c = search-logged c.args.self.now c.implied.new.self c.requires.search

pub force-requires-clause-explained : goal.force-requires-clause-explained
force-requires-clause-explained c =
    let e : Engine = c.args.self.now in
    subst (IsExplained e.problem) (sym c.as_slice-lits.ensures)
    (at-place (IsExplained e.problem) c.args.clauses.now c.args.place c.in_ok-clause.clause c.requires.explained
    c.in_ok-clause.ensures)

pub force-requires-clause-unit : goal.force-requires-clause-unit
force-requires-clause-unit c = subst (λ (xs : List (Option Bool)). IsUnitAt xs c.as_slice-lits.result.now c.in-Some.lit)
    c.assignment.ensures.value c.in-Some.ensures

pub returns-clause-turn : goal.returns-clause-turn
returns-clause-turn c = λ assume t. c.force.ensures.turn assume
    (turn-logged c.args.self.now c.implied.new.self assume t)
