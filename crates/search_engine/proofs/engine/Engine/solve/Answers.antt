use Rattle.std.proofs.Common.{◌-◌, ◌^◌, ◌<◌, ◌≤◌, true, length, List, Option, refl, sym, ap, ◌∙◌, subst, arith, All}
use Rattle.lit_core.specs.declared.literals.Lit.{Lit}
use Rattle.clause_store.specs.TrailState.{TrailState}
use Rattle.search_engine.specs.declared.engine.Engine.{Engine}
use Rattle.search_engine.specs.Resting.{IsBegun}
use Rattle.search_engine.specs.Searching.{IsSearch}
use Rattle.search_engine.proofs.TrailChange.{cut-orderly}
use Rattle.search_engine.proofs.SearchFacts.{Moves, search-moves}
use Rattle.search_engine.proofs.DecideFacts.{with_store}
use Rattle.search_engine.proofs.Beginning.{ahead-begun, few-conflicts, search-begun}
use Rattle.search_engine.proofs.GivenBack.{search-given}
use Rattle.search_engine.proofs.GrowFacts.{pow-le}
use Rattle.search_engine.proofs.engine.Engine.solve.Goals as goal

pub search-verdict-requires-clause-search : goal.search-verdict-requires-clause-search
search-verdict-requires-clause-search g c =
    let e : Engine = c.begin-2.new.self in
    let b : IsBegun e true = subst (IsBegun e) c.in-Ok-true.field-0-test c.in-Ok-true.ensures.begun in
    search-begun e c.begin-2.ensures.resting b.1 c.begin-2.ensures.same.same.conflicts c.clear.new.self
    c.clear.ensures.items b.2
    (omega (arith, ap length c.begin-2.ensures.same.same.learnt, c.begin-2.ensures.same.known, c.len-self.ensures))

pub search-verdict-requires-clause-ahead : goal.search-verdict-requires-clause-ahead
search-verdict-requires-clause-ahead g c =
    let e : Engine = c.begin-2.new.self in
    let b : IsBegun e true = subst (IsBegun e) c.in-Ok-true.field-0-test c.in-Ok-true.ensures.begun in
    ahead-begun e c.begin-2.ensures.resting b.1 c.begin-2.ensures.same.same.conflicts

pub give_back-requires-clause-within : goal.give_back-requires-clause-within
give_back-requires-clause-within g c =
    let s : Engine = c.search-verdict.new.self in
    subst (λ (cl : List (Option (List Lit))). All (λ id. id < length cl) s.passing.items) (sym c.back_to.ensures.clauses)
    c.search-verdict.ensures.search.passing.within

pub returns-in-Ok-true-clause-resting : goal.returns-in-Ok-true-clause-resting
returns-in-Ok-true-clause-resting g c =
    let e : Engine = c.begin-2.new.self in
    let b : IsBegun e true = subst (IsBegun e) c.in-Ok-true.field-0-test c.in-Ok-true.ensures.begun in
    let s : Engine = c.search-verdict.new.self in
    let moves : Moves s (with_store s c.back_to.new.self) = record {
      problem = refl;
      learnt = refl;
      ids = refl;
      passing = refl;
      moments = refl;
      known = refl;
      searches = refl;
      closed = refl;
      base = refl;
      clauses = c.back_to.ensures.clauses;
      size = c.back_to.ensures.trail.size;
    } in
    let back : IsSearch (with_store s c.back_to.new.self) = search-moves s (with_store s c.back_to.new.self) moves
    c.back_to.ensures.laws (cut-orderly 0 s.store.trail c.back_to.new.self.trail c.back_to.ensures.trail s.problem.vars
    c.search-verdict.ensures.search.orderly) (omega arith) c.search-verdict.ensures.search.fewer
    c.search-verdict.ensures.search.once c.search-verdict.ensures.search in
    let given = search-given (with_store s c.back_to.new.self) c.give_back.new.store c.give_back.new.passing back
    c.give_back.ensures.given c.give_back.ensures.trail c.give_back.ensures.laws in
    let few : s.conflicts < 2 ^ (e.problem.vars - length e.problem.retired) =
    few-conflicts e s c.begin-2.ensures.resting b.1 b.3 c.search-verdict.ensures.same.problem
    c.search-verdict.ensures.same.base c.search-verdict.ensures.search.fewer in
    let up : 2 ^ (e.problem.vars - length e.problem.retired) ≤ 2 ^ e.problem.vars =
    pow-le (e.problem.vars - length e.problem.retired) e.problem.vars (omega arith) in
    let fewer : s.conflicts < 2 ^ e.problem.vars = omega (arith, few, up) in
    record {
      engine = given.engine;
      level = ap (λ (t : TrailState). t.level) c.give_back.ensures.trail ∙ c.back_to.ensures.trail.level_is;
      orderly = given.orderly;
      fewer = rw c.search-verdict.ensures.same.problem fewer;
      once = c.search-verdict.ensures.search.once;
    }

pub returns-in-Ok-true-clause-fewer : goal.returns-in-Ok-true-clause-fewer
returns-in-Ok-true-clause-fewer g c =
    let e : Engine = c.begin-2.new.self in
    let b : IsBegun e true = subst (IsBegun e) c.in-Ok-true.field-0-test c.in-Ok-true.ensures.begun in
    let s : Engine = c.search-verdict.new.self in
    rw (← c.begin-2.ensures.same.problem) (few-conflicts e s c.begin-2.ensures.resting b.1 b.3
    c.search-verdict.ensures.same.problem c.search-verdict.ensures.same.base c.search-verdict.ensures.search.fewer)
