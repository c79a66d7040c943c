use Rattle.std.proofs.Common.{◌≡◌, Bool, Option, Some, List, IfSome, sym, subst}
use Rattle.lit_core.specs.Truth.{IsFalsified}
use Rattle.ground_core.specs.declared.parts.GroundTerm.{GroundTerm}
use Rattle.ground_core.specs.declared.parts.TermBound.{TermBound}
use Rattle.term_bounds.specs.declared.breaking.BrokenBound.{BrokenBound}
use Rattle.term_bounds.specs.Breaking.{IsBrokenAt, IsBrokenBy}
use Rattle.search_engine.specs.declared.engine.Engine.{Engine}
use Rattle.search_engine.specs.Searching.{IsExplained}
use Rattle.search_engine.proofs.BoundFacts.{broken-explained, broken-somewhere}
use Rattle.search_engine.proofs.LogFacts.{search-logged, turn-logged}
use Rattle.search_engine.proofs.engine.Engine.proceed.Goals as goal

-- what was found is broken by the problem's own bounds
broken-here : (ts terms : List GroundTerm) (bs bounds : List TermBound) (xs values : List (Option Bool))
    (o : Option BrokenBound) (f : BrokenBound) → ts ≡ terms → bs ≡ bounds → xs ≡ values → o ≡ Some f
    → IfSome o (λ (g : BrokenBound). IsBrokenAt ts bs xs g.place g.clause.items)
    → IsBrokenBy terms bounds values f.clause.items
broken-here ts terms bs bounds xs values o f a b d e h =
    let found : IsBrokenAt ts bs xs f.place f.clause.items = subst (λ (p : Option BrokenBound). IfSome p
    (λ (g : BrokenBound). IsBrokenAt ts bs xs g.place g.clause.items)) e h in
    let one : IsBrokenBy ts bs xs f.clause.items = broken-somewhere ts bs xs f.place f.clause.items found in
    subst (λ (t : List GroundTerm). IsBrokenBy t bounds values f.clause.items) a
    (subst (λ (t : List TermBound). IsBrokenBy ts t values f.clause.items) b
    (subst (λ (t : List (Option Bool)). IsBrokenBy ts bs t f.clause.items) d one))

pub settle_broken-requires-clause-explained : goal.settle_broken-requires-clause-explained
settle_broken-requires-clause-explained g c =
    let e : Engine = c.args.self.now in
    subst (IsExplained e.problem) (sym c.deref-in-Ok-Some.ensures.value)
    (broken-explained e c.requires.search c.in-Ok-Some.found.clause.items (broken-here c.terms-terms.result.now
    e.problem.terms c.bounds-bounds.result.now e.problem.bounds c.assignment.result.now e.store.trail.values
    c.in-Ok-Some.field-0 c.in-Ok-Some.found c.terms-terms.ensures.value c.bounds-bounds.ensures.value
    c.assignment.ensures.value c.in-Ok-Some.field-0-is c.in-Ok-Some.ensures.broken))

pub settle_broken-requires-clause-falsified : goal.settle_broken-requires-clause-falsified
settle_broken-requires-clause-falsified g c =
    let e : Engine = c.args.self.now in
    subst (IsFalsified e.store.trail.values) (sym c.deref-in-Ok-Some.ensures.value)
    (broken-here c.terms-terms.result.now
    e.problem.terms c.bounds-bounds.result.now e.problem.bounds c.assignment.result.now e.store.trail.values
    c.in-Ok-Some.field-0 c.in-Ok-Some.found c.terms-terms.ensures.value c.bounds-bounds.ensures.value
    c.assignment.ensures.value c.in-Ok-Some.field-0-is c.in-Ok-Some.ensures.broken).falsified

pub settle_broken-requires-clause-search : goal.settle_broken-requires-clause-search
settle_broken-requires-clause-search g c = search-logged c.args.self.now c.implied.new.self c.requires.search

pub returns-else-is_err-clause-turn : goal.returns-else-is_err-clause-turn
returns-else-is_err-clause-turn g c = c.settle_broken.ensures.turn c.args.assume.now
    (turn-logged c.args.self.now c.implied.new.self c.args.assume.now c.requires.turn)
