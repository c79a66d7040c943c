use Rattle.std.proofs.Common.{◌≡◌, Bool, Option, Some, List, IfSome, refl, subst}
use Rattle.std.proofs.lemmas.Result.{IfOk-weaker}
use Rattle.ground_core.specs.declared.parts.GroundTerm.{GroundTerm}
use Rattle.ground_core.specs.declared.parts.TermBound.{TermBound}
use Rattle.term_bounds.specs.declared.implying.Implication.{Implication}
use Rattle.term_bounds.specs.Implying.{IsImpliedAt}
use Rattle.search_engine.specs.declared.engine.Engine.{Engine}
use Rattle.search_engine.specs.declared.searching.Outcome.{Outcome}
use Rattle.search_engine.specs.Searching.{OutcomeGives, TurnEnds}
use Rattle.search_engine.proofs.TurnFacts.{turn-from}
use Rattle.search_engine.proofs.engine.Engine.infer_bounds.Goals as goal

-- what was found is forced by the problem's own bounds
forced-here : (ts terms : List GroundTerm) (bs bounds : List TermBound) (xs values : List (Option Bool))
    (o : Option Implication) (f : Implication) → ts ≡ terms → bs ≡ bounds → xs ≡ values → o ≡ Some f
    → IfSome o (λ (g : Implication). IsImpliedAt ts bs xs g.place g.reasons.items g.lits.items)
    → IsImpliedAt terms bounds values f.place f.reasons.items f.lits.items
forced-here ts terms bs bounds xs values o f a b d e h =
    let found : IsImpliedAt ts bs xs f.place f.reasons.items f.lits.items = subst (λ (p : Option Implication). IfSome p
    (λ (g : Implication). IsImpliedAt ts bs xs g.place g.reasons.items g.lits.items)) e h in
    subst (λ (t : List GroundTerm). IsImpliedAt t bounds values f.place f.reasons.items f.lits.items) a
    (subst (λ (t : List TermBound). IsImpliedAt ts t values f.place f.reasons.items f.lits.items) b
    (subst (λ (t : List (Option Bool)). IsImpliedAt ts bs t f.place f.reasons.items f.lits.items) d found))

pub returns-in-None-clause-answer : goal.returns-in-None-clause-answer
returns-in-None-clause-answer c =
    let e : Engine = c.args.self.now in
    let f : Engine = c.advance.new.self in
    let assume = c.args.assume.now in
    let most = c.args.most in
    IfOk-weaker c.advance.result (OutcomeGives assume e f) (TurnEnds assume most e f)
    (λ (x : Outcome) (h : OutcomeGives assume e f x). turn-from assume most e e f x refl (λ goal-of a. a) h)
    c.advance.ensures.answer

pub follow_bound-requires-clause-implied : goal.follow_bound-requires-clause-implied
follow_bound-requires-clause-implied c =
    let e : Engine = c.args.self.now in
    forced-here c.terms-terms.result.now e.problem.terms c.bounds-bounds.result.now e.problem.bounds
    c.assignment.result.now e.store.trail.values _ c.in-Some.found c.terms-terms.ensures.value
    c.bounds-bounds.ensures.value c.assignment.ensures.value c.in-Some.is c.in_ok-implied.ensures
