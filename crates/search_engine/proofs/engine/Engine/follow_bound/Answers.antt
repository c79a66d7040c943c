use Rattle.std.proofs.Common.{◌≡◌, ◌∷◌, List, refl, sym, subst}
use Rattle.std.proofs.lemmas.Result.{IfOk-weaker}
use Rattle.lit_core.specs.declared.literals.Lit.{Lit}
use Rattle.ground_core.specs.Problems.{ProblemState}
use Rattle.term_bounds.specs.declared.implying.Implication.{Implication}
use Rattle.term_bounds.specs.Implying.{IsImpliedAt}
use Rattle.search_engine.specs.declared.engine.Engine.{Engine}
use Rattle.search_engine.specs.declared.searching.Outcome.{Outcome}
use Rattle.search_engine.specs.Searching.{AreExplained, IsExplained, IsSearch, OutcomeGives, TurnEnds}
use Rattle.search_engine.proofs.BoundingFacts.{forced-explained}
use Rattle.search_engine.proofs.TurnFacts.{turn-from}
use Rattle.search_engine.proofs.engine.Engine.follow_bound.Goals as goal

-- the bound explains each literal with the reasons as they are read
read-explained : (e : Engine) → IsSearch e → (f : Implication) → IsImpliedAt e.problem.terms e.problem.bounds
    e.store.trail.values f.place f.reasons.items f.lits.items → (rs ls : List Lit) → rs ≡ f.reasons.items
    → ls ≡ f.lits.items → AreExplained e.problem rs ls
read-explained e h f w rs ls a b = subst (λ (xs : List Lit). AreExplained e.problem xs ls) (sym a)
    (subst (λ (xs : List Lit). AreExplained e.problem f.reasons.items xs) (sym b)
    (forced-explained e h f.place f.reasons.items f.lits.items w))

pub returns-in-None-clause-answer : goal.returns-in-None-clause-answer
returns-in-None-clause-answer c =
    let e : Engine = c.args.self.now in
    let f : Engine = c.advance.new.self in
    let assume = c.args.assume.now in
    let most = c.args.most in
    IfOk-weaker c.advance.result (OutcomeGives assume e f) (TurnEnds assume most e f)
    (λ (x : Outcome) (h : OutcomeGives assume e f x). turn-from assume most e e f x refl (λ goal-of a. a) h)
    c.advance.ensures.answer

pub force_by-requires-clause-explained : goal.force_by-requires-clause-explained
force_by-requires-clause-explained c =
    let e : Engine = c.args.self.now in
    let rs = c.as_slice-reasons.result.now in
    let h = c.in-Some.ensures.lookup in
    let all : AreExplained e.problem rs c.as_slice-lits.result.now = read-explained e c.requires.search c.args.found.now
    c.requires.implied rs c.as_slice-lits.result.now c.as_slice-reasons.ensures.value c.as_slice-lits.ensures.value in
    subst (λ (l : Lit). IsExplained e.problem (l ∷ rs)) (sym h.1) (all 0 c.in-Some.first.now h.3.0)

pub returns-in_err-force_by-in-Some-clause-turn : goal.returns-in_err-force_by-in-Some-clause-turn
returns-in_err-force_by-in-Some-clause-turn c = c.force_by.ensures.turn c.args.assume.now c.requires.turn

pub force_each-requires-clause-explained : goal.force_each-requires-clause-explained
force_each-requires-clause-explained c =
    let e : Engine = c.args.self.now in
    let rs = c.as_slice-reasons.result.now in
    let ls = c.as_slice-lits.result.now in
    let all : AreExplained e.problem rs ls = read-explained e c.requires.search c.args.found.now c.requires.implied rs ls
    c.as_slice-reasons.ensures.value c.as_slice-lits.ensures.value in
    subst (λ (p : ProblemState). AreExplained p rs ls) (sym c.force_by.ensures.same.problem) all

pub returns-in_err-force_each-in-Some-clause-turn : goal.returns-in_err-force_each-in-Some-clause-turn
returns-in_err-force_each-in-Some-clause-turn c = c.force_each.ensures.turn c.args.assume.now
    (c.force_by.ensures.turn c.args.assume.now c.requires.turn)

pub returns-in_ok-force_each-in-Some-clause-turn : goal.returns-in_ok-force_each-in-Some-clause-turn
returns-in_ok-force_each-in-Some-clause-turn c = c.force_each.ensures.turn c.args.assume.now
    (c.force_by.ensures.turn c.args.assume.now c.requires.turn)
